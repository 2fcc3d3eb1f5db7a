-- The computed number of degrees is the nearest one.
use Rattle.fit_table.proofs.Common.{negsuc, arith, IsDegrees}
use Rattle.std.proofs.Common.{ℤ, pos}
use Rattle.std.proofs.lemmas.Int.{ints}
use Rattle.fit_table.specs.Degrees.{degrees_of}

pub nearest-degrees : (s : ℤ) → IsDegrees s (degrees_of s)
nearest-degrees (pos s) = record { near = omega (arith, ints); away = λ e. omega (arith, ints, e) }
nearest-degrees (negsuc s) = record { near = omega (arith, ints); away = λ e. omega (arith, ints, e) }
