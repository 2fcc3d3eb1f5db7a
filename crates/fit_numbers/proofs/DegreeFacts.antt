-- The whole number nearest to a quotient.
use Rattle.fit_numbers.proofs.Common.{◌≡◌, ℤ, arith, ints, IsDegrees}

pub one_degrees : (s v w : ℤ) → IsDegrees s v → IsDegrees s w → v ≡ w
one_degrees s v w a b = grind (arith, ints, a, b)
