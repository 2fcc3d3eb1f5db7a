-- A checksum has sixteen bits.
use Rattle.fit_sum.proofs.Common.{◌≡◌, ℕ, ◌*◌, ◌^◌, ◌<◌, Bool, true, false, List, [], ◌∷◌, ◌++◌, length, subst, lit<, arith, flat_map, pow-suc, remainder}
use Rattle.fit_sum.proofs.Common.{low_bits, from_bits, checksum}
use Rattle.std.specs.Prelude.{replicate}
use Rattle.fit_sum.proofs.PolynomialLengths.{length-remainder, length-dividend}

from_bits-below : (bits : List Bool) → from_bits bits < 2 ^ length bits
from_bits-below [] = lit< tt
from_bits-below (true ∷ bits) = rw pow-suc (omega (arith, from_bits-below bits))
from_bits-below (false ∷ bits) = rw pow-suc (omega (arith, from_bits-below bits))

pub checksum-below : (bytes : List ℕ) → checksum bytes < 2 ^ 16
unfolding checksum
checksum-below bytes =
    let n = 8 * length bytes in
    let dividend = flat_map (low_bits 8) bytes ++ replicate 16 false in
    let sixteen : length (remainder n dividend) ≡ 16 = length-remainder n 16 dividend (length-dividend bytes) in
    subst (λ k. from_bits (remainder n dividend) < 2 ^ k) sixteen (from_bits-below (remainder n dividend))
