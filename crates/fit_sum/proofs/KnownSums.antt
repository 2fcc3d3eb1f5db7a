-- Checksums that are known from outside, computed by the definition.
use Rattle.fit_sum.proofs.Common.{◌≡◌, [], ◌∷◌, refl, checksum}

-- of the nine digits 1 to 9, the check value that catalogues of checksums give
nine_digits : checksum (0x31 ∷ 0x32 ∷ 0x33 ∷ 0x34 ∷ 0x35 ∷ 0x36 ∷ 0x37 ∷ 0x38 ∷ 0x39 ∷ []) ≡ 0xBB3D
unfolding checksum
nine_digits = refl

-- of the twelve bytes before the header's checksum in a file without records
empty_file : checksum (0x0E ∷ 0x20 ∷ 0 ∷ 0 ∷ 0 ∷ 0 ∷ 0 ∷ 0 ∷ 0x2E ∷ 0x46 ∷ 0x49 ∷ 0x54 ∷ []) ≡ 0x859C
unfolding checksum
empty_file = refl
