-- Headers that are known from outside, and their bytes.
use Rattle.fit_frame.proofs.Common.{◌≡◌, ◌<◌, ◌^◌, ℕ, List, [], ◌∷◌, refl, lit<, lit≤, checksum, Header, HeaderSum, Absent, Zero, True, fixed_part, IsHeader}
use Rattle.fit_frame.proofs.Common.{HeaderFits, SizeFits}

-- protocol version 2.0
abbrev version_2 : ℕ → ℕ → HeaderSum → List ℕ → Header
version_2 size profile sum rest = record { size = size; protocol = 0x20; profile = profile; sum = sum; rest = record { items = rest } }

fits : (size profile : ℕ) (sum : HeaderSum) (rest : List ℕ) → SizeFits sum size rest → size < 2 ^ 8 → profile < 2 ^ 16
    → ((sum ≡ Zero) × (checksum (fixed_part (version_2 size profile sum rest) 0) ≡ 0) → ⊥) → HeaderFits (version_2 size profile sum rest) 0
fits size profile sum rest form small few zero =
    record { form = record { size = form; version = lit≤ tt }; size_fits = small; profile_fits = few; data_fits = lit< tt; sum = zero }

-- of a file without data
with_sum : IsHeader (version_2 14 0 True []) 0 (0x0E ∷ 0x20 ∷ 0 ∷ 0 ∷ 0 ∷ 0 ∷ 0 ∷ 0 ∷ 0x2E ∷ 0x46 ∷ 0x49 ∷ 0x54 ∷ 0x9C ∷ 0x85 ∷ [])
unfolding checksum
with_sum = (fits 14 0 True [] refl (lit< tt) (lit< tt) (λ z. cc (z.0)), refl)

with_zeros : IsHeader (version_2 14 0 Zero []) 0 (0x0E ∷ 0x20 ∷ 0 ∷ 0 ∷ 0 ∷ 0 ∷ 0 ∷ 0 ∷ 0x2E ∷ 0x46 ∷ 0x49 ∷ 0x54 ∷ 0 ∷ 0 ∷ [])
unfolding checksum
with_zeros = (fits 14 0 Zero [] refl (lit< tt) (lit< tt) (λ z. cc (z.1)), refl)

without_sum : IsHeader (version_2 12 0 Absent []) 0 (0x0C ∷ 0x20 ∷ 0 ∷ 0 ∷ 0 ∷ 0 ∷ 0 ∷ 0 ∷ 0x2E ∷ 0x46 ∷ 0x49 ∷ 0x54 ∷ [])
without_sum = (fits 12 0 Absent [] (refl, refl) (lit< tt) (lit< tt) (λ z. cc (z.0)), refl)

longer : IsHeader (version_2 16 0 True (0x41 ∷ 0x42 ∷ [])) 0 (0x10 ∷ 0x20 ∷ 0 ∷ 0 ∷ 0 ∷ 0 ∷ 0 ∷ 0 ∷ 0x2E ∷ 0x46 ∷ 0x49 ∷ 0x54 ∷ 0xB4 ∷ 0xAD ∷ 0x41 ∷ 0x42 ∷ [])
unfolding checksum
longer = (fits 16 0 True (0x41 ∷ 0x42 ∷ []) refl (lit< tt) (lit< tt) (λ z. cc (z.0)), refl)

-- whose sum is 0: its word is that of the sum, and zeros can't stand in its place
sum_of_zero : IsHeader (version_2 14 46477 True []) 0 (0x0E ∷ 0x20 ∷ 0x8D ∷ 0xB5 ∷ 0 ∷ 0 ∷ 0 ∷ 0 ∷ 0x2E ∷ 0x46 ∷ 0x49 ∷ 0x54 ∷ 0 ∷ 0 ∷ [])
unfolding checksum
sum_of_zero = (fits 14 46477 True [] refl (lit< tt) (lit< tt) (λ z. cc (z.0)), refl)

no_zeros : HeaderFits (version_2 14 46477 Zero []) 0 → ⊥
unfolding checksum
no_zeros fits = fits.sum (refl, refl)
