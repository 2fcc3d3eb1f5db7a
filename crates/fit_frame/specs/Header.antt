-- The file header (section "File Header").
use Rattle.std.specs.Prelude.{◌≡◌, ℕ, ◌+◌, ◌/◌, ◌<◌, ◌≤◌, ◌^◌, ◌⊎◌, List, [], ◌∷◌, ◌++◌, length}
use Rattle.fit_base.specs.Numbers.{little_bytes}
use Rattle.fit_sum.specs.Checksum.{checksum}
use Rattle.fit_frame.specs.declared.header.Header.{Header}
use Rattle.fit_frame.specs.declared.header.HeaderSum.{HeaderSum}
use Rattle.fit_frame.specs.declared.header.HeaderSum.TheVariants.{Absent, Zero, True}

-- the letters ".FIT"
abbrev pub signature : List ℕ
signature = 0x2E ∷ 0x46 ∷ 0x49 ∷ 0x54 ∷ []

-- The first twelve bytes, before n bytes of data: size, protocol version, profile version, data size, signature.
abbrev pub fixed_part : Header → ℕ → List ℕ
fixed_part h n = h.size ∷ h.protocol ∷ little_bytes 2 h.profile ++ little_bytes 4 n ++ signature

-- the two bytes after them, where there are any
abbrev pub sum_part : HeaderSum → List ℕ → List ℕ
sum_part Absent fixed = []
sum_part Zero fixed = 0 ∷ 0 ∷ []
sum_part True fixed = little_bytes 2 (checksum fixed)

-- the one spelling of a header before n bytes of data
abbrev pub header_bytes : Header → ℕ → List ℕ
header_bytes h n = fixed_part h n ++ sum_part h.sum (fixed_part h n) ++ h.rest.items

-- Without a sum there are twelve bytes. With one there are fourteen and any further ones.
abbrev pub SizeFits : HeaderSum → ℕ → List ℕ → Type 0
SizeFits Absent size rest = (size ≡ 12) × (rest ≡ [])
SizeFits Zero size rest = size ≡ 14 + length rest
SizeFits True size rest = size ≡ 14 + length rest

-- The size is that of the parts, and the major version is 0, 1 or 2.
pub record FormFits (h : Header) : Type 0 where
  pub size : SizeFits h.sum h.size h.rest.items
  pub version : h.protocol / 16 ≤ 2

-- zeros in place of a sum that is 0 itself
abbrev pub ZeroIsSum : Header → ℕ → Type 0
ZeroIsSum h n = (h.sum ≡ Zero) × (checksum (fixed_part h n) ≡ 0)

-- the number from which on a data size doesn't have room in its four bytes
abbrev pub data_limit : ℕ
data_limit = 2 ^ 32

-- The header can come before n bytes of data: it has that form, its numbers have the width of their places, and zeros stand
-- for no sum of 0.
pub record HeaderFits (h : Header) (n : ℕ) : Type 0 where
  pub form : FormFits h
  pub size_fits : h.size < 2 ^ 8
  pub profile_fits : h.profile < 2 ^ 16
  pub data_fits : n < data_limit
  pub sum : ZeroIsSum h n → ⊥

-- The bytes are the header of a file with n bytes of data.
abbrev pub IsHeader : Header → ℕ → List ℕ → Type 0
IsHeader h n bytes = HeaderFits h n × (bytes ≡ header_bytes h n)

-- A header, its data size and what follows are read from the bytes in one way.
abbrev pub HeadersHaveOneSpelling : Type 0
HeadersHaveOneSpelling = (h k : Header) (m n : ℕ) (b c x y : List ℕ) → IsHeader h m b → IsHeader k n c → b ++ x ≡ c ++ y
    → (h ≡ k) × (m ≡ n) × (b ≡ c) × (x ≡ y)

-- A header has as many bytes as its size says: twelve, or from 14 to 255.
abbrev pub HeadersHaveTheirSize : Type 0
HeadersHaveTheirSize = (h : Header) (n : ℕ) (b : List ℕ) → IsHeader h n b
    → (length b ≡ h.size) × ((h.size ≡ 12) ⊎ ((14 ≤ h.size) × (h.size ≤ 255)))
