-- What the reader of a header asks of each byte. Proofs tie it to the beginnings of headers.
use Rattle.std.specs.Prelude.{◌≡◌, ◌≢◌, ℕ, ◌+◌, ◌*◌, ◌/◌, ◌%◌, ◌<◌, ◌≤◌, ◌⊎◌, List, [], length, take, drop, slice_index}
use Rattle.fit_base.specs.Numbers.{IsBytes}
use Rattle.fit_sum.specs.Checksum.{checksum}
use Rattle.fit_frame.specs.declared.header.Header.{Header}
use Rattle.fit_frame.specs.declared.header.HeaderSum.{HeaderSum}
use Rattle.fit_frame.specs.declared.header.HeaderSum.TheVariants.{Absent, Zero, True}
use Rattle.fit_frame.specs.Beginning.{IsDataSize}

-- the number in two bytes, the lowest first
abbrev pub two_bytes : ℕ → ℕ → ℕ
two_bytes a b = a + 256 * b

-- the number in four bytes, the lowest first
abbrev pub four_bytes : ℕ → ℕ → ℕ → ℕ → ℕ
four_bytes a b c d = a + 256 * (b + 256 * (c + 256 * d))

-- b may follow these bytes.
pub record MayFollow (bytes : List ℕ) (b : ℕ) : Type 0 where
  pub size : length bytes ≡ 0 → (b ≡ 12) ⊎ (14 ≤ b)
  pub version : length bytes ≡ 1 → b / 16 ≤ 2
  pub data_size : length bytes ≡ 7 → IsDataSize (four_bytes (slice_index bytes 4) (slice_index bytes 5) (slice_index bytes 6) b)
  pub letter_8 : length bytes ≡ 8 → b ≡ 0x2E
  pub letter_9 : length bytes ≡ 9 → b ≡ 0x46
  pub letter_10 : length bytes ≡ 10 → b ≡ 0x49
  pub letter_11 : length bytes ≡ 11 → b ≡ 0x54
  pub low : length bytes ≡ 12 → (b ≡ 0) ⊎ (b ≡ checksum bytes % 256)
  pub high : length bytes ≡ 13 → ((slice_index bytes 12 ≡ 0) × (b ≡ 0)) ⊎ (two_bytes (slice_index bytes 12) b ≡ checksum (take 12 bytes))

-- Each of the bytes may follow those before it.
abbrev pub AreJudged : List ℕ → Type 0
AreJudged bytes = (k : ℕ) → k < length bytes → MayFollow (take k bytes) (slice_index bytes k)

-- There are as many bytes as the first one says.
abbrev pub HasItsSize : List ℕ → Type 0
HasItsSize bytes = (0 < length bytes) × (length bytes ≡ slice_index bytes 0)

-- what the bytes from place 12 on are read as
abbrev pub ReadsWord : HeaderSum → List ℕ → List ℕ → Type 0
ReadsWord Absent bytes rest = (length bytes ≡ 12) × (rest ≡ [])
ReadsWord Zero bytes rest = (14 ≤ length bytes) × (rest ≡ drop 14 bytes) × (two_bytes (slice_index bytes 12) (slice_index bytes 13) ≢ checksum (take 12 bytes))
ReadsWord True bytes rest = (14 ≤ length bytes) × (rest ≡ drop 14 bytes) × (two_bytes (slice_index bytes 12) (slice_index bytes 13) ≡ checksum (take 12 bytes))

-- The bytes are read as this header and this data size.
pub record ReadsAs (h : Header) (n : ℕ) (bytes : List ℕ) : Type 0 where
  pub size : h.size ≡ slice_index bytes 0
  pub protocol : h.protocol ≡ slice_index bytes 1
  pub profile : h.profile ≡ two_bytes (slice_index bytes 2) (slice_index bytes 3)
  pub data_size : n ≡ four_bytes (slice_index bytes 4) (slice_index bytes 5) (slice_index bytes 6) (slice_index bytes 7)
  pub word : ReadsWord h.sum bytes h.rest.items

-- What a reader has put by: bytes, each of which may follow those before it, and no more than the first one says.
pub record IsReading (bytes : List ℕ) : Type 0 where
  pub judged : AreJudged bytes
  pub are_bytes : IsBytes bytes
  pub within : 0 < length bytes → length bytes ≤ slice_index bytes 0
