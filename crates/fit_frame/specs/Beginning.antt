-- Bytes that begin a header of a file, and the reason of a byte with which they don't.
use Rattle.std.specs.Prelude.{◌≡◌, ℕ, ◌≤◌, nat_le, nat_lt, ◌==◌, ◌&&◌, if◌then◌else◌, ◌⊎◌, List, [], ◌∷◌, ◌++◌, length, Option, Some, None}
use Rattle.fit_base.specs.Numbers.{IsBytes}
use Rattle.fit_frame.specs.declared.header.Header.{Header}
use Rattle.fit_frame.specs.declared.reason.Reason.{Reason}
use Rattle.fit_frame.specs.declared.reason.Reason.TheVariants.{HeaderSize, Protocol, NoFit, Signature, HeaderSum}
use Rattle.fit_frame.specs.Header.{IsHeader}

-- Records can fill a data section of n bytes: it is empty, or holds a definition message without fields at least.
abbrev pub IsDataSize : ℕ → Type 0
IsDataSize n = (n ≡ 0) ⊎ (6 ≤ n)

-- The bytes are the header of a file whose n bytes of data can be records.
abbrev pub IsFileHeader : Header → ℕ → List ℕ → Type 0
IsFileHeader h n bytes = IsHeader h n bytes × IsDataSize n

-- The bytes are a whole header of a file.
pub record IsWholeHeader (bytes : List ℕ) : Type 0 where
  pub header : Header
  pub data_size : ℕ
  pub is : IsFileHeader header data_size bytes

-- Some more bytes make these ones a header of a file.
pub record BeginsHeader (bytes : List ℕ) : Type 0 where
  pub more : List ℕ
  pub are_bytes : IsBytes more
  pub whole : IsWholeHeader (bytes ++ more)

-- The bytes begin a header of a file, and aren't all of it.
abbrev pub IsUnfinishedHeader : List ℕ → Type 0
IsUnfinishedHeader bytes = BeginsHeader bytes × (IsWholeHeader bytes → ⊥)

-- What begins with a whole header is, if it begins a header, that header and no more.
abbrev pub HeadersEndOnce : Type 0
HeadersEndOnce = (h : Header) (n : ℕ) (bytes x : List ℕ) → IsHeader h n bytes → BeginsHeader (bytes ++ x) → x ≡ []

-- The reason of a byte that is refused after this many others of a header.
abbrev pub header_reason : ℕ → Reason
header_reason place =
    if place == 0 then HeaderSize else (if place == 1 then Protocol else (if place == 7 then NoFit else
    (if nat_le 8 place && nat_lt place 12 then Signature else HeaderSum)))

-- The bytes begin a header of a file, with b after them they begin none, and this is the reason.
pub record RefusesByte (bytes : List ℕ) (b : ℕ) (reason : Reason) : Type 0 where
  pub begins : BeginsHeader bytes
  pub ends : BeginsHeader (bytes ++ b ∷ []) → ⊥
  pub why : reason ≡ header_reason (length bytes)

-- What a reader of a header has seen: the bytes put that weren't refused, and the refusal if there was one.
pub record Seen : Type 0 where
  pub bytes : List ℕ
  pub refusal : Option Reason

-- these bytes, and no refusal
abbrev pub has_seen : List ℕ → Seen
has_seen bytes = record { bytes = bytes; refusal = None }

-- these bytes, and the refusal of the one after them
abbrev pub has_refused : List ℕ → Reason → Seen
has_refused bytes reason = record { bytes = bytes; refusal = Some reason }
