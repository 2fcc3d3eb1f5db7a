-- What the code's walks over the bytes of a header, or of a closing checksum, say. No public contract names these.
use Rattle.std.specs.Prelude.{◌≡◌, ℕ, ◌<◌, ◌≤◌, if◌then◌else◌, Bool, true, false, List, [], ◌∷◌, ◌++◌, take, length, slice_index, Option, Some, None, Result}
use Rattle.std.specs.Prelude.{Ok, Err, ◌%◌}
use Rattle.fit_base.specs.Numbers.{little_bytes}
use Rattle.fit_frame.specs.declared.header.Header.{Header}
use Rattle.fit_frame.specs.declared.reason.Reason.{Reason}
use Rattle.fit_frame.specs.declared.reason.Reason.TheVariants.{FileSum}
use Rattle.fit_frame.specs.Beginning.{Seen, IsFileHeader, IsWholeHeader, BeginsHeader, RefusesByte}

-- Bytes of a header, and not all of them.
abbrev pub IsHeaderPart : List ℕ → Type 0
IsHeaderPart bytes = BeginsHeader bytes × (IsWholeHeader bytes → ⊥)

-- After the bytes of a header that had come, that many of the piece were used.
abbrev pub HeaderScanned : List ℕ → List ℕ → Seen → ℕ → Result (Option (Header × ℕ)) Reason → Type 0
HeaderScanned front piece new used (Ok None) =
    (used ≡ length piece) × (new ≡ record { bytes = front ++ take used piece; refusal = None }) × IsHeaderPart (front ++ take used piece)
HeaderScanned front piece new used (Ok (Some whole)) =
    (0 < used) × (used ≤ length piece) × (new ≡ record { bytes = front ++ take used piece; refusal = None })
    × IsFileHeader whole.0 whole.1 (front ++ take used piece)
HeaderScanned front piece new used (Err reason) =
    (used < length piece) × (new ≡ record { bytes = front ++ take used piece; refusal = Some reason })
    × IsHeaderPart (front ++ take used piece) × RefusesByte (front ++ take used piece) (slice_index piece used) reason

-- the bytes of a closing checksum that have come
abbrev pub half_sum : ℕ → Bool → List ℕ
half_sum sum half = if half then sum % 256 ∷ [] else []

-- After the bytes of a closing checksum that had come, that many of the piece were used.
abbrev pub SumScanned : ℕ → Bool → List ℕ → Bool → ℕ → Result Bool Reason → Type 0
SumScanned sum before piece after used (Ok false) = (used ≡ length piece) × (half_sum sum before ++ take used piece ≡ half_sum sum after)
SumScanned sum before piece after used (Ok true) =
    (0 < used) × (used ≤ length piece) × (after ≡ false) × (half_sum sum before ++ take used piece ≡ little_bytes 2 sum)
SumScanned sum before piece after used (Err reason) =
    (reason ≡ FileSum) × (used < length piece) × (half_sum sum before ++ take used piece ≡ half_sum sum after)
    × ((rest : List ℕ) → little_bytes 2 sum ≡ (half_sum sum after ++ slice_index piece used ∷ []) ++ rest → ⊥)
