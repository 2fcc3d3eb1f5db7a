-- What holds of events and refusals.
use Rattle.std.specs.Prelude.{◌≡◌, ◌↔◌, ℕ, ◌<◌, ◌≤◌, List, [], ◌∷◌, ◌++◌, length}
use Rattle.fit_base.specs.Numbers.{IsBytes}
use Rattle.fit_frame.specs.declared.reason.Reason.{Reason}
use Rattle.fit_record.specs.declared.file.FitFile.{FitFile}
use Rattle.fit_record.specs.Files.{chain_limit, IsChain, IsViable}
use Rattle.fit_chain.specs.Progress.{Progress, HasCome}
use Rattle.fit_chain.specs.GoingOn.{ChainGoesOn}
use Rattle.fit_chain.specs.Events.{Event, AreEvents, bound}
use Rattle.fit_chain.specs.Held.{bound_limit}
use Rattle.fit_chain.specs.Refusals.{IsRefused}
use Rattle.fit_chain.specs.Needs.{missing}

-- The bytes of a chain have come to one place: there is one list of files, and one rest that isn't whole.
abbrev pub ProgressIsOne : Type 0 → Type 0
ProgressIsOne A = (files others : List (FitFile A)) (progress other : Progress A) (bytes : List ℕ) → HasCome files progress bytes → HasCome others other bytes
    → (files ≡ others) × (progress ≡ other)

-- Bytes have one list of events.
abbrev pub EventsAreOne : Type 0 → Type 0
EventsAreOne A = (bytes : List ℕ) (events others : List (Event A)) → AreEvents bytes events → AreEvents bytes others → events ≡ others

-- Bytes with which some chain begins have events.
abbrev pub ViableHaveEvents : Type 0 → Type 0
ViableHaveEvents A = (limit : ℕ) (bytes : List ℕ) → IsViable A limit bytes → (events : List (Event A)) × AreEvents bytes events

-- A byte is refused for one reason at most.
abbrev pub ReasonsAreOne : Type 0 → Type 0
ReasonsAreOne A = (limit : ℕ) (bytes : List ℕ) (b : ℕ) (reason other : Reason) → IsRefused A limit bytes b reason → IsRefused A limit bytes b other
    → reason ≡ other

-- A byte with which no chain of at most that many files begins, after bytes with which one does, has a reason.
abbrev pub RefusedHaveReasons : Type 0 → Type 0
RefusedHaveReasons A = (limit : ℕ) (bytes : List ℕ) (b : ℕ) → limit ≤ chain_limit → IsBytes bytes → b < 256
    → IsViable A limit bytes → (IsViable A limit (bytes ++ b ∷ []) → ⊥) → (reason : Reason) × IsRefused A limit bytes b reason

-- Some chain of at most that many files begins with the bytes exactly where what there is of it can go on.
abbrev pub ChainsGoOn : Type 0 → Type 0
ChainsGoOn A = (limit : ℕ) (files : List (FitFile A)) (progress : Progress A) (bytes : List ℕ) → HasCome files progress bytes → IsBytes bytes
    → IsViable A limit bytes ↔ ChainGoesOn limit files progress

-- No file ends before as many bytes more have come as are missing.
abbrev pub FilesEndNoSooner : Type 0 → Type 0
FilesEndNoSooner A = (limit : ℕ) (files others : List (FitFile A)) (progress : Progress A) (bytes more : List ℕ)
    → HasCome files progress bytes → IsChain limit others (bytes ++ more) → length files < length others → missing (length files) progress ≤ length more

-- What begins a chain of at most that many files, and has no whole file in it, begins a file.
abbrev pub FirstFilesAreFiles : Type 0 → Type 0
FirstFilesAreFiles A = (limit : ℕ) (progress : Progress A) (bytes : List ℕ) → HasCome [] progress bytes → IsBytes bytes → 0 < limit
    → IsViable A limit bytes ↔ IsViable A 1 bytes

-- What a reader holds after some bytes is limited.
abbrev pub BoundsAreLimited : Type 0 → Type 0
BoundsAreLimited A = (files : List (FitFile A)) (progress : Progress A) (bytes : List ℕ) → HasCome files progress bytes → IsBytes bytes
    → bound progress ≤ bound_limit
