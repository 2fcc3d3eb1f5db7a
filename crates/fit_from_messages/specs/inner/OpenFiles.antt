-- Files of which some blocks have come. No public contract names these.
use Rattle.std.specs.Prelude.{◌≡◌, ℕ, ◌++◌, [], length, slice_index_or, IfSome}
use Rattle.fit_frame.specs.Header.{FormFits}
use Rattle.fit_record.specs.Environment.{defined_at, empty_environment, learn_all}
use Rattle.fit_record.specs.Records.{AllFit, dev_layout, layout}
use Rattle.fit_from_messages.specs.SaysChain.{Begun}
use Rattle.fit_from_messages.specs.declared.file.OpenFile.{OpenFile}
use Rattle.fit_from_messages.specs.Slots.{SlotsFit}

-- what blocks have said of the file
abbrev pub begun_of : OpenFile → Begun
begun_of f = record { header = f.header; records = f.records; slots = f.slots }

-- What its records define is known, and the items of messages have the shapes that are defined.
pub record IsGoodFile (f : OpenFile) : Type 0 where
  pub form : FormFits f.header
  pub known : f.env ≡ learn_all empty_environment f.records
  pub fit : AllFit empty_environment f.records
  pub sixteen : length f.slots ≡ 16
  pub slots : (local : ℕ) → IfSome (defined_at f.env local) (λ p. SlotsFit (layout p ++ dev_layout p) (slice_index_or f.slots local []))
