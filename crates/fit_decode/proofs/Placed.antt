-- A record that stands in its place after the bytes of a data section.
use Rattle.fit_decode.proofs.Common.{◌≡◌, ℕ, List, ◌++◌, take, refl, sym, subst, None, Ok, Err, true, Record, Environment, Position, Stop, Stage}
use Rattle.fit_decode.proofs.Common.{DataFed, section_of, FileHeader}
use Rattle.std.specs.Prelude.{Option, Result}
use Rattle.fit_step.specs.InProgress.{ReadsInPlace}
use Rattle.fit_decode.specs.declared.section.Part.{Part}
use Rattle.fit_decode.specs.declared.section.Part.TheVariants as parts
use Rattle.fit_decode.specs.inner.Sections.{as_event, left_by}

pub placed_fed : {A : Type 0} (old : Stage) (known : Environment A) (before : Position) (idle : Option (Record A)) (covered : List ℕ) (new : Stage)
    (env : Environment A) (position : Position) (in_progress : Option (Record A)) (sum piece : List ℕ) (used : ℕ)
    → ReadsInPlace known before idle env position in_progress piece used (Ok true) → sum ≡ covered ++ take used piece
    → new ≡ record old { section = section_of position.room }
    → (head : Option FileHeader) → DataFed old known before idle covered new env position None sum piece used (as_event in_progress head (Ok parts.Record))
placed_fed old known before idle covered new env position in_progress sum piece used (r, stands, reads) summed goes_on head =
    subst (λ o. DataFed old known before idle covered new env position None sum piece used (as_event o head (Ok parts.Record))) (sym stands)
    (reads, summed, goes_on)

-- no record is taken from an empty place
pub left_idle : {A : Type 0} (placed : Option (Record A)) (answer : Result Part Stop) → placed ≡ None → left_by placed answer ≡ placed
left_idle placed (Ok parts.Record) none = sym none
left_idle placed (Ok parts.More) none = refl
left_idle placed (Ok (parts.Header n)) none = refl
left_idle placed (Ok parts.FileEnd) none = refl
left_idle placed (Err stop) none = refl
