-- The developer fields of a message, place by place.
use Rattle.fit_texts.proofs.Common.{◌≡◌, ◌∙◌, ◌++◌, [], length, get_or, ap}
use Rattle.fit_texts.proofs.Common.{ap₂, option_and_then, slice_get, slice_get-get_or, DevDef, Naming, nameless, dev_label}
use Rattle.std.proofs.Common.{◌<◌, ℕ, List, codes, decimal}
use Rattle.std.specs.Prelude.{unwrap_or}

abbrev pub nothing : DevDef
nothing = record { number = 0; size = 0; index = 0 }

-- the label and the unit that a naming gives
pub dev_texts : (f : DevDef) (namings : List Naming) (k : ℕ) (numbered label unit : List ℕ) → k < length namings
    → numbered ≡ codes "dev_" ++ decimal f.index ++ codes "_" ++ decimal f.number
    → label ≡ unwrap_or (option_and_then (λ t. t.name) (slice_get namings k)) numbered
    → unit ≡ unwrap_or (option_and_then (λ t. t.unit) (slice_get namings k)) []
    → (label ≡ dev_label f (get_or namings k nameless)) × (unit ≡ unwrap_or (get_or namings k nameless).unit [])
dev_texts f namings k numbered label unit within plain named measured =
    let there = slice_get-get_or namings k nameless within in (
      named ∙ ap₂ (λ o text. unwrap_or (option_and_then (λ (t : Naming). t.name) o) text) there plain,
      measured ∙ ap (λ o. unwrap_or (option_and_then (λ (t : Naming). t.unit) o) []) there,
    )
