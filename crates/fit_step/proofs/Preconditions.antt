-- What the code's steps ask for holds of all parts of a record.
use Rattle.fit_step.proofs.Common.{◌≡◌, ℕ, ◌<◌, List, [], ◌∷◌, length, refl, sym, ap, subst, arith, length-append, Some, None, Option, IsSome, length-map}
use Rattle.fit_step.proofs.Common.{DevDef, MessageDef, dev_defs, DefinitionFits, DefinitionPhase, GlobalSecond, FieldNumber, FieldSize, FieldCode, DevCount}
use Rattle.fit_step.proofs.Common.{DevNumber, DevSize, DevIndex, no_items, TakenFields, width_of, taken, all_items, IsNew, HasNone, AwaitsFields, AwaitsDev}
use Rattle.fit_step.proofs.Common.{IsDefinitionPart, IsTaking, IsDefining, map}
use Rattle.fit_step.proofs.Takes.{as_many}

no_dev_fields : (dev : Option (List DevDef)) → HasNone dev → length (dev_defs dev) < 256
no_dev_fields None none = omega arith
no_dev_fields (Some defs) none = let empty : length defs ≡ 0 = ap length none in omega (arith, empty)

new_fits : {A : Type 0} (d : MessageDef A) → IsNew d → DefinitionFits d
new_fits d h = let empty : length d.fields ≡ 0 = ap length h.fields in
    record { local = h.local; global = h.global; fields = omega (arith, empty); dev_fields = no_dev_fields d.dev h.dev }

fields_fit : {A : Type 0} (d : MessageDef A) (left : ℕ) → AwaitsFields d left → DefinitionFits d
fields_fit d left h = record { local = h.local; global = h.global; fields = omega (arith, h.few); dev_fields = no_dev_fields d.dev h.dev }

dev_fits : {A : Type 0} (d : MessageDef A) (left : ℕ) → AwaitsDev d left → DefinitionFits d
dev_fits d left h =
    let known : length (dev_defs d.dev) ≡ length h.defs = ap (λ o. length (dev_defs o)) h.dev in
    record { local = h.local; global = h.global; fields = h.fields; dev_fields = omega (arith, known, h.few) }

some_dev : {A : Type 0} (d : MessageDef A) (left : ℕ) → AwaitsDev d left → IsSome d.dev
some_dev d left h = subst IsSome (sym h.dev) refl

pub is_defining : {A : Type 0} (k : DefinitionPhase) (d : MessageDef A) → IsDefinitionPart k d → IsDefining k d
is_defining (GlobalSecond first) d h = new_fits d h.0
is_defining (FieldNumber left) d h = (fields_fit d left h, h.some)
is_defining (FieldSize left number) d h = (fields_fit d left h, h.some)
is_defining (FieldCode left number size) d h = (fields_fit d left h, h.some)
is_defining DevCount d h = (dev_fits d 0 h.0, some_dev d 0 h.0)
is_defining (DevNumber left) d h = (dev_fits d left h.0, h.1, some_dev d left h.0)
is_defining (DevSize left number) d h = (dev_fits d left h.0, h.1, some_dev d left h.0)
is_defining (DevIndex left number size) d h = (dev_fits d left h.0, h.1, some_dev d left h.0)
is_defining k d h = new_fits d h

-- a data message in progress has as many fields as are defined
pub as_defined : {A : Type 0} (all : List (ℕ × ℕ)) (t : TakenFields A) → IsTaking all t → length (all_items t) ≡ length all
as_defined {A} all t s =
    omega (
      arith,
      ap length s.layout,
      length-append t.done (t.field ∷ t.to_come),
      length-append t.whole ((record { width = width_of t; bits = t.bits }) ∷ []),
      length-append (taken t) (map no_items t.to_come),
      as_many t.done t.whole s.shapes,
      length-map t.to_come (no_items {A = A}),
    )
