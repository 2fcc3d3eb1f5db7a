-- There is no fault just where a record fits.
use Rattle.fit_record.proofs.Common.{◌≡◌, ℕ, ◌^◌, ◌<◌, length, refl, sym, ap, subst, ◌∙◌, Some, None, ltb, ltb-true, lt-ltb, Result, IfErr, OnErr, option_map}
use Rattle.fit_record.proofs.Common.{IsSomeAnd, MessageDef, Record, Define, Data, Defined, ShapeFault, UndefinedLocal, WrongShape, Environment, defined_at}
use Rattle.fit_record.proofs.Common.{dev_defs, layout, dev_layout, DefinitionFits, DataHeaderFits, DataFits, Fits, or_else, wrong_from, header_fault}
use Rattle.fit_record.proofs.Common.{body_fault, definition_fault, first_fault, FaultsAreExact, Option, Ok, Err, Values}
use Rattle.fit_record.proofs.WrongPlace.{wrong_none, none_wrong, cond_none}

pub header_none : (local : ℕ) (offset : Option ℕ) → DataHeaderFits local offset → header_fault local offset ≡ None
header_none local None h = rw (lt-ltb local 16 h) refl
header_none local (Some offset) h = rw (lt-ltb local 4 h.0, lt-ltb offset 32 h.1) refl

none_header : (local : ℕ) (offset : Option ℕ) → header_fault local offset ≡ None → DataHeaderFits local offset
none_header local None h = ltb-true local 16 (cond_none _ _ _ h).0
none_header local (Some offset) h =
    let first = cond_none (ltb local 4) _ _ h in
    (ltb-true local 4 first.0, ltb-true offset 32 (cond_none (ltb offset 32) _ _ first.1).0)

neither : {X : Type 0} (a b : Option X) → or_else a b ≡ None → (a ≡ None) × (b ≡ None)
neither None b h = (refl, h)
neither (Some x) b h = cc

unmapped : (o : Option ℕ) → option_map WrongShape o ≡ None → o ≡ None
unmapped None h = refl
unmapped (Some x) h = cc

data_none : {A : Type 0} (o : Option (Defined A)) (v : Values A) → IsSomeAnd o (DataFits v) → or_else (header_fault v.local v.offset) (body_fault o v) ≡ None
data_none None v h = absurd h
data_none (Some p) v h =
    ap (λ f. or_else f (body_fault (Some p) v)) (header_none v.local v.offset h.header)
    ∙ ap (λ f. option_map WrongShape (or_else f (wrong_from (length p.definition.fields) (dev_layout p) v.dev))) (wrong_none 0 (layout p) v.fields h.fields)
    ∙ ap (option_map WrongShape) (wrong_none (length p.definition.fields) (dev_layout p) v.dev h.dev_fields)

none_data : {A : Type 0} (o : Option (Defined A)) (v : Values A) → or_else (header_fault v.local v.offset) (body_fault o v) ≡ None → IsSomeAnd o (DataFits v)
none_data None v h = let both = neither (header_fault v.local v.offset) (Some UndefinedLocal) h in let e : Some UndefinedLocal ≡ None = both.1 in cc
none_data (Some p) v h =
    let both = neither (header_fault v.local v.offset) (body_fault (Some p) v) h in
    let places = neither (wrong_from 0 (layout p) v.fields) _ (unmapped _ both.1) in
    record {
      header = none_header v.local v.offset both.0;
      fields = none_wrong 0 (layout p) v.fields places.0;
      dev_fields =
          none_wrong _ (dev_layout p) v.dev places.1;
    }

definition_none : {A : Type 0} (d : MessageDef A) → DefinitionFits d → definition_fault d ≡ None
definition_none d h = rw (lt-ltb d.local 16 h.local, lt-ltb (length d.fields) 256 h.fields, lt-ltb (length (dev_defs d.dev)) 256 h.dev_fields) refl

none_definition : {A : Type 0} (d : MessageDef A) → definition_fault d ≡ None → d.global < 2 ^ 16 → DefinitionFits d
none_definition d h r =
    let first = cond_none (ltb d.local 16) _ _ h in
    let second = cond_none (ltb (length d.fields) 256) _ _ first.1 in
    let third = cond_none (ltb (length (dev_defs d.dev)) 256) _ _ second.1 in
    record {
      local = ltb-true d.local 16 first.0;
      global = r;
      fields = ltb-true (length d.fields) 256 second.0;
      dev_fields =
          ltb-true (length (dev_defs d.dev)) 256 third.0;
    }

pub faults_are_exact : {A : Type 0} → FaultsAreExact A
faults_are_exact e (Define d) = (λ h. (definition_none d h, h.global), λ h. none_definition d h.0 h.1)
faults_are_exact e (Data v) = (λ h. (data_none (defined_at e v.local) v h, tt), λ h. none_data (defined_at e v.local) v h.0)

-- A record with a fault doesn't fit.
pub refused_by : {A T : Type 0} (e : Environment A) (r s : Record A) (result : Result T ShapeFault) → r ≡ s
    → IfErr result (λ fault. first_fault e s ≡ Some fault)
    → OnErr result (Fits e r → ⊥)
refused_by e r s (Ok n) is h = tt
refused_by e r s (Err fault) is h = λ fits.
    let none : first_fault e s ≡ None = ((faults_are_exact e s).0 (subst (Fits e) is fits)).0 in
    let clash : Some fault ≡ None = sym h ∙ none in cc
