-- A definition message that says what is defined already: it is a record, and with it nothing changes.
use Rattle.fit_step.proofs.Common.{◌≡◌, ℕ, ◌+◌, ◌-◌, ◌*◌, ◌<◌, ◌≤◌, List, [], ◌∷◌, ◌++◌, length, take, drop, refl, sym, ap, ◌∙◌, subst, arith}
use Rattle.fit_step.proofs.Common.{Some, None, flat_map, map, append_assoc, append-nil, flat_map_more}
use Rattle.fit_step.proofs.Common.{get_or, slice_set, FieldDef, Defined, Define, Environment, defined_at, defined_by}
use Rattle.fit_step.proofs.Common.{dev_code, dev_defs, learn, field_bytes}
use Rattle.std.proofs.Common.{add-one}
use Rattle.std.proofs.Math.Seq.{take-suc}
use Rattle.std.proofs.lemmas.List.{set-get_or, take-append-drop, take_all}
use Rattle.fit_record.specs.Sound.{IsSound}
use Rattle.fit_step.specs.declared.read_definition.Front.{Front}
use Rattle.fit_step.specs.inner.Definitions.{SaysNothingNew, definition_of}
use Rattle.fit_step.specs.inner.Repeated.{BeginsAs}

empty_of : (codes : List ℕ) → length codes ≡ 0 → codes ≡ []
empty_of [] none = refl
empty_of (code ∷ codes) none = absurd (omega (arith, none))

-- ---- fields, and their bytes one after another

pub field_told : (fields : List FieldDef) (i : ℕ) (rest entry after bytes : List ℕ) (d : FieldDef) → i < length fields
    → flat_map field_bytes (take i fields) ++ rest ≡ bytes → entry ≡ take 3 rest → after ≡ drop 3 rest → field_bytes (get_or fields i d) ≡ entry
    → flat_map field_bytes (take (i + 1) fields) ++ after ≡ bytes
field_told fields i rest entry after bytes d within told front back says =
    let f = get_or fields i d in
    let before = flat_map field_bytes (take i fields) in
    let more : take (i + 1) fields ≡ take i fields ++ f ∷ [] = rw (add-one, take-suc fields i d within) refl in
    let whole : entry ++ after ≡ rest = (λ j. front j ++ back j) ∙ take-append-drop 3 rest in
    ap (λ l. flat_map field_bytes l ++ after) more
    ∙ ap (λ l. l ++ after) (sym (flat_map_more field_bytes [] (take i fields) f) ∙ ap (λ l. before ++ l) says)
    ∙ append_assoc before entry after
    ∙ ap (λ l. before ++ l) whole
    ∙ told

pub fields_told : (fields : List FieldDef) (i : ℕ) (rest bytes : List ℕ) → length fields ≤ i → flat_map field_bytes (take i fields) ++ rest ≡ bytes
    → length rest ≡ (length fields - i) * 3 → flat_map field_bytes fields ≡ bytes
fields_told fields i rest bytes past told long =
    let none : rest ≡ [] = empty_of rest (omega (arith, long, past)) in
    ap (flat_map field_bytes) (sym (take_all i fields past)) ∙ sym (append-nil (flat_map field_bytes (take i fields)))
    ∙ ap (λ l. flat_map field_bytes (take i fields) ++ l) (sym none) ∙ told

-- ---- what its place holds is put there again

stays : {A : Type 0} (e : Environment A) (p : Defined A) (local : ℕ) → defined_at e local ≡ Some p → p.definition.local ≡ local → p.definition.dev ≡ None
    → length p.dev_codes ≡ length (dev_defs p.definition.dev) → learn e (Define p.definition) ≡ e
stays {A} e p local known same none codes =
    let no_codes : p.dev_codes ≡ [] = empty_of p.dev_codes (codes ∙ ap (λ o. length (dev_defs o)) none) in
    let new_codes : map (dev_code e) (dev_defs p.definition.dev) ≡ p.dev_codes = ap (λ o. map (dev_code e) (dev_defs o)) none ∙ sym no_codes in
    let again : defined_by e p.definition ≡ p = λ i. record { definition = p.definition; dev_codes = new_codes i } in
    let at : Some (defined_by e p.definition) ≡ get_or e.places p.definition.local None =
    ap Some again ∙ sym known ∙ ap (λ l. get_or e.places l None) (sym same) in
    let places = ap (slice_set e.places p.definition.local) at ∙ set-get_or e.places p.definition.local None in
    λ i. record e { places = places i }

pub known_again : {A : Type 0} (e : Environment A) (p : Defined A) (f : Front) (entries : List ℕ) → defined_at e f.local ≡ Some p → IsSound p
    → BeginsAs p.definition f → flat_map field_bytes p.definition.fields ≡ entries → SaysNothingNew e f entries
known_again {A} e p f entries known sound says spelled =
    let d = p.definition in
    let same : d ≡ definition_of f d.fields =
    λ i. record {
      local = says.local i;
      reserved = says.reserved i;
      order = says.order i;
      global = says.global i;
      fields = d.fields;
      dev = says.no_dev i;
    } in (
      d.fields,
      (says.count, spelled),
      subst (λ q. learn e (Define q) ≡ e) same (stays e p f.local known says.local says.no_dev sound.codes),
    )
