-- A record that fits has bytes.
use Rattle.fit_encode.proofs.Common.{◌≡◌, ℕ, ◌<◌, inl, inr, Bool, true, false, cond, List, [], ◌∷◌, ◌++◌, length, take, drop, get_or, Some, None, refl, sym, ap}
use Rattle.fit_encode.proofs.Common.{◌∙◌, subst, append_assoc, eqb-true, IsSomeAnd, ◌==◌, ◌||◌, ◌%◌, AllByRecursion, or_cases, Items, found_passes, Defined}
use Rattle.fit_encode.proofs.Common.{Record, Define, Data, Values, Environment, learn, learn_all, defined_at, Fits, AllFit, HaveShape, DataFits, DataHeaderFits}
use Rattle.fit_encode.proofs.Common.{layout, dev_layout, record_bytes, records_bytes, records_bytes-append, IsWidth, HasBytes, IsSpellable}
use Rattle.std.specs.Prelude.{Option, ◌+◌}
use Rattle.fit_base.specs.BaseTypes.{BaseType, base_type, base_types, byte}
use Rattle.fit_encode.proofs.RecordSteps.{fits_between}
use Rattle.fit_encode.proofs.Sendings.{split_here}

abbrev has_width : BaseType → Bool
has_width t = (t.width == 1) || ((t.width == 2) || ((t.width == 4) || (t.width == 8)))

width_of_test : (w : ℕ) → ((w == 1) || ((w == 2) || ((w == 4) || (w == 8)))) ≡ true → IsWidth w
width_of_test w h = elim (or_cases (w == 1) _ h) [
  | inl a ↦ inl (eqb-true w 1 a)
  | inr k ↦ elim (or_cases (w == 2) _ k) [
    | inl a ↦ inr (inl (eqb-true w 2 a))
    | inr l ↦ elim (or_cases (w == 4) _ l) [ inl a ↦ inr (inr (inl (eqb-true w 4 a))) | inr m ↦ inr (inr (inr (eqb-true w 8 m))) ]
  ]
]

base_width : (code : ℕ) → IsWidth (base_type code).width
base_width code = width_of_test (base_type code).width (found_passes (λ t. t.code == code) has_width byte base_types refl refl)

width_chosen : (b : Bool) (w : ℕ) → IsWidth w → IsWidth (cond b w 1)
width_chosen true w h = h
width_chosen false w h = inl refl

shapes : {A : Type 0} (fields : List (ℕ × ℕ)) (items : List (Items A)) → HaveShape fields items → AllByRecursion HasBytes items
shapes [] [] h = tt
shapes (f ∷ fields) (i ∷ items) h = (
  record { width = subst IsWidth (sym h.0.width) (width_chosen (f.1 % (base_type f.0).width == 0) _ (base_width f.0)); fit = h.0.fits },
  shapes fields items h.1,
)
shapes _ _ h = absurd h

data_spellable : {A : Type 0} (p : Option (Defined A)) (v : Values A) → IsSomeAnd p (DataFits v)
    → DataHeaderFits v.local v.offset × AllByRecursion HasBytes v.fields × AllByRecursion HasBytes v.dev
data_spellable None v h = absurd h
data_spellable (Some p) v h = (h.header, shapes (layout p) v.fields h.fields, shapes (dev_layout p) v.dev h.dev_fields)

pub spellable : {A : Type 0} (e : Environment A) (r : Record A) → Fits e r → IsSpellable r
spellable e (Define d) h = h
spellable e (Data v) h = data_spellable (defined_at e v.local) v h

-- ---- the record at a place of records that fit

pub fits_at : {A : Type 0} (e : Environment A) (rs : List (Record A)) (i : ℕ) (r : Record A) → i < length rs → r ≡ get_or rs i r → AllFit e rs
    → Fits (learn_all e (take i rs)) r
fits_at e rs i r less is all = fits_between e (take i rs) r (drop (i + 1) rs) (subst (AllFit e) (split_here rs i r r less is) all)

-- the bytes before a record, those of the record, and those after it
pub record_parts : {A : Type 0} (e : Environment A) (rs : List (Record A)) (i : ℕ) (r : Record A) → i < length rs → r ≡ get_or rs i r
    → (records_bytes e (take i rs) ++ record_bytes (learn_all e (take i rs)) r) ++ records_bytes (learn (learn_all e (take i rs)) r) (drop (i + 1) rs)
    ≡ records_bytes e rs
record_parts e rs i r less is =
    append_assoc (records_bytes e (take i rs)) (record_bytes (learn_all e (take i rs)) r) (records_bytes (learn (learn_all e (take i rs)) r) (drop (i + 1) rs))
    ∙ sym (ap (records_bytes e) (split_here rs i r r less is) ∙ records_bytes-append e (take i rs) (r ∷ drop (i + 1) rs))
