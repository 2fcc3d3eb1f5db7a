-- What `get` tells of a slice, and what two slices have at a place.
use Rattle.fit_profile.proofs.Common.{◌≡◌, ◌∷◌, ℕ, zero, suc, true, false, List, [], length, get_or, refl, sym, Some, None, slice_get}
use Rattle.fit_profile.proofs.Common.{FieldDef, Items}
use Rattle.std.proofs.Common.{ltb, ltb-true, ltb-false}
use Rattle.std.proofs.lemmas.Option.{slice_get_read, slice_get_past}
use Rattle.std.specs.List.{AllByRecursion}
use Rattle.fit_record.specs.declared.definition.DevDef.{DevDef}
use Rattle.fit_profile.specs.Meant.{Shown, field_at, dev_field_at}
use Rattle.fit_profile.specs.inner.Places.{both_at}

-- an element
pub read_at : {X : Type 0} (xs : List X) (k : ℕ) (x : X) → true ≡ ltb k (length xs) → x ≡ get_or xs k x → slice_get xs k ≡ Some x
read_at xs k x within is = slice_get_read xs (length xs) k x refl (ltb-true k (length xs) (sym within)) is

-- none past the end
pub none_at : {X : Type 0} (xs : List X) (k : ℕ) → false ≡ ltb k (length xs) → slice_get xs k ≡ None
none_at xs k past = slice_get_past xs k (ltb-false k (length xs) (sym past))

-- a field and its items
module _ {A : Type 0} (fields : List FieldDef) (items : List (Items A)) (place : ℕ) where
  pub no_field : slice_get fields place ≡ None → both_at fields items place ≡ None
  no_field e = rw e refl

  pub no_items : (f : FieldDef) → slice_get fields place ≡ Some f → slice_get items place ≡ None → both_at fields items place ≡ None
  no_items f e d = rw (e, d) refl

  pub both_found : (f : FieldDef) (i : Items A) → slice_get fields place ≡ Some f → slice_get items place ≡ Some i
      → both_at fields items place ≡ Some (f, i)
  both_found f i e d = rw (e, d) refl

-- the same of a message that is shown
module _ {A : Type 0} (m : Shown A) (place : ℕ) where
  pub no_field_shown : slice_get m.definition.fields place ≡ None → field_at m place ≡ None
  no_field_shown e = rw e refl

  pub no_items_shown : (f : FieldDef) → slice_get m.definition.fields place ≡ Some f → slice_get m.values.fields place ≡ None → field_at m place ≡ None
  no_items_shown f e d = rw (e, d) refl

  pub field_shown : (f : FieldDef) (i : Items A) → slice_get m.definition.fields place ≡ Some f → slice_get m.values.fields place ≡ Some i
      → field_at m place ≡ Some (record { number = f.number; code = f.code; items = i })
  field_shown f i e d = rw (e, d) refl

  pub no_dev_fields_shown : m.definition.dev ≡ None → dev_field_at m place ≡ None
  no_dev_fields_shown e = rw e refl

  pub no_dev_shown : (fs : List DevDef) → m.definition.dev ≡ Some fs → slice_get fs place ≡ None → dev_field_at m place ≡ None
  no_dev_shown fs is e = rw (is, e) refl

  pub no_code_shown : (fs : List DevDef) (f : DevDef) → m.definition.dev ≡ Some fs → slice_get fs place ≡ Some f → slice_get m.dev_codes place ≡ None
      → dev_field_at m place ≡ None
  no_code_shown fs f is e d = rw (is, e, d) refl

  pub no_dev_items_shown : (fs : List DevDef) (f : DevDef) (code : ℕ) → m.definition.dev ≡ Some fs → slice_get fs place ≡ Some f
      → slice_get m.dev_codes place ≡ Some code → slice_get m.values.dev place ≡ None → dev_field_at m place ≡ None
  no_dev_items_shown fs f code is e d a = rw (is, e, d, a) refl

  pub dev_shown : (fs : List DevDef) (f : DevDef) (code : ℕ) (i : Items A) → m.definition.dev ≡ Some fs → slice_get fs place ≡ Some f
      → slice_get m.dev_codes place ≡ Some code → slice_get m.values.dev place ≡ Some i
      → dev_field_at m place ≡ Some (record { number = f.number; code = code; items = i })
  dev_shown fs f code i is e d a = rw (is, e, d, a) refl

-- Lists that all are empty have no element but the empty list.
pub none_in : {X : Type 0} (xs : List (List X)) → AllByRecursion (λ x. x ≡ []) xs → (k : ℕ) → get_or xs k [] ≡ []
none_in [] all k = refl
none_in (x ∷ xs) all zero = all.0
none_in (x ∷ xs) all (suc k) = none_in xs all.1 k
