-- The size of a data message, from the sizes of its definition.
use Rattle.fit_record.proofs.Common.{◌≡◌, ℕ, List, [], ◌∷◌, length, refl, sym, ap, ◌∙◌, arith, None, Some, option_map, zip, sum_by, sum_by-cons, sum_by-append}
use Rattle.fit_record.proofs.Common.{none-some, FieldDef, DevDef, Defined, dev_defs, MayBeKept, body_length, layout, dev_layout, message_size, Option, map}

pub sum-fields : (fs : List FieldDef) → sum_by (λ (f : ℕ × ℕ). f.1) (map (λ f. (f.code, f.size)) fs) ≡ sum_by (λ (f : FieldDef). f.size) fs
sum-fields [] = refl
sum-fields (f ∷ fs) = omega (
  arith,
  sum-fields fs,
  sum_by-cons (λ (f : FieldDef). f.size) f fs,
  sum_by-cons (λ (f : ℕ × ℕ). f.1) (f.code, f.size) (map (λ f. (f.code, f.size)) fs),
)

sum-dev_fields : (codes : List ℕ) (fs : List DevDef) → length codes ≡ length fs
    → sum_by (λ (f : ℕ × ℕ). f.1) (zip codes (map (λ f. f.size) fs)) ≡ sum_by (λ (f : DevDef). f.size) fs
sum-dev_fields [] [] h = refl
sum-dev_fields (c ∷ codes) (f ∷ fs) h =
    omega (
      arith,
      sum-dev_fields codes fs (omega arith),
      sum_by-cons (λ (f : DevDef). f.size) f fs,
      sum_by-cons (λ (f : ℕ × ℕ). f.1) (c, f.size) (zip codes (map (λ f. f.size) fs)),
    )
sum-dev_fields _ _ h = absurd (omega arith)

-- Each developer field has a code.
pub message_size_is : {A : Type 0} (p : Defined A) → length p.dev_codes ≡ length (dev_defs p.definition.dev) → message_size p ≡ body_length p.definition
message_size_is p h =
    omega (
      arith,
      sum_by-append (λ (f : ℕ × ℕ). f.1) (layout p) (dev_layout p),
      sum-fields p.definition.fields,
      sum-dev_fields p.dev_codes (dev_defs p.definition.dev) h,
    )

-- ---- what is kept beside a place

pub kept_size : {A : Type 0} (o : Option (Defined A)) (p : Defined A) (n : ℕ) → o ≡ Some p → MayBeKept o n → Some n ≡ option_map message_size o
kept_size None p n q h = absurd (none-some p q)
kept_size (Some r) p n q h = ap Some (h.total ∙ sym (message_size_is r h.sound.codes))
