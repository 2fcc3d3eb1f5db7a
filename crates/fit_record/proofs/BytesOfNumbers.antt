-- The only byte of the first field of a number, in the bytes of a message.
use Rattle.fit_record.proofs.Common.{◌≡◌, ℕ, zero, suc, ◌+◌, ◌*◌, ◌/◌, ◌≤◌, Bool, true, false, cond, List, [], ◌∷◌, length, take, drop, refl, sym, ap, ◌∙◌}
use Rattle.fit_record.proofs.Common.{arith, Some, None, option_and_then, ◌==◌, map, length-take-le, sum_by-cons, Items, FieldDef, Order}
use Rattle.fit_record.proofs.Common.{first_items, numbers_of, field_from, fields_from, sizes, eqb-true, eqb-false, eq-eqb, slice_get}
use Rattle.fit_record.proofs.FirstOfNumber.{dropped}
use Rattle.fit_record.proofs.Gathering.{one_wide}
use Rattle.fit_record.specs.Environment.{only, only_byte}
use Rattle.fit_base.specs.BaseTypes.{item_width}
use Rattle.fit_base.proofs.Shapes.{item_width_divides}

-- base type code and size of each field
abbrev pub shapes : List FieldDef → List (ℕ × ℕ)
shapes fs = map (λ f. (f.code, f.size)) fs

divides_one : (n w : ℕ) → n * w ≡ 1 → w ≡ 1
divides_one n zero h = absurd (omega (arith, h))
divides_one n (suc zero) h = refl
divides_one zero (suc (suc w)) h = absurd (omega (arith, h))
divides_one (suc n) (suc (suc w)) h = absurd (grind (arith, h))

one_byte_wide : (code size : ℕ) → size ≡ 1 → item_width code size ≡ 1
one_byte_wide code size one = divides_one (size / item_width code size) _ (item_width_divides code size ∙ one)

no_one : (bytes : List ℕ) → (length bytes ≡ 1 → ⊥) → only bytes ≡ None
no_one [] h = refl
no_one (b ∷ []) h = absurd (h refl)
no_one (b ∷ c ∷ bytes) h = refl

-- the items of a field are one byte where its bytes are
only_from : (A : Type 0) (o : Order) (code size : ℕ) (bytes : List ℕ) → length bytes ≡ size
    → option_and_then (λ (i : Items A). cond (i.width == 1) (only i.bits) None) (Some (field_from {A = A} o (code, size) bytes)) ≡ only bytes
only_from A o code size bytes long = go (item_width code size == 1) refl
  where
    w : ℕ
    w = item_width code size

    go : (c : Bool) → (w == 1) ≡ c → cond (w == 1) (only (numbers_of o w (size / w) bytes)) None ≡ only bytes
    go true is =
        let one : w ≡ 1 = eqb-true w 1 is in
        ap (λ c. cond c (only (numbers_of o w (size / w) bytes)) None) is ∙ ap (λ n. only (numbers_of o w (n / w) bytes)) (sym long)
        ∙ ap only (sym (one_wide o w bytes one))
    go false is =
        ap (λ c. cond c (only (numbers_of o w (size / w) bytes)) None) is
        ∙ sym (no_one bytes (λ one. eqb-false w 1 is (one_byte_wide code size (sym long ∙ one))))

-- the first field has the number
pub found : (A : Type 0) (o : Order) (f : FieldDef) (fs : List FieldDef) (rest : List ℕ) (n : ℕ) → f.number ≡ n → f.size ≤ length rest
    → only_byte (f ∷ fs) (fields_from {A = A} o (shapes (f ∷ fs)) rest) n ≡ only (take f.size rest)
found A o f fs rest n is within =
    let items = fields_from {A = A} o (shapes fs) (drop f.size rest) in
    let here = field_from {A = A} o (f.code, f.size) (take f.size rest) in
    ap (λ c. option_and_then (λ (i : Items A). cond (i.width == 1) (only i.bits) None) (cond c (Some here) (first_items fs items n))) (eq-eqb f.number n is)
    ∙ only_from A o f.code f.size (take f.size rest) (length-take-le f.size rest within)

-- it has another one
pub passed : (A : Type 0) (o : Order) (f : FieldDef) (fs : List FieldDef) (rest : List ℕ) (n : ℕ) → (f.number == n) ≡ false
    → only_byte (f ∷ fs) (fields_from {A = A} o (shapes (f ∷ fs)) rest) n ≡ only_byte fs (fields_from {A = A} o (shapes fs) (drop f.size rest)) n
passed A o f fs rest n is =
    let items = fields_from {A = A} o (shapes fs) (drop f.size rest) in
    let here = field_from {A = A} o (f.code, f.size) (take f.size rest) in
    ap (λ c. option_and_then (λ (i : Items A). cond (i.width == 1) (only i.bits) None) (cond c (Some here) (first_items fs items n))) is

-- the bytes of the first field, and those of the others
pub sizes_of : (f : FieldDef) (fs : List FieldDef) → sizes (shapes (f ∷ fs)) ≡ f.size + sizes (shapes fs)
sizes_of f fs = sum_by-cons (λ (s : ℕ × ℕ). s.1) (f.code, f.size) (shapes fs)

-- no field has bytes
nothing_left : (A : Type 0) (o : Order) (fs : List FieldDef) (n : ℕ) → sizes (shapes fs) ≡ 0
    → only_byte fs (fields_from {A = A} o (shapes fs) []) n ≡ None
nothing_left A o [] n none = refl
nothing_left A o (f ∷ fs) n none =
    let empty : f.size ≡ 0 = omega (arith, none, sizes_of f fs) in
    go empty (nothing_left A o fs n (omega (arith, none, sizes_of f fs))) (f.number == n) refl
  where
    go : f.size ≡ 0 → only_byte fs (fields_from {A = A} o (shapes fs) []) n ≡ None → (c : Bool) → (f.number == n) ≡ c
        → only_byte (f ∷ fs) (fields_from {A = A} o (shapes (f ∷ fs)) []) n ≡ None
    go empty others true is = found A o f fs [] n (eqb-true f.number n is) (omega (arith, empty)) ∙ ap (λ k. only (take k [])) empty
    go empty others false is =
        passed A o f fs [] n is ∙ ap (λ k. only_byte fs (fields_from {A = A} o (shapes fs) (drop k [])) n) empty ∙ others

pub none_left : (A : Type 0) (o : Order) (fs : List FieldDef) (rest : List ℕ) (n : ℕ) → length rest ≡ 0 → sizes (shapes fs) ≤ length rest
    → only_byte fs (fields_from {A = A} o (shapes fs) rest) n ≡ None
none_left A o fs [] n empty few = nothing_left A o fs n (omega (arith, few))
none_left A o fs (b ∷ rest) n empty few = absurd (omega (arith, empty))

-- ---- from a place on

module _ (A : Type 0) (o : Order) (fields : List FieldDef) (k : ℕ) (f : FieldDef) (at : slice_get fields k ≡ Some f) (rest : List ℕ) (n : ℕ) where
  -- the bytes of the field there, and those of the fields after it
  pub sizes_at : sizes (shapes (drop k fields)) ≡ f.size + sizes (shapes (drop (k + 1) fields))
  sizes_at = ap (λ l. sizes (shapes l)) (dropped fields k f at) ∙ sizes_of f (drop (k + 1) fields)

  pub found_at : f.number ≡ n → f.size ≤ length rest
      → only (take f.size rest) ≡ only_byte (drop k fields) (fields_from {A = A} o (shapes (drop k fields)) rest) n
  found_at is within =
      sym (ap (λ l. only_byte l (fields_from {A = A} o (shapes l) rest) n) (dropped fields k f at) ∙ found A o f (drop (k + 1) fields) rest n is within)

  pub passed_at : (f.number == n) ≡ false
      → only_byte (drop (k + 1) fields) (fields_from {A = A} o (shapes (drop (k + 1) fields)) (drop f.size rest)) n
      ≡ only_byte (drop k fields) (fields_from {A = A} o (shapes (drop k fields)) rest) n
  passed_at is = sym (ap (λ l. only_byte l (fields_from {A = A} o (shapes l) rest) n) (dropped fields k f at) ∙ passed A o f (drop (k + 1) fields) rest n is)
