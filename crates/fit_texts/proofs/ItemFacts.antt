-- The items of fields, made or in their bytes.
use Rattle.fit_texts.proofs.Common.{◌≡◌, ◌∙◌, ◌≤◌, ◌+◌, ◌/◌, ◌%◌, ◌^◌, ◌++◌, ◌∷◌, [], suc, length, take, drop, refl, sym, ap, subst, arith}
use Rattle.fit_texts.proofs.Common.{take_all}
use Rattle.fit_texts.proofs.Common.{Order, Items, HasShape, HaveShape, Defined, base_type, item_width}
use Rattle.std.proofs.Common.{◌<◌, ℕ, List, None, ◌⊎◌, inl, inr, if◌then◌else◌, ◌==◌}
use Rattle.std.proofs.lemmas.List.Sums.{sum_by-cons}
use Rattle.std.proofs.Math.Seq.{take-take, drop-drop}
use Rattle.std.proofs.lemmas.List.{drop-take}
use Rattle.std.proofs.Math.ListN.{length-drop}
use Rattle.fit_base.proofs.NumberLaws.{number-below}
use Rattle.fit_base.specs.Numbers.{IsBytes, number}
use Rattle.fit_record.proofs.ReadMessages.{message_fits}
use Rattle.fit_record.specs.ReadMessages.{field_from, fields_from, numbers_of}
use Rattle.fit_record.specs.Records.{sizes}

-- ---- made

-- the shapes of two lists of fields, one after the other
pub shapes_both : {A : Type 0} (a b : List (ℕ × ℕ)) (xs ys : List (Items A)) → HaveShape a xs → HaveShape b ys → HaveShape (a ++ b) (xs ++ ys)
shapes_both [] b [] ys first second = second
shapes_both [] b (x ∷ xs) ys first second = absurd first
shapes_both (f ∷ a) b [] ys first second = absurd first
shapes_both (f ∷ a) b (x ∷ xs) ys first second = (first.0, shapes_both a b xs ys first.1 second)

-- ---- in bytes

-- the bytes of the first field, and those after it
pub first_in_bytes : (f : ℕ × ℕ) (fields : List (ℕ × ℕ)) (bytes : List ℕ) → length bytes ≡ sizes (f ∷ fields)
    → (f.1 ≤ length bytes) × (length (drop f.1 bytes) ≡ sizes fields)
first_in_bytes f fields bytes long =
    let all : length bytes ≡ f.1 + sizes fields = long ∙ sum_by-cons (λ (g : ℕ × ℕ). g.1) f fields in
    (omega (arith, all), length-drop f.1 bytes ∙ omega (arith, all))

-- the items of two lists of fields, one after the other
pub fields_both : {A : Type 0} (o : Order) (a b : List (ℕ × ℕ)) (bytes : List ℕ)
    → fields_from {A = A} o (a ++ b) bytes ≡ fields_from o a (take (sizes a) bytes) ++ fields_from o b (drop (sizes a) bytes)
fields_both o [] b bytes = refl
fields_both {A} o (f ∷ a) b bytes =
    let n = sizes a in
    let all : sizes (f ∷ a) ≡ f.1 + n = sum_by-cons (λ (g : ℕ × ℕ). g.1) f a in
    let here : take f.1 (take (f.1 + n) bytes) ≡ take f.1 bytes = take-take f.1 (f.1 + n) bytes (omega arith) in
    let beyond : drop f.1 (take (f.1 + n) bytes) ≡ take n (drop f.1 bytes) = drop-take f.1 n bytes in
    ap (λ is. field_from {A = A} o f (take f.1 bytes) ∷ is) (fields_both {A = A} o a b (drop f.1 bytes))
    ∙ (λ i. (field_from {A = A} o f (sym here i) ∷ fields_from o a (sym beyond i)) ++ fields_from o b (drop-drop n f.1 bytes i))
    ∙ ap (λ m. fields_from {A = A} o (f ∷ a) (take m bytes) ++ fields_from o b (drop m bytes)) (sym all)

pub fields_long : (A : Type 0) (o : Order) (fields : List (ℕ × ℕ)) (bytes : List ℕ) → length (fields_from {A = A} o fields bytes) ≡ length fields
fields_long A o [] bytes = refl
fields_long A o (f ∷ fields) bytes = ap suc (fields_long A o fields (drop f.1 bytes))

-- ---- a lone number

own_width : (w : ℕ) → (w ≡ 1) ⊎ (w ≡ 2) ⊎ (w ≡ 4) → ((if w % w == 0 then w else 1) ≡ w) × (w / w ≡ 1)
own_width w small = elim small [
  | inl e ↦ rw e (refl, refl)
  | inr (inl e) ↦ rw e (refl, refl)
  | inr (inr e) ↦ rw e (refl, refl)
]

pub lone_field : (A : Type 0) (o : Order) (code size : ℕ) (bytes : List ℕ) → (size ≡ 1) ⊎ (size ≡ 2) ⊎ (size ≡ 4) → size ≡ (base_type code).width
    → length bytes ≡ size → ((field_from {A = A} o (code, size) bytes).width ≡ size) × ((field_from {A = A} o (code, size) bytes).bits ≡ number o bytes ∷ [])
lone_field A o code size bytes small own long =
    let one = own_width size small in
    let wide : item_width code size ≡ size = ap (λ w. if size % w == 0 then w else 1) (sym own) ∙ one.0 in (
      wide,
      ap (λ w. numbers_of o w (size / w) bytes) wide ∙ ap (λ n. numbers_of o size n bytes) one.1
          ∙ ap (λ b. number o b ∷ []) (take_all size bytes (omega (arith, long))),
    )

-- the number of some bytes has their width
pub lone_below : (o : Order) (bytes : List ℕ) (width n : ℕ) → IsBytes bytes → length bytes ≡ width → n ≡ number o bytes → n < 256 ^ width
lone_below o bytes width n are long is = subst (λ m. m < 256 ^ width) (sym is) (subst (λ w. number o bytes < 256 ^ w) long (number-below o bytes are))

-- the items in the bytes of a field have its shape: they are those of a message that has no other field
pub field_shape : (A : Type 0) (o : Order) (code size : ℕ) (bytes : List ℕ) → IsBytes bytes → length bytes ≡ size
    → HasShape code size (field_from {A = A} o (code, size) bytes)
field_shape A o code size bytes are long =
    let p : Defined A = record {
      definition = record { local = 0; reserved = 0; order = o; global = 0; fields = record { number = 0; size = size; code = code } ∷ []; dev = None };
      dev_codes = [];
    } in
    let all : sizes ((code, size) ∷ []) ≡ size = sum_by-cons (λ (g : ℕ × ℕ). g.1) (code, size) [] ∙ omega arith in
    let fits = message_fits 0 None o p bytes (omega arith) are (long ∙ sym all) in
    subst (λ b. HasShape code size (field_from {A = A} o (code, size) b))
    (ap (take size) (take_all (sizes ((code, size) ∷ [])) bytes (omega (arith, long, all))) ∙ take_all size bytes (omega (arith, long))) fits.0.fields.0
