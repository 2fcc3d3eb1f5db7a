-- Any bytes, as many as a data message has after its record header, are those of one.
use Rattle.fit_record.proofs.Common.{◌≡◌, ℕ, zero, suc, ◌+◌, ◌*◌, ◌/◌, ◌^◌, ◌<◌, List, [], ◌∷◌, ◌++◌, length, take, drop, refl, sym, ap, ◌∙◌, subst, arith}
use Rattle.fit_record.proofs.Common.{flat_map, AllByRecursion, take-append-drop, length-take-le, length-drop, sum_by-cons, sum_by-append, Order, HasShape}
use Rattle.fit_record.proofs.Common.{items_bytes, IsBytes, number, number_bytes, IsBytes-take, IsBytes-drop, Defined, layout, dev_layout, message_size}
use Rattle.fit_record.proofs.Common.{HaveShape, DataHeaderFits, data_bytes, DataFits, Option, suc-mul, sizes, numbers_of, field_from, fields_from, values_from}
use Rattle.fit_base.specs.BaseTypes.{item_width}
use Rattle.fit_base.proofs.NumberLaws.{number-below, number_bytes-number}
use Rattle.fit_base.proofs.Shapes.{item_width_divides}

no_elements : {X : Type 0} (xs : List X) → length xs ≡ 0 → xs ≡ []
no_elements [] h = refl
no_elements (x ∷ xs) h = absurd (omega (arith, h))

-- ---- numbers

length-numbers_of : (o : Order) (w n : ℕ) (bytes : List ℕ) → length (numbers_of o w n bytes) ≡ n
length-numbers_of o w zero bytes = refl
length-numbers_of o w (suc n) bytes = ap suc (length-numbers_of o w n (drop w bytes))

numbers_spell : (o : Order) (w n : ℕ) (bytes : List ℕ) → IsBytes bytes → length bytes ≡ n * w
    → AllByRecursion (λ k. k < 256 ^ w) (numbers_of o w n bytes) × (flat_map (number_bytes o w) (numbers_of o w n bytes) ≡ bytes)
numbers_spell o w zero bytes b l = (tt, sym (no_elements bytes (l ∙ omega arith)))
numbers_spell o w (suc n) bytes b l =
    let piece = take w bytes in
    let rest = drop w bytes in
    let long : length bytes ≡ w + n * w = l ∙ suc-mul n w ∙ omega arith in
    let wide : length piece ≡ w = length-take-le w bytes (omega (arith, long)) in
    let others = numbers_spell o w n rest (IsBytes-drop w bytes b) (length-drop w bytes ∙ omega (arith, long)) in
    let below : number o piece < 256 ^ w = subst (λ k. number o piece < 256 ^ k) wide (number-below o piece (IsBytes-take w bytes b)) in
    let spelled : number_bytes o w (number o piece) ≡ piece =
    ap (λ k. number_bytes o k (number o piece)) (sym wide) ∙ number_bytes-number o piece (IsBytes-take w bytes b) in
    ((below, others.0), ap (λ x. x ++ flat_map (number_bytes o w) (numbers_of o w n rest)) spelled ∙ ap (λ x. piece ++ x) others.1 ∙ take-append-drop w bytes)

-- ---- fields

field_fits : (A : Type 0) (o : Order) (f : ℕ × ℕ) (bytes : List ℕ) → IsBytes bytes → length bytes ≡ f.1
    → HasShape f.0 f.1 (field_from {A = A} o f bytes) × (items_bytes o (field_from {A = A} o f bytes) ≡ bytes)
field_fits A o f bytes b l =
    let w = item_width f.0 f.1 in
    let n = f.1 / w in
    let r = numbers_spell o w n bytes b (l ∙ sym (item_width_divides f.0 f.1)) in
    (record { width = refl; whole = ap (λ k. k * w) (length-numbers_of o w n bytes) ∙ item_width_divides f.0 f.1; fits = r.0 }, r.1)

fields_fit : (A : Type 0) (o : Order) (fs : List (ℕ × ℕ)) (bytes : List ℕ) → IsBytes bytes → length bytes ≡ sizes fs
    → HaveShape fs (fields_from {A = A} o fs bytes) × (flat_map (items_bytes o) (fields_from {A = A} o fs bytes) ≡ bytes)
fields_fit A o [] bytes b l = (tt, sym (no_elements bytes l))
fields_fit A o (f ∷ fs) bytes b l =
    let piece = take f.1 bytes in
    let rest = drop f.1 bytes in
    let long : length bytes ≡ f.1 + sizes fs = l ∙ sum_by-cons (λ (f : ℕ × ℕ). f.1) f fs in
    let first = field_fits A o f piece (IsBytes-take f.1 bytes b) (length-take-le f.1 bytes (omega (arith, long))) in
    let others = fields_fit A o fs rest (IsBytes-drop f.1 bytes b) (length-drop f.1 bytes ∙ omega (arith, long)) in (
      (first.0, others.0),
      ap (λ x. x ++ flat_map (items_bytes o) (fields_from {A = A} o fs rest)) first.1 ∙ ap (λ x. piece ++ x) others.1
          ∙ take-append-drop f.1 bytes,
    )

-- ---- data messages

pub message_fits : {A : Type 0} (local : ℕ) (offset : Option ℕ) (o : Order) (p : Defined A) (bytes : List ℕ) → DataHeaderFits local offset → IsBytes bytes
    → length bytes ≡ message_size p → DataFits (values_from local offset o p bytes) p × (data_bytes o (values_from local offset o p bytes) ≡ bytes)
message_fits {A} local offset o p bytes header b l =
    let n = sizes (layout p) in
    let long : length bytes ≡ n + sizes (dev_layout p) = l ∙ sum_by-append (λ (f : ℕ × ℕ). f.1) (layout p) (dev_layout p) in
    let fields = fields_fit A o (layout p) (take n bytes) (IsBytes-take n bytes b) (length-take-le n bytes (omega (arith, long))) in
    let dev = fields_fit A o (dev_layout p) (drop n bytes) (IsBytes-drop n bytes b) (length-drop n bytes ∙ omega (arith, long)) in (
      record { header = header; fields = fields.0; dev_fields = dev.0 },
      ap (λ x. x ++ flat_map (items_bytes o) (fields_from {A = A} o (dev_layout p) (drop n bytes))) fields.1 ∙ ap (λ x. take n bytes ++ x) dev.1
          ∙ take-append-drop n bytes,
    )
