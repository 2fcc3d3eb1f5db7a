-- One byte more in the fields of a data message.
use Rattle.fit_step.proofs.Common.{◌≡◌, inl, inr, ℕ, suc, ◌+◌, ◌-◌, ◌*◌, ◌/◌, ◌^◌, ◌<◌, Bool, true, false, cond, List, [], ◌∷◌, ◌++◌, length, refl, sym, ap}
use Rattle.fit_step.proofs.Common.{◌∙◌, subst, arith, append_assoc, length-append, flat_map, cond-true, cond-false, eqb-true, eqb-false, cases_lt, append-nil}
use Rattle.fit_step.proofs.Common.{flat_map_more, mul-le-mul_right, Items, Order, IsBytes, number, number_bytes, HasShape, items_bytes, IsBytes-append}
use Rattle.fit_step.proofs.Common.{IsBytes-cons, IsBytes-none, number_bytes-number, number-below, item_width_positive, HaveShape, no_items, add_number}
use Rattle.fit_step.proofs.Common.{with_number, beyond_number, TakenFields, width_of, taken, all_items, IsTaking, ◌≤◌, map, ◌==◌}
use Rattle.std.specs.List.{AllByRecursion}
use Rattle.fit_base.proofs.Shapes.{item_width_divides}

pub add_number-at : {A : Type 0} (items more : List (Items A)) (i : Items A) (n : ℕ)
    → add_number (length items) (items ++ i ∷ more) n ≡ items ++ (record i { bits = i.bits ++ n ∷ [] }) ∷ more
add_number-at [] more i n = refl
add_number-at (j ∷ items) more i n = ap (λ l. j ∷ l) (add_number-at items more i n)

pub as_many : {A : Type 0} (fs : List (ℕ × ℕ)) (items : List (Items A)) → HaveShape fs items → length items ≡ length fs
as_many [] [] h = refl
as_many (f ∷ fs) (i ∷ items) h = ap suc (as_many fs items h.1)
as_many fs items h = absurd h

pub AllByRecursion-last : {X : Type 0} (P : X → Type 0) (xs : List X) (x : X) → AllByRecursion P xs → P x → AllByRecursion P (xs ++ x ∷ [])
AllByRecursion-last P [] x h p = (p, tt)
AllByRecursion-last P (y ∷ ys) x h p = (h.0, AllByRecursion-last P ys x h.1 p)

pub HaveShape-last : {A : Type 0} (fs : List (ℕ × ℕ)) (items : List (Items A)) (f : ℕ × ℕ) (i : Items A) → HaveShape fs items → HasShape f.0 f.1 i
    → HaveShape (fs ++ f ∷ []) (items ++ i ∷ [])
HaveShape-last [] [] f i h s = (s, tt)
HaveShape-last (g ∷ fs) (j ∷ items) f i h s = (h.0, HaveShape-last fs items f i h.1 s)
HaveShape-last fs items f i h s = absurd h

-- ---- one byte more

-- no number ends inside a field that is at its end
no_rest : (n k w r : ℕ) → n * w + r ≡ k * w → 0 < r → r < w → ⊥
no_rest n k w r e p q =
    elim (cases_lt n k) [
      | inl less ↦ let more : suc n * w ≤ k * w = mul-le-mul_right w less in omega (arith, more)
      | inr over ↦ let more : k * w ≤ n * w = mul-le-mul_right w over in omega (arith, more)
    ]

-- what the field in progress is after one byte more, where that byte ends a number or doesn't
abbrev pub grown_at : {A : Type 0} → Bool → Order → TakenFields A → ℕ → TakenFields A
grown_at c o t b = record t {
  bits = cond c (t.bits ++ number o (t.partial ++ b ∷ []) ∷ []) t.bits;
  partial = cond c [] (t.partial ++ b ∷ []);
  left = t.left - 1;
}

abbrev pub ends_number : {A : Type 0} → TakenFields A → ℕ → Bool
ends_number t b = length (t.partial ++ b ∷ []) == width_of t

abbrev pub grown : {A : Type 0} → Order → TakenFields A → ℕ → TakenFields A
grown o t b = grown_at (ends_number t b) o t b

-- the tests of the machine
abbrev pub IsEnd : {A : Type 0} → Bool → TakenFields A → ℕ → Type 0
IsEnd c t b = ends_number t b ≡ c

is_end : {A : Type 0} (t : TakenFields A) (b : ℕ) → IsEnd true t b → length t.partial + 1 ≡ width_of t
is_end t b h = sym (length-append t.partial (b ∷ [])) ∙ eqb-true (length (t.partial ++ b ∷ [])) (width_of t) h

is_inside : {A : Type 0} (t : TakenFields A) (b : ℕ) → IsEnd false t b → length t.partial < width_of t → length t.partial + 1 < width_of t
is_inside t b h g =
    let apart : length t.partial + 1 ≡ width_of t → ⊥ = λ e. eqb-false (length (t.partial ++ b ∷ [])) (width_of t) h (length-append t.partial (b ∷ []) ∙ e) in
    elim (cases_lt (length t.partial + 1) (width_of t)) [ inl less ↦ less | inr over ↦ absurd (apart (omega arith)) ]

last_flat : {X : Type 0} (f : X → List ℕ) (xs : List X) (x : X) → flat_map f (xs ++ x ∷ []) ≡ flat_map f xs ++ f x
last_flat f xs x = sym (flat_map_more f [] xs x)

-- a number more in the field that is read
with_one : {A : Type 0} (t : TakenFields A) (n : ℕ) → HaveShape t.done t.whole
    → add_number (length t.done) (all_items t) n ≡ all_items (record t { bits = t.bits ++ n ∷ [] })
with_one {A} t n s =
    let old : Items A = record { width = width_of t; bits = t.bits } in
    let new : Items A = record { width = width_of t; bits = t.bits ++ n ∷ [] } in
    let rest : List (Items A) = map no_items t.to_come in
    ap (λ l. add_number (length t.done) l n) (append_assoc t.whole (old ∷ []) rest)
    ∙ ap (λ k. add_number k (t.whole ++ old ∷ rest) n) (sym (as_many t.done t.whole s))
    ∙ add_number-at t.whole rest old n
    ∙ sym (append_assoc t.whole (new ∷ []) rest)

pub items_at : {A : Type 0} (c : Bool) (o : Order) (t : TakenFields A) (b : ℕ) → IsEnd c t b → HaveShape t.done t.whole
    → with_number o (width_of t) (length t.done) (all_items t) (t.partial ++ b ∷ []) ≡ all_items (grown_at c o t b)
items_at true o t b h s = cond-true (ends_number t b) _ _ h ∙ with_one t (number o (t.partial ++ b ∷ [])) s
items_at false o t b h s = cond-false (ends_number t b) _ _ h

pub rest_at : {A : Type 0} (c : Bool) (o : Order) (t : TakenFields A) (b : ℕ) → IsEnd c t b
    → beyond_number (width_of t) (t.partial ++ b ∷ []) ≡ (grown_at c o t b).partial
rest_at true o t b h = cond-true (ends_number t b) _ _ h
rest_at false o t b h = cond-false (ends_number t b) _ _ h

regroup : (w n p z : List ℕ) → (w ++ (n ++ (p ++ z))) ++ [] ≡ ((w ++ n) ++ p) ++ z
regroup w n p z = simp (append_assoc, append-nil)

pub bytes_at : {A : Type 0} (c : Bool) (o : Order) (t : TakenFields A) (b : ℕ) → IsEnd c t b → IsBytes t.partial → b < 256
    → flat_map (items_bytes o) (taken (grown_at c o t b)) ++ (grown_at c o t b).partial ≡ (flat_map (items_bytes o) (taken t) ++ t.partial) ++ b ∷ []
bytes_at {A} true o t b h g low =
    let w = width_of t in
    let bytes = t.partial ++ b ∷ [] in
    let full : length bytes ≡ w = eqb-true (length bytes) w h in
    let spelled : number_bytes o w (number o bytes) ≡ bytes =
    subst (λ n. number_bytes o n (number o bytes) ≡ bytes) full
    (number_bytes-number o bytes (IsBytes-append t.partial (b ∷ []) g (IsBytes-cons b [] low IsBytes-none))) in
    let numbers : flat_map (number_bytes o w) (t.bits ++ number o bytes ∷ []) ≡ flat_map (number_bytes o w) t.bits ++ bytes =
    last_flat (number_bytes o w) t.bits (number o bytes) ∙ ap (λ l. flat_map (number_bytes o w) t.bits ++ l) spelled in
    let new : Items A = record { width = w; bits = t.bits ++ number o bytes ∷ [] } in
    let old : Items A = record { width = w; bits = t.bits } in
    let before : flat_map (items_bytes o) (taken t) ≡ flat_map (items_bytes o) t.whole ++ flat_map (number_bytes o w) t.bits =
    last_flat (items_bytes o) t.whole old in
    let after : flat_map (items_bytes o) (t.whole ++ new ∷ []) ≡ flat_map (items_bytes o) t.whole ++ (flat_map (number_bytes o w) t.bits ++ bytes) =
    last_flat (items_bytes o) t.whole new ∙ ap (λ l. flat_map (items_bytes o) t.whole ++ l) numbers in
    ap (λ l. l ++ []) after ∙ regroup (flat_map (items_bytes o) t.whole) (flat_map (number_bytes o w) t.bits) t.partial (b ∷ [])
    ∙ ap (λ l. (l ++ t.partial) ++ b ∷ []) (sym before)
bytes_at false o t b h g low = sym (append_assoc (flat_map (items_bytes o) (taken t)) t.partial (b ∷ []))

new_number : {A : Type 0} (o : Order) (t : TakenFields A) (b : ℕ) → IsEnd true t b → IsBytes t.partial → b < 256
    → number o (t.partial ++ b ∷ []) < 256 ^ width_of t
new_number o t b h g low =
    subst (λ n. number o (t.partial ++ b ∷ []) < 256 ^ n) (eqb-true (length (t.partial ++ b ∷ [])) (width_of t) h)
    (number-below o (t.partial ++ b ∷ []) (IsBytes-append t.partial (b ∷ []) g (IsBytes-cons b [] low IsBytes-none)))

one_more : (n w p l size : ℕ) → n * w + p + l ≡ size → p + 1 ≡ w → 0 < l → (n + 1) * w + 0 + (l - 1) ≡ size
one_more n w p l size e f g = omega arith

pub stands_at : {A : Type 0} (c : Bool) (o : Order) (all : List (ℕ × ℕ)) (t : TakenFields A) (b : ℕ) → IsEnd c t b → IsTaking all t → b < 256 → 1 < t.left
    → IsTaking all (grown_at c o t b)
stands_at true o all t b h s low more = record {
  layout = s.layout;
  shapes = s.shapes;
  numbers = AllByRecursion-last (λ n. n < 256 ^ width_of t) t.bits _ s.numbers (new_number o t b h s.bytes low);
  size = rw (length-append t.bits (number o (t.partial ++ b ∷ []) ∷ []))
      (one_more (length t.bits) (width_of t) (length t.partial) t.left t.field.1 s.size (is_end t b h) s.some);
  short = item_width_positive t.field.0 t.field.1;
  some = omega arith;
  bytes = IsBytes-none;
}
stands_at false o all t b h s low more = record {
  layout = s.layout;
  shapes = s.shapes;
  numbers = s.numbers;
  size = omega (arith, s.size, length-append t.partial (b ∷ []));
  short = omega (arith, is_inside t b h s.short, length-append t.partial (b ∷ []));
  some = omega arith;
  bytes = IsBytes-append t.partial (b ∷ []) s.bytes (IsBytes-cons b [] low IsBytes-none);
}

-- after the last byte of a field it is whole
pub whole_at : {A : Type 0} (c : Bool) (o : Order) (all : List (ℕ × ℕ)) (t : TakenFields A) (b : ℕ) → IsEnd c t b → IsTaking all t → b < 256 → t.left ≡ 1
    → ((grown_at c o t b).partial ≡ []) × HaveShape (t.done ++ t.field ∷ []) (taken (grown_at c o t b))
whole_at true o all t b h s low last = (
  refl,
  HaveShape-last t.done t.whole t.field _ s.shapes (record {
    width = refl;
    whole =
        let count : (length t.bits + 1) * width_of t + 0 + (t.left - 1) ≡ t.field.1 =
        one_more (length t.bits) (width_of t) (length t.partial) t.left t.field.1 s.size (is_end t b h) s.some in
        rw (length-append t.bits (number o (t.partial ++ b ∷ []) ∷ [])) (omega (arith, count, last));
    fits = AllByRecursion-last (λ n. n < 256 ^ width_of t) t.bits _ s.numbers (new_number o t b h s.bytes low);
  }),
)
whole_at false o all t b h s low last =
    let inside = is_inside t b h s.short in
    absurd (no_rest (length t.bits) (t.field.1 / width_of t) (width_of t) (length t.partial + 1)
    (omega (arith, s.size, last, item_width_divides t.field.0 t.field.1)) (omega arith) inside)
