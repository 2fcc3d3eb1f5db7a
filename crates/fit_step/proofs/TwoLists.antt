-- The search for the next field that has bytes, and a field or a number more.
use Rattle.fit_step.proofs.Common.{◌≡◌, inl, inr, ℕ, zero, suc, ◌+◌, ◌<◌, List, [], ◌∷◌, ◌++◌, take, get_or, set, refl, ap, ◌∙◌, arith, Some}
use Rattle.fit_step.proofs.Common.{None, Option, Items, cond-true, eq-eqb, cases_Bool, Data, Values, FieldItems}
use Rattle.fit_step.proofs.Common.{DevItems, NextState, start, reading, no_items, add_number, begin_dev, begin_fields, next_with_bytes, map-append, drop, map}
use Rattle.fit_step.proofs.Common.{◌==◌, ◌≤◌, cond-false, ne_eqb, item_width, take_more, slice_get, slice_get_within, get_or_from_slice_get}
use Rattle.fit_record.proofs.FirstOfNumber.{dropped}

-- a field without bytes is passed by
pub passed_by : (shapes : List (ℕ × ℕ)) (k : ℕ) (f : ℕ × ℕ) → slice_get shapes k ≡ Some f → f.1 ≤ 0
    → next_with_bytes k (drop k shapes) ≡ next_with_bytes (k + 1) (drop (k + 1) shapes)
passed_by shapes k f at none =
    let next : suc k ≡ k + 1 = omega arith in
    ap (next_with_bytes k) (dropped shapes k f at) ∙ cond-true (f.1 == 0) _ _ (eq-eqb f.1 0 (omega (arith, none)))
    ∙ ap (λ n. next_with_bytes n (drop (k + 1) shapes)) next

-- one with bytes is the next
pub next_at : (shapes : List (ℕ × ℕ)) (k : ℕ) (f : ℕ × ℕ) → slice_get shapes k ≡ Some f → 0 < f.1
    → next_with_bytes k (drop k shapes) ≡ Some (k, item_width f.0 f.1, f.1)
next_at shapes k f at some = ap (next_with_bytes k) (dropped shapes k f at) ∙ cond-false (f.1 == 0) _ _ (ne_eqb f.1 0 (λ e. absurd (omega (arith, e, some))))

-- one field more, without items
pub one_more_field : {A : Type 0} (shapes : List (ℕ × ℕ)) (k : ℕ) (f : ℕ × ℕ) → slice_get shapes k ≡ Some f
    → map (no_items {A = A}) (take (k + 1) shapes) ≡ map no_items (take k shapes) ++ no_items f ∷ []
one_more_field shapes k f at =
    ap (map no_items)
    (take_more shapes k f (slice_get_within shapes k f at) ∙ ap (λ x. take k shapes ++ x ∷ []) (get_or_from_slice_get shapes k f f at))
    ∙ map-append no_items (take k shapes) (f ∷ [])

-- ---- a number more in a field

set_at : {A : Type 0} (items : List (Items A)) (k n : ℕ) (l : Items A) → l ≡ get_or items k l
    → set items k (record { width = l.width; bits = l.bits ++ n ∷ [] }) ≡ add_number k items n
set_at [] k n l here = refl
set_at (i ∷ items) zero n l here = ap (λ (x : Items _). (record { width = x.width; bits = x.bits ++ n ∷ [] }) ∷ items) here
set_at (i ∷ items) (suc k) n l here = ap (λ t. i ∷ t) (set_at items k n l here)

pub set_number : {A : Type 0} (items fields : List (Items A)) (k n : ℕ) (l : Items A) (bits : List ℕ) → items ≡ fields → l ≡ get_or items k l
    → bits ≡ l.bits ++ n ∷ []
    → set items k (record { width = l.width; bits = bits }) ≡ add_number k fields n
set_number items fields k n l bits same here grown =
    ap (λ b. set items k (record { width = l.width; bits = b })) grown ∙ set_at items k n l here ∙ ap (λ i. add_number k i n) same

set_same : {A : Type 0} (items : List (Items A)) (k : ℕ) (l : Items A) → l ≡ get_or items k l → set items k l ≡ items
set_same [] k l here = refl
set_same (i ∷ items) zero l here = ap (λ x. x ∷ items) here
set_same (i ∷ items) (suc k) l here = ap (λ t. i ∷ t) (set_same items k l here)

pub set_back : {A : Type 0} (items fields : List (Items A)) (k : ℕ) (l : Items A) (bits : List ℕ) → items ≡ fields → l ≡ get_or items k l → bits ≡ l.bits
    → set items k (record { width = l.width; bits = bits }) ≡ fields
set_back items fields k l bits same here kept =
    ap (λ b. set items k (record { width = l.width; bits = b })) kept ∙ set_same items k l here ∙ same

-- where the next developer field begins, and where the next field does
abbrev pub dev_begun : {A : Type 0} → ℕ → Values A → Option (ℕ × ℕ × ℕ) → NextState A
dev_begun room v None = (start room, Some (Data v))
dev_begun room v (Some (place, width, left)) = (reading (DevItems place width left) room v [], None)

abbrev pub field_begun : {A : Type 0} → ℕ → Values A → List (ℕ × ℕ) → Option (ℕ × ℕ × ℕ) → NextState A
field_begun room v dev None = begin_dev room v 0 dev
field_begun room v dev (Some (place, width, left)) = (reading (FieldItems place width left) room v [], None)

pub dev_found : {A : Type 0} (room : ℕ) (v : Values A) (place : ℕ) (rest : List (ℕ × ℕ))
    → begin_dev room v place rest ≡ dev_begun room v (next_with_bytes place rest)
dev_found room v place [] = refl
dev_found room v place (f ∷ rest) = elim (cases_Bool (f.1 == 0)) [ inl z ↦ rw z (dev_found room v (suc place) rest) | inr z ↦ rw z refl ]

pub field_found : {A : Type 0} (room : ℕ) (v : Values A) (place : ℕ) (rest dev : List (ℕ × ℕ))
    → begin_fields room v place rest dev ≡ field_begun room v dev (next_with_bytes place rest)
field_found room v place [] dev = refl
field_found room v place (f ∷ rest) dev = elim (cases_Bool (f.1 == 0)) [ inl z ↦ rw z (field_found room v (suc place) rest dev) | inr z ↦ rw z refl ]
