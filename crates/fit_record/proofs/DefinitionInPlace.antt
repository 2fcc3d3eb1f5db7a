-- What can be filled once a definition has taken its place.
use Rattle.fit_record.proofs.Common.{◌≡◌, ℕ, zero, suc, ◌+◌, ◌-◌, ◌<◌, ◌≤◌, ◌⊎◌, inl, inr, ◌↔◌, IsTrue, Bool, true, false, List, [], ◌∷◌, length, refl, ap, ◌∙◌}
use Rattle.fit_record.proofs.Common.{subst, arith, lit<, None, Some, slice_set, ◌==◌, ◌||◌, nat_le, option_map_or, or_cases, or_left, or_right, cases_lt}
use Rattle.fit_record.proofs.Common.{eqb-true, eq-eqb, leb-true, le-leb, lt-leb, length-set, Defined, MessageDef, Define, Environment, dev_defs, dev_code}
use Rattle.fit_record.proofs.Common.{defined_by, learn, body_length, length-map, message_size, CanFill, fills, has_length, others_have, can_fill, can_fill_with}
use Rattle.fit_record.proofs.Common.{can_fill_from, finishes, can_complete, and_from, Option}
use Rattle.fit_record.proofs.RoomSums.{fills_6, fills_more, of_filled}
use Rattle.fit_record.proofs.FilledRooms.{can_fill_is}
use Rattle.fit_record.proofs.MessageSizes.{message_size_is}

-- ---- lengths of messages with a definition in its place

or_swap : (a b : Bool) → (a || b) ≡ (b || a)
or_swap true true = refl
or_swap true false = refl
or_swap false true = refl
or_swap false false = refl

pub or_regroup : (a b c : Bool) → (a || (b || c)) ≡ ((a || b) || c)
or_regroup true b c = refl
or_regroup false b c = refl

placed : {A : Type 0} (places : List (Option (Defined A))) (local n : ℕ) (p : Defined A) → local < length places
    → has_length (slice_set places local (Some p)) n ≡ (has_length (slice_set places local None) n || (1 + message_size p == n))
placed [] local n p l = absurd (omega arith)
placed (o ∷ places) zero n p l = or_swap (1 + message_size p == n) (has_length places n)
placed (o ∷ places) (suc local) n p l =
    let test = option_map_or (λ q. 1 + message_size q == n) o false in
    ap (λ b. test || b) (placed places local n p (omega arith)) ∙ or_regroup test (has_length (slice_set places local None) n) (1 + message_size p == n)

-- ---- the records after it

learned_size : {A : Type 0} (e : Environment A) (d : MessageDef A) → message_size (defined_by e d) ≡ body_length d
learned_size e d = message_size_is (defined_by e d) (length-map (dev_defs d.dev) (dev_code e))

learned : {A : Type 0} (e : Environment A) (d : MessageDef A) (room : ℕ) → d.local < length e.places
    → can_fill (learn e (Define d)) room ≡ can_fill_with e d.local (body_length d) room
learned {A} e d room l =
    let same : (n : ℕ) → has_length (slice_set e.places d.local (Some (defined_by e d))) n ≡ (others_have e d.local n || (1 + body_length d == n)) =
    λ n. placed e.places d.local n (defined_by e d) l ∙ ap (λ s. others_have e d.local n || (1 + s == n)) (learned_size e d) in
    λ i. fills (λ n. same n i) room

pub can_fill_after : {A : Type 0} (e : Environment A) (d : MessageDef A) (room : ℕ) → length e.places ≡ 16 → d.local < 16
    → IsTrue (can_fill_with e d.local (body_length d) room) ↔ CanFill (learn e (Define d)) room
can_fill_after e d room sixteen l =
    let count : length (learn e (Define d)).places ≡ 16 = length-set e.places d.local _ ∙ sixteen in
    subst (λ b. IsTrue b ↔ CanFill (learn e (Define d)) room) (learned e d room (omega arith)) (can_fill_is (learn e (Define d)) room count)

-- ---- an open size

module _ (has : ℕ → Bool) (size : ℕ) where
  abbrev more : ℕ → Bool
  more n = has n || (1 + size == n)

  also : (room : ℕ) → room < 6 → fills has room ≡ true → fills more room ≡ true
  also = of_filled has (λ room. fills more room ≡ true) refl (λ n room p h k. fills_more more n room p (or_left (has n) _ h) k)

  without : (n room : ℕ) → n + room < 1 + size → 0 < n → fills has room ≡ true → (has n ≡ true) ⊎ ((1 + size == n) ≡ true) → fills has (n + room) ≡ true
  without n room below p k (inl h) = fills_more has n room p h k
  without n room below p k (inr h) = absurd (omega (arith, eqb-true (1 + size) n h))

  only_others : (room : ℕ) → room < 6 → fills more room ≡ true → room < 1 + size → fills has room ≡ true
  only_others = of_filled more (λ room. room < 1 + size → fills has room ≡ true) (λ below. refl)
      (λ n room p h k below. without n room below p (k (omega arith)) (or_cases (has n) (1 + size == n) h))

  alone : (room : ℕ) → 1 + size ≡ room → fills more room ≡ true
  alone room h =
      subst (λ n. fills more n ≡ true) (let z : room + 0 ≡ room = omega arith in z)
      (fills_more more room 0 (omega arith) (or_right (has room) _ (eq-eqb (1 + size) room h)) refl)

-- with an open size, some size from the least one on
pub open_from : {A : Type 0} (e : Environment A) (local least size room : ℕ) → least ≤ size → can_fill_with e local size room ≡ true
    → can_fill_from e local least room ≡ true
open_from e local least size room l h = go (cases_lt room 6) (cases_lt room (1 + least)) where
  go : (room < 6) ⊎ (6 ≤ room) → (room < 1 + least) ⊎ (1 + least ≤ room) → can_fill_from e local least room ≡ true
  go (inr b) c = or_right (nat_le (1 + least) room) _ (fills_6 (others_have e local) room b)
  go (inl b) (inl c) = or_right (nat_le (1 + least) room) _ (only_others (others_have e local) size room b h (omega arith))
  go (inl b) (inr c) = or_left (nat_le (1 + least) room) _ (le-leb (1 + least) room c)

abbrev pub IsOpenSize : {A : Type 0} → Environment A → ℕ → ℕ → ℕ → Type 0
IsOpenSize e local least room = (extra : ℕ) × (extra < 256) × (can_fill_with e local (least + extra) room ≡ true)

pub open_to : {A : Type 0} (e : Environment A) (local least room : ℕ) → can_fill_from e local least room ≡ true → IsOpenSize e local least room
open_to e local least room h = go (cases_lt room 6) (or_cases (nat_le (1 + least) room) (fills (others_have e local) room) h) where
  go : (room < 6) ⊎ (6 ≤ room) → (nat_le (1 + least) room ≡ true) ⊎ (fills (others_have e local) room ≡ true) → IsOpenSize e local least room
  go (inr b) c = (0, lit< tt, fills_6 (λ n. others_have e local n || (1 + (least + 0) == n)) room b)
  go (inl b) (inl c) =
      let l = leb-true (1 + least) room c in
      (room - (1 + least), omega arith, alone (others_have e local) (least + (room - (1 + least))) room (omega arith))
  go (inl b) (inr c) = (0, lit< tt, also (others_have e local) (least + 0) room b c)

-- ---- either

pub finishes_from : {A : Type 0} (e : Environment A) (local t size found left : ℕ) → size ≤ found → (t < 2 → found ≡ size)
    → can_fill_with e local found left ≡ true → finishes e local t size left ≡ true
finishes_from e local t size found left l k h = go (cases_lt t 2) where
  go : (t < 2) ⊎ (2 ≤ t) → finishes e local t size left ≡ true
  go (inl b) = rw (lt-leb 2 t b) (subst (λ s. can_fill_with e local s left ≡ true) (k b) h)
  go (inr b) = rw (le-leb 2 t b) (open_from e local size found left l h)

abbrev pub IsSize : {A : Type 0} → Environment A → ℕ → ℕ → ℕ → ℕ → Type 0
IsSize e local t size left = (extra : ℕ) × (extra < 256) × (t < 2 → extra ≡ 0) × (can_fill_with e local (size + extra) left ≡ true)

pub finishes_to : {A : Type 0} (e : Environment A) (local t size left : ℕ) → finishes e local t size left ≡ true → IsSize e local t size left
finishes_to e local t size left h = go (cases_lt t 2) where
  some : 2 ≤ t → IsOpenSize e local size left → IsSize e local t size left
  some b (extra, small, k) = (extra, small, (λ c. absurd (omega arith)), k)

  go : (t < 2) ⊎ (2 ≤ t) → IsSize e local t size left
  go (inl b) =
      let k : can_fill_with e local size left ≡ true = rw (lt-leb 2 t b) at h in
      let z : size ≡ size + 0 = omega arith in
      (0, lit< tt, (λ c. refl), subst (λ s. can_fill_with e local s left ≡ true) z k)
  go (inr b) = let k : can_fill_from e local size left ≡ true = rw (le-leb 2 t b) at h in some b (open_to e local size left k)

-- bytes of entries alone are to come
pub completes_from : {A : Type 0} (e : Environment A) (local t size found left room : ℕ) → size ≤ found → (t < 2 → found ≡ size) → t + left ≡ room
    → can_fill_with e local found left ≡ true → can_complete e local t size room ≡ true
completes_from e local t size found left room l k total h =
    and_from (nat_le t room) _ (le-leb t room (omega (arith, total)))
    (finishes_from e local t size found (room - t) l k
    (subst (λ n. can_fill_with e local found n ≡ true) (let same : left ≡ room - t = omega (arith, total) in same) h))
