-- Which rooms records can fill: the test and what it means.
use Rattle.fit_record.proofs.Common.{◌≡◌, ℕ, suc, ◌+◌, ◌<◌, ◌≤◌, ◌⊎◌, inl, inr, ◌↔◌, ◌-◌, IsTrue, true, false, List, [], ◌∷◌, ◌++◌, length, refl, sym, ap, ◌∙◌}
use Rattle.fit_record.proofs.Common.{subst, arith, length-append, None, Some, get_or, option_and_then, IsSomeAnd, ◌==◌, option_map_or, true≢false, eqb-true}
use Rattle.fit_record.proofs.Common.{eq-eqb, or_cases, cases_lt, length-replicate, list_any_at, Record, Define, Data, Defined, Environment, defined_at}
use Rattle.fit_record.proofs.Common.{describe, description, learn, DataHeaderFits, DataFits, AllFit, order_at, record_bytes, records_bytes, CanFill}
use Rattle.fit_record.proofs.Common.{message_size, fills, has_length, can_fill, IsBytes-append, IsBytes-cons, IsBytes-none, IsBytes-zeros, replicate, Option}
use Rattle.fit_record.proofs.Common.{Values, values_from}
use Rattle.fit_record.specs.declared.learn.Description.{Description}
use Rattle.fit_record.proofs.LargeRooms.{six_and_more}
use Rattle.fit_record.proofs.RoomSums.{fills_6, fills_more, of_filled}
use Rattle.fit_record.proofs.RecordLengths.{length-definition, length-data}
use Rattle.fit_record.proofs.ReadMessages.{message_fits}

-- ---- messages alone

described_places : {A : Type 0} (e : Environment A) (o : Option Description) → (describe e o).places ≡ e.places
described_places e None = refl
described_places e (Some s) = refl

pub same_places : {A : Type 0} (e : Environment A) (v : Values A) → (learn e (Data v)).places ≡ e.places
same_places e v = described_places e (option_and_then (λ p. description p.definition v) (defined_at e v.local))

-- a place with messages of this length
abbrev IsPlace : {A : Type 0} → ℕ → List (Option (Defined A)) → Type 0
IsPlace {A} n places = (i : ℕ) × (p : Defined A) × (i < length places) × (get_or places i None ≡ Some p) × (1 + message_size p ≡ n)

found : {A : Type 0} (n : ℕ) (places : List (Option (Defined A))) → has_length places n ≡ true → IsPlace n places
found n [] h = absurd (true≢false (sym h))
found n (None ∷ places) h = later (found n places h) where
  later : IsPlace n places → IsPlace n (None ∷ places)
  later (i, p, l, q, s) = (suc i, p, omega arith, q, s)
found n (Some p ∷ places) h = go (λ k. found n places k) (or_cases (1 + message_size p == n) (has_length places n) h) where
  later : IsPlace n places → IsPlace n (Some p ∷ places)
  later (i, r, l, q, s) = (suc i, r, omega arith, q, s)

  go : (has_length places n ≡ true → IsPlace n places) → ((1 + message_size p == n) ≡ true) ⊎ (has_length places n ≡ true) → IsPlace n (Some p ∷ places)
  go others (inl k) = (0, p, omega arith, refl, eqb-true _ n k)
  go others (inr k) = later (others k)

-- a message, and then what fills the rest of the room
message_first : {A : Type 0} (e : Environment A) (n room : ℕ) → length e.places ≡ 16 → has_length e.places n ≡ true
    → ((f : Environment A) → f.places ≡ e.places → CanFill f room) → CanFill e (n + room)
message_first {A} e n room sixteen h others = go (found n e.places h) where
  go : IsPlace n e.places → CanFill e (n + room)
  go (local, p, l, q, s) =
      let o = order_at e local in
      let zeros : List ℕ = replicate (message_size p) 0 in
      let v : Values A = values_from local None o p zeros in
      let fits = message_fits {A = A} local None o p zeros (omega arith) (IsBytes-zeros (message_size p)) (length-replicate (message_size p) 0) in
      let rest = others (learn e (Data v)) (same_places e v) in (
        Data v ∷ rest.0,
        (local ∷ zeros) ++ rest.1,
        IsBytes-append (local ∷ zeros) rest.1 (IsBytes-cons local zeros (omega arith) (IsBytes-zeros (message_size p))) rest.2,
        (
          (subst (λ o. IsSomeAnd o (DataFits v)) (sym q) fits.0, rest.3.0),
          ap (λ bs. (local ∷ zeros) ++ bs) rest.3.1 ∙ ap (λ bs. (local ∷ bs) ++ records_bytes (learn e (Data v)) rest.0) (sym fits.1),
        ),
        omega (arith, length-append (local ∷ zeros) rest.1, length-replicate {A = ℕ} (message_size p) 0),
      )

pub local_below : (local : ℕ) (o : Option ℕ) → DataHeaderFits local o → local < 16
local_below local None h = h
local_below local (Some offset) h = omega arith

-- Below 6 there is room for messages alone.
messages_fill : {A : Type 0} (e : Environment A) (records : List (Record A)) → length e.places ≡ 16 → AllFit e records → length (records_bytes e records) < 6
    → can_fill e (length (records_bytes e records)) ≡ true
messages_fill e [] sixteen fits below = refl
messages_fill e (Define d ∷ records) sixteen fits below =
    absurd (omega (arith, length-append (record_bytes e (Define d)) (records_bytes (learn e (Define d)) records), length-definition d))
messages_fill {A} e (Data v ∷ records) sixteen fits below =
    let after = learn e (Data v) in
    let same : after.places ≡ e.places = same_places e v in
    let both = length-append (record_bytes e (Data v)) (records_bytes after records) in
    let others = messages_fill after records (ap length same ∙ sixteen) fits.1 (omega (arith, both)) in
    go (subst (λ places. fills (has_length places) (length (records_bytes after records)) ≡ true) same others) both (defined_at e v.local) refl fits.0 where
      go : can_fill e (length (records_bytes (learn e (Data v)) records)) ≡ true
          → length (records_bytes e (Data v ∷ records)) ≡ length (record_bytes e (Data v)) + length (records_bytes (learn e (Data v)) records)
          → (o : Option (Defined A)) → defined_at e v.local ≡ o → IsSomeAnd o (DataFits v) → can_fill e (length (records_bytes e (Data v ∷ records))) ≡ true
      go others both None q p = absurd p
      go others both (Some d) q p =
          let l : v.local < 16 = local_below v.local v.offset p.header in
          let here : option_map_or (λ p. 1 + message_size p == 1 + message_size d) (get_or e.places v.local None) false ≡ true =
          ap (λ o. option_map_or (λ p. 1 + message_size p == 1 + message_size d) o false) q ∙ eq-eqb _ (1 + message_size d) refl in
          let has : has_length e.places (1 + message_size d) ≡ true =
          list_any_at (λ o. option_map_or (λ p. 1 + message_size p == 1 + message_size d) o false) e.places v.local None (omega arith) here in
          let size = length-data (order_at e v.local) v d p in
          let room : (1 + message_size d) + length (records_bytes (learn e (Data v)) records) ≡ length (records_bytes e (Data v ∷ records)) =
          omega (arith, both, size) in
          subst (λ n. can_fill e n ≡ true) room (fills_more (has_length e.places) (1 + message_size d) _ (omega arith) has others)

-- ---- the law

-- what can be filled can be filled in every environment with these places
module _ {A : Type 0} (places : List (Option (Defined A))) (sixteen : length places ≡ 16) where
  below_6 : (room : ℕ) → room < 6 → fills (has_length places) room ≡ true → (e : Environment A) → e.places ≡ places → CanFill e room
  below_6 = of_filled (has_length places) (λ room. (e : Environment A) → e.places ≡ places → CanFill e room)
      (λ e same. ([], [], IsBytes-none, (tt, refl), refl))
      (λ n room positive has others e same. message_first e n room (ap length same ∙ sixteen) (subst (λ ps. has_length ps n ≡ true) (sym same) has)
      (λ f again. others f (again ∙ same)))

can_fill-true : {A : Type 0} (e : Environment A) (room : ℕ) → length e.places ≡ 16 → can_fill e room ≡ true → CanFill e room
can_fill-true e room sixteen h = go (cases_lt room 6) where
  go : (room < 6) ⊎ (6 ≤ room) → CanFill e room
  go (inl l) = below_6 e.places sixteen room l h e refl
  go (inr l) = let n : 6 + (room - 6) ≡ room = omega arith in subst (CanFill e) n (six_and_more e (room - 6) (omega arith))

can_fill-from : {A : Type 0} (e : Environment A) (room : ℕ) → length e.places ≡ 16 → CanFill e room → can_fill e room ≡ true
can_fill-from e room sixteen (records, bytes, are, spelled, total) = go (cases_lt room 6) where
  n : length (records_bytes e records) ≡ room
  n = ap length (sym spelled.1) ∙ total

  go : (room < 6) ⊎ (6 ≤ room) → can_fill e room ≡ true
  go (inl l) = subst (λ k. can_fill e k ≡ true) n (messages_fill e records sixteen spelled.0 (omega (arith, n)))
  go (inr l) = fills_6 (has_length e.places) room l

pub can_fill_is : {A : Type 0} (e : Environment A) (room : ℕ) → length e.places ≡ 16 → IsTrue (can_fill e room) ↔ CanFill e room
can_fill_is e room sixteen = (can_fill-true e room sixteen, can_fill-from e room sixteen)
