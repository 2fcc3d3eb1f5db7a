-- Which data messages can stand in a room: the test and what it means.
use Rattle.fit_record.proofs.Common.{◌≡◌, ℕ, ◌+◌, ◌-◌, List, ◌++◌, length-append, ◌<◌, ◌≤◌, ◌↔◌, IsTrue, Bool, true, false, length, refl, sym, ap, ◌∙◌, subst}
use Rattle.fit_record.proofs.Common.{arith, None, Some, option_map, nat_le, ◌&&◌, IfSome, IsSomeAnd, option_map_or, true≢false, and_parts, and_from, and_left}
use Rattle.fit_record.proofs.Common.{leb-true, le-leb, lt-leb, IsBytes, IsBytes-append, IsBytes-zeros, Data, Defined, Environment, defined_at, learn}
use Rattle.fit_record.proofs.Common.{data_header, DataHeaderFits, data_bytes, DataFits, order_at, message_size, CanFill, fills, has_length, can_fill, CanCarry}
use Rattle.fit_record.proofs.Common.{can_carry, length-replicate, replicate, Option, Values, values_from}
use Rattle.fit_record.proofs.OneRecord.{same_header, header_fits}
use Rattle.fit_record.proofs.RecordLengths.{length-data}
use Rattle.fit_record.proofs.ReadMessages.{message_fits}
use Rattle.fit_record.proofs.FilledRooms.{can_fill_is, same_places}

-- A data message changes no lengths.
pub same_filling : {A : Type 0} (e : Environment A) (v : Values A) (room : ℕ) → can_fill (learn e (Data v)) room ≡ can_fill e room
same_filling e v room = ap (λ places. fills (has_length places) room) (same_places e v)

pub can_fill_after_data : {A : Type 0} (e : Environment A) (v : Values A) (room : ℕ) → length e.places ≡ 16 → IsTrue (can_fill e room)
    ↔ CanFill (learn e (Data v)) room
can_fill_after_data e v room sixteen =
    subst (λ b. IsTrue b ↔ CanFill (learn e (Data v)) room) (same_filling e v room)
    (can_fill_is (learn e (Data v)) room (ap length (same_places e v) ∙ sixteen))

module _ {A : Type 0} (e : Environment A) (local : ℕ) (offset : Option ℕ) (part : List ℕ) (room : ℕ)
    (sixteen : length e.places ≡ 16) (header : DataHeaderFits local offset) (are : IsBytes part)
    (begun : IfSome (defined_at e local) (λ p. length part ≤ message_size p)) where
  abbrev carry_at : Option (Defined A) → Bool
  carry_at o = option_map_or (λ p. nat_le (message_size p) (length part + room) && can_fill e (length part + room - message_size p)) o false

  carries : (o : Option (Defined A)) → defined_at e local ≡ o → IfSome o (λ p. length part ≤ message_size p) → carry_at o ≡ true
      → CanCarry e (data_header local offset) part room
  carries None q k h = absurd (true≢false (sym h))
  carries (Some p) q k h =
      let o = order_at e local in
      let rest : List ℕ = replicate (message_size p - length part) 0 in
      let rest_bytes : IsBytes rest = IsBytes-zeros (message_size p - length part) in
      let to_come : length rest ≡ message_size p - length part = length-replicate (message_size p - length part) 0 in
      let v : Values A = values_from local offset o p (part ++ rest) in
      let fits = message_fits {A = A} local offset o p (part ++ rest) header (IsBytes-append part rest are rest_bytes)
      (length-append part rest ∙ omega (arith, to_come, k)) in
      let parts = and_parts (nat_le (message_size p) (length part + room)) (can_fill e (length part + room - message_size p)) h in
      let enough : message_size p ≤ length part + room = leb-true (message_size p) (length part + room) parts.0 in (
        v,
        rest,
        length part + room - message_size p,
        subst (λ o. IsSomeAnd o (DataFits v)) (sym q) fits.0,
        refl,
        fits.1,
        rest_bytes,
        (can_fill_after_data e v (length part + room - message_size p) sixteen).0 parts.1,
        omega (arith, enough, to_come, k),
      )

  carried : (v : Values A) (rest : List ℕ) (left : ℕ) → data_bytes (order_at e v.local) v ≡ part ++ rest → CanFill (learn e (Data v)) left
      → length rest + left ≡ room
      → (o : Option (Defined A)) → defined_at e local ≡ o → IsSomeAnd o (DataFits v) → carry_at o ≡ true
  carried v rest left spelled fill total None q h = absurd h
  carried v rest left spelled fill total (Some p) q h =
      let size : message_size p ≡ length part + length rest = sym (length-data (order_at e v.local) v p h) ∙ ap length spelled ∙ length-append part rest in
      let remains : left ≡ length part + room - message_size p = omega (arith, size, total) in
      and_from (nat_le (message_size p) (length part + room)) _ (le-leb (message_size p) (length part + room) (omega (arith, size, total)))
      (subst (λ n. can_fill e n ≡ true) remains ((can_fill_after_data e v left sixteen).1 fill))

  pub can_carry_is : IsTrue (can_carry e local (length part + room)) ↔ CanCarry e (data_header local offset) part room
  can_carry_is = (carries (defined_at e local) refl begun, from) where
    from : CanCarry e (data_header local offset) part room → IsTrue (can_carry e local (length part + room))
    from (v, rest, left, fits, same, spelled, _, fill, total) =
        let l : v.local ≡ local = (same_header v.local local v.offset offset (header_fits (defined_at e v.local) v fits) header same).0 in
        carried v rest left spelled fill total (defined_at e local) refl (subst (λ n. IsSomeAnd (defined_at e n) (DataFits v)) l fits)

-- ---- the test by the message's size

abbrev pub can_carry_size : {A : Type 0} → Environment A → ℕ → Option ℕ → Bool
can_carry_size e room n = option_map_or (λ n. nat_le n room && can_fill e (room - n)) n false

by_size : {A : Type 0} (e : Environment A) (room : ℕ) (n : Option ℕ) (o : Option (Defined A)) → n ≡ option_map message_size o
    → can_carry_size e room n ≡ option_map_or (λ p. nat_le (message_size p) room && can_fill e (room - message_size p)) o false
by_size e room n None h = ap (can_carry_size e room) h
by_size e room n (Some p) h = ap (can_carry_size e room) h

pub carried_by_size : {A : Type 0} (e : Environment A) (local room : ℕ) (n : Option ℕ) → n ≡ option_map message_size (defined_at e local)
    → can_carry_size e room n ≡ can_carry e local room
carried_by_size e local room n h = by_size e room n (defined_at e local) h

same_test : (a b : Bool) {P : Type 0} → IsTrue a ↔ P → IsTrue b ↔ P → a ≡ b
same_test true b p q = sym (q.1 (p.0 refl))
same_test false true p q = absurd (true≢false (sym (p.1 (q.0 refl))))
same_test false false p q = refl

pub after_it : {A : Type 0} (e : Environment A) (room n : ℕ) (filled : Bool) → length e.places ≡ 16 → n ≤ room → IsTrue filled ↔ CanFill e (room - n)
    → filled ≡ can_carry_size e room (Some n)
after_it e room n filled sixteen enough h =
    same_test filled (can_fill e (room - n)) h (can_fill_is e (room - n) sixteen) ∙ sym (ap (λ b. b && can_fill e (room - n)) (le-leb n room enough))

pub too_long : {A : Type 0} (e : Environment A) (room n : ℕ) → room < n → nat_le n room ≡ can_carry_size e room (Some n)
too_long e room n long = lt-leb n room long ∙ sym (and_left (nat_le n room) _ (lt-leb n room long))
