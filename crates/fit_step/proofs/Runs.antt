-- From the machine to the form, and from the form to the machine.
use Rattle.fit_step.proofs.Common.{◌≡◌, inl, inr, ℕ, zero, suc, ◌-◌, ◌<◌, List, [], ◌∷◌, ◌++◌, length, refl, sym, ap, ◌∙◌, subst, arith, append_assoc, Some}
use Rattle.fit_step.proofs.Common.{None, Ok, Err, append-nil, IsBytes, IsBytes-tail, Reason, NoFit, Overrun, Record, Environment, Fits, record_bytes, Tests}
use Rattle.fit_step.proofs.Common.{State, NextState, start, step, Ends, RoomsFill, RecordPart, nothing, part_bytes, IsPart, HasBegun, state_of, IsShut}
use Rattle.fit_step.proofs.Common.{RecordsRunThrough, same_record, ◌≤◌}
use Rattle.fit_step.proofs.RecordFronts.{part_of_record}
use Rattle.fit_step.proofs.OneByte.{outcome}

-- ---- from the machine to the form

pub one_less : (room n : ℕ) → room - 1 - n ≡ room - suc n
one_less room n = omega arith

pub one_more : (xs : List ℕ) (b : ℕ) (ys : List ℕ) → (xs ++ b ∷ []) ++ ys ≡ xs ++ b ∷ ys
one_more xs b ys = append_assoc xs (b ∷ []) ys

-- what a step to a state was
pub step_goes : {A : Type 0} (e : Environment A) (tests : Tests A) (room : ℕ) (f : RecordPart A) (b : ℕ) (u : State A) → IsPart e f → b < 256
    → step e tests (state_of room f) b ≡ Ok (u, None)
    → (next : RecordPart A) × IsPart e next × (part_bytes e next ≡ part_bytes e f ++ b ∷ []) × (u ≡ state_of (room - 1) next) × HasBegun next
step_goes {A} e tests room f b u h low made =
    elim (outcome e tests room f b h low) [
      | inr stops ↦ absurd (cc (made, stops.is))
      | inl moves ↦ elim moves [
        | inr c ↦ absurd (let same : (u, None) ≡ (start (room - 1), Some c.whole) = cc (made, c.is) in let none : None ≡ Some c.whole =
            ap (λ (n : NextState A). n.1) same in cc)
        | inl g ↦ let same : (u, None) ≡ (state_of (room - 1) g.next, None) = cc (made, g.is) in
            (g.next, g.stands, g.spelled, ap (λ (n : NextState A). n.0) same, g.begun)
      ]
    ]

pub step_ends : {A : Type 0} (e : Environment A) (tests : Tests A) (room : ℕ) (f : RecordPart A) (b : ℕ) (u : State A) (r : Record A) → IsPart e f → b < 256
    → step e tests (state_of room f) b ≡ Ok (u, Some r)
    → Fits e r × (record_bytes e r ≡ part_bytes e f ++ b ∷ []) × (u ≡ start (room - 1))
step_ends {A} e tests room f b u r h low made =
    elim (outcome e tests room f b h low) [
      | inr stops ↦ absurd (cc (made, stops.is))
      | inl moves ↦ elim moves [
        | inl g ↦ absurd (let same : (u, Some r) ≡ (state_of (room - 1) g.next, None) = cc (made, g.is) in let none : Some r ≡ None =
            ap (λ (n : NextState A). n.1) same in cc)
        | inr c ↦
            let same : (u, Some r) ≡ (start (room - 1), Some c.whole) = cc (made, c.is) in
            let wrapped : Some r ≡ Some c.whole = ap (λ (n : NextState A). n.1) same in
            let whole : r ≡ c.whole = cc in
            (subst (Fits e) (sym whole) c.fits, ap (record_bytes e) whole ∙ c.spelled, ap (λ (n : NextState A). n.0) same)
      ]
    ]

-- ---- from the form to the machine

-- a refusal of a byte that a record in the room goes on with is for want of records after it
pub shut_out : {A : Type 0} (e : Environment A) (room : ℕ) (bytes : List ℕ) (b : ℕ) (reason : Reason) (r : Record A) (rest : List ℕ)
    → IsShut e room bytes b reason
    → Fits e r → record_bytes e r ≡ bytes ++ b ∷ rest → length rest < room → (reason ≡ NoFit → ⊥) → ⊥
shut_out e room bytes b NoFit r rest shut fits is less other = other refl
shut_out e room bytes b Overrun r rest shut fits is less other = omega (arith, shut r rest fits is, less)
shut_out e room bytes b reason r rest shut fits is less other = shut r rest fits is

through : {A : Type 0} (e : Environment A) (tests : Tests A) (r : Record A) (bytes : List ℕ) (room : ℕ) (f : RecordPart A) → IsPart e f → IsBytes bytes
    → Fits e r
    → record_bytes e r ≡ part_bytes e f ++ bytes
    → length bytes ≤ room → RoomsFill e tests (state_of room f) bytes → Ends e tests (state_of room f) bytes (start (room - length bytes)) r
through e tests r [] room f h low fits is within fill =
    absurd (part_of_record e f h r [] fits (sym (append-nil (record_bytes e r) ∙ is ∙ append-nil (part_bytes e f))))
through {A} e tests r (b ∷ bytes) room f h low fits is within fill =
    elim (outcome e tests room f b h (low zero)) [
      | inr stops ↦ absurd (shut_out e room (part_bytes e f) b stops.reason r bytes stops.shut fits is (omega arith) (λ same. fill.0 (stops.is ∙ ap Err same)))
      | inl moves ↦ elim moves [
        | inr c ↦
            let one = same_record e r c.whole [] bytes fits c.fits
            (append-nil (record_bytes e r) ∙ is ∙ sym (one_more (part_bytes e f) b bytes) ∙ ap (λ z. z ++ bytes) (sym c.spelled)) in
            let none : bytes ≡ [] = sym one.1 in
            let count : length (b ∷ bytes) ≡ 1 = ap (λ z. length (b ∷ z)) none in
            inl (none, c.is ∙ (λ i. Ok (start (room - sym count i), Some (sym one.0 i))))
        | inl g ↦
            let k = through e tests r bytes (room - 1) g.next g.stands (IsBytes-tail b bytes low) fits
            (is ∙ sym (one_more (part_bytes e f) b bytes) ∙ ap (λ z. z ++ bytes) (sym g.spelled)) (omega arith) (fill.1 (state_of (room - 1) g.next) g.is) in
            inr (state_of (room - 1) g.next, g.is, subst (λ n. Ends e tests (state_of (room - 1) g.next) bytes (start n) r) (one_less room (length bytes)) k)
      ]
    ]

pub records_run_through : {A : Type 0} → RecordsRunThrough A
records_run_through e tests room r bytes h low within fill = through e tests r bytes room nothing tt low h.0 (sym h.1) within fill
