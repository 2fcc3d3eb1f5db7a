-- One byte after any parts of a record.
use Rattle.fit_step.proofs.Common.{◌≡◌, inl, inr, ℕ, ◌+◌, ◌*◌, ◌<◌, true, false, [], ◌∷◌, ◌++◌, refl, subst, arith, ◌-◌, IsOk, nat_lt, MessageDef}
use Rattle.fit_step.proofs.Common.{DefinitionPhase, FieldCount, DevCount, Environment, Tests, defining, step, definition_move, dev_count_byte, definition_rest}
use Rattle.fit_step.proofs.Common.{least_rest, RecordPart, nothing, in_definition, in_fields, in_dev_fields, part_bytes, IsPart, HasBegun, state_of, le-ltb}
use Rattle.fit_step.proofs.Common.{zero, suc, List, sym, ap, ◌∙◌, append_assoc, Record, IsRecord, CutsGoOn, State, ◌≤◌, replicate}
use Rattle.std.proofs.Common.{◌≤◌}
use Rattle.fit_step.proofs.Outcomes.{Moves, Outcome}
use Rattle.fit_step.proofs.HeaderSteps.{header_outcome}
use Rattle.fit_step.proofs.MessageSteps.{field_moves, dev_moves}
use Rattle.fit_step.proofs.DefinitionSteps.{definition_outcome}
use Rattle.fit_step.proofs.Rest.{keeps, KeepsRoom, rest_same, takes_more}

pub outcome : {A : Type 0} (e : Environment A) (tests : Tests A) (room : ℕ) (f : RecordPart A) (b : ℕ) → IsPart e f → b < 256
    → Outcome e room (part_bytes e f) b (step e tests (state_of room f) b)
outcome e tests room nothing b h low = header_outcome e tests room b low
outcome e tests room (in_definition k d) b h low = definition_outcome e tests room k d b h low
outcome e tests room (in_fields local offset t dev) b h low = inl (field_moves e tests room local offset t dev b h low)
outcome e tests room (in_dev_fields local offset items t) b h low = inl (dev_moves e tests room local offset items t b h low)

-- ---- a zero is never refused inside a record, where no test of rooms is

abbrev pub no_tests : {A : Type 0} → Tests A
no_tests = record { message = λ _. true; dev_count = λ _ _ _. true; field_size = λ _ _ _ _. true; dev_size = λ _ _ _ _. true }

zero_taken : {A : Type 0} (k : DefinitionPhase) (d : MessageDef A) (room : ℕ) → definition_rest k d ≤ room → IsOk (definition_move no_tests k room d 0)
unfolding definition_move
zero_taken FieldCount d room less =
    let short : nat_lt room (1 + 3 * 0 + dev_count_byte d.dev) ≡ false = le-ltb room (1 + 3 * 0 + dev_count_byte d.dev) (omega (arith, less)) in rw short refl
zero_taken DevCount d room less = let short : nat_lt room (1 + 3 * 0) ≡ false = le-ltb room (1 + 3 * 0) (omega (arith, less)) in rw short refl
zero_taken k d room less = refl

zero_in_definition : {A : Type 0} (e : Environment A) (k : DefinitionPhase) (d : MessageDef A) (room : ℕ) → definition_rest k d ≤ room
    → IsOk (step e no_tests (defining k room d) 0)
unfolding step
zero_in_definition e k d room less = zero_taken k d room less

pub zero_goes : {A : Type 0} (e : Environment A) (room : ℕ) (f : RecordPart A) → IsPart e f → HasBegun f → least_rest e (state_of room f) ≤ room
    → Moves e (room - 1) (part_bytes e f ++ 0 ∷ []) (step e no_tests (state_of room f) 0)
zero_goes e room nothing h begun less = absurd begun
zero_goes e room (in_definition k d) h begun less =
    elim (outcome e no_tests room (in_definition k d) 0 h (omega arith)) [
      | inl moves ↦ moves
      | inr stops ↦ absurd (let ok = subst IsOk stops.is (zero_in_definition e k d room less) in cc)
    ]
zero_goes e room (in_fields local offset t dev) h begun less = field_moves e no_tests room local offset t dev 0 h (omega arith)
zero_goes e room (in_dev_fields local offset items t) h begun less = dev_moves e no_tests room local offset items t 0 h (omega arith)

-- ---- zeros complete a record

zeros_after : (xs : List ℕ) (k : ℕ) → (xs ++ 0 ∷ []) ++ 0 ∷ replicate k 0 ≡ xs ++ 0 ∷ replicate (suc k) 0
zeros_after xs k = append_assoc xs (0 ∷ []) (0 ∷ replicate k 0)

go_on : {A : Type 0} (e : Environment A) (room : ℕ) (f : RecordPart A) → IsPart e f → HasBegun f → least_rest e (state_of room f) ≤ room
    → (r : Record A) × (k : ℕ) × IsRecord e r (part_bytes e f ++ 0 ∷ replicate k 0)
go_on e zero f h begun less = absurd (omega (arith, less, takes_more e zero f h begun))
go_on {A} e (suc room) f h begun less =
    elim (zero_goes e (suc room) f h begun less) [
      | inr c ↦ (c.whole, 0, (c.fits, sym c.spelled))
      | inl g ↦
          let t : State A = state_of (suc room - 1) g.next in
          let left : (t.room + 1 ≡ suc room) × (least_rest e t ≤ t.room) = subst (KeepsRoom e (suc room)) g.is (keeps e no_tests (suc room) f 0 h less) in
          let k = go_on e room g.next g.stands g.begun (omega (arith, left.0, left.1, rest_same e (suc room - 1) room g.next)) in
          (k.0, suc k.1, (k.2.0, sym (zeros_after (part_bytes e f) k.1) ∙ ap (λ z. z ++ 0 ∷ replicate k.1 0) (sym g.spelled) ∙ k.2.1))
    ]

pub cuts_go_on : {A : Type 0} → CutsGoOn A
cuts_go_on e f h begun =
    let room : ℕ = least_rest e (state_of 0 f) in go_on e room f h begun (omega (arith, rest_same e room 0 f))
