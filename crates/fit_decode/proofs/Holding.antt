-- How much a decoder holds, by the bytes that were fed.
use Rattle.fit_decode.proofs.Common.{◌≡◌, cond, false, ℕ, ◌+◌, ◌-◌, ◌≤◌, List, length, refl, sym, ap, ◌∙◌, subst, arith, Some, None, ◌==◌, cond-true}
use Rattle.fit_decode.proofs.Common.{cond-false, eq-eqb, ne_eqb, IsBytes, checksum, Reason, Environment, empty_environment, learn_all, records_bytes}
use Rattle.fit_decode.proofs.Common.{in_progress_size, IsCountable, IsInProgress, idle_between_records, Inside, Section, Data, ClosingSum, at_header, at_data}
use Rattle.fit_decode.proofs.Common.{AreChain, Fields, InData, HoldsAt, IsSoundDecoder, fields_inside, half_sum, Latched, refusal_of, seen_in}
use Rattle.fit_record.specs.Sizes.{environment_size}
use Rattle.fit_step.specs.Held.{held_of_record, part_size}
use Rattle.fit_step.proofs.HeldInProgress.{held_is_of_bytes}
use Rattle.fit_decode.specs.declared.section.Section.TheVariants.{Header}
use Rattle.fit_decode.specs.Answers.{Seen}
use Rattle.fit_chain.specs.Held.{IsHeld, bound_limit}
use Rattle.fit_chain.proofs.HeldLimit.{limited_bound, records_are}
use Rattle.fit_decode.proofs.Ended.{chain_at}

nothing_known : (A : Type 0) → environment_size {A = A} empty_environment ≡ 0
nothing_known A = refl

-- ---- by the fields

module _ {A : Type 0} (d : Fields A) (bytes : List ℕ) (are : IsBytes bytes) where
  abbrev in_record : ℕ
  in_record = in_progress_size d.env d.position d.in_progress

  nothing_held : d.env ≡ empty_environment → d.in_progress ≡ None → environment_size d.env + in_record ≡ 0
  nothing_held known idle = omega (arith, ap environment_size known ∙ nothing_known A, ap (in_progress_size d.env d.position) idle)

  abbrev IsKeptAs : Environment A → Environment A → List ℕ → Type 0
  IsKeptAs e known part = IsCountable e d.position d.in_progress
      × (in_progress_size e d.position d.in_progress ≡ held_of_record known part)
      × (in_progress_size e d.position d.in_progress ≤ part_size known part)

  kept_in_data : (k : InData d bytes) → IsKeptAs d.env (learn_all empty_environment k.records) k.part
  kept_in_data k =
      let room : ℕ = k.size - length (records_bytes empty_environment k.records) in
      let known : Environment A = learn_all empty_environment k.records in
      subst (λ e. IsKeptAs e known k.part) (sym k.known)
      (held_is_of_bytes k.records room k.part d.position d.in_progress k.come.next.1
      (records_are k.files k.header k.size k.records k.part bytes k.come are)
      (subst (λ e. IsInProgress e room k.part d.position d.in_progress) k.known k.in_record))

  held_at : (s : Section) → HoldsAt s d bytes → refusal_of s ≡ None → IsHeld A bytes (environment_size d.env + in_record)
  held_at (Latched reason) k fresh = absurd cc
  held_at Header k fresh =
      let none = nothing_held k.known k.idle in
      record { files = k.files; progress = at_header d.sum; come = k.come; is = none; within = omega (arith, none); all = λ _. none }
  held_at Data k fresh =
      let e : Environment A = learn_all empty_environment k.records in
      let kept = kept_in_data k in
      let known = ap environment_size k.known in
      let some : (length (records_bytes empty_environment k.records) == k.size) ≡ false =
      ne_eqb (length (records_bytes empty_environment k.records)) k.size (λ all. let more = k.some in omega (arith, more, all)) in
      let exact : in_record ≡ cond (length (records_bytes empty_environment k.records) == k.size) 0 (held_of_record e k.part) =
      kept.1 ∙ sym (cond-false (length (records_bytes empty_environment k.records) == k.size) 0 (held_of_record e k.part) some) in
      let counted = cond-false (length (records_bytes empty_environment k.records) == k.size) 0 (part_size e k.part) some in
      record {
        files = k.files;
        progress = at_data k.header k.size k.records k.part;
        come = k.come;
        is = omega (arith, known, exact);
        within = omega (arith, known, kept.2, counted);
        all = λ idle.
            let none : in_record ≡ 0 =
            ap (in_progress_size d.env d.position) ((idle_between_records d.env _ k.part d.position d.in_progress k.in_record).1 idle) in
            let no_part : part_size e k.part ≡ 0 = ap (part_size e) idle in
            omega (arith, known, none, no_part, counted);
      }
  held_at ClosingSum k fresh =
      let known = ap environment_size k.known in
      let none : in_record ≡ 0 = ap (in_progress_size d.env d.position) k.idle in
      let over = eq-eqb (length (records_bytes empty_environment k.records)) k.size (let less = k.come.next.2 in let all = k.over in omega (arith, less, all))
      in
      record {
        files = k.files;
        progress = at_data k.header k.size k.records _;
        come = k.come;
        is = omega (
          arith,
          known,
          none,
          cond-true (length (records_bytes empty_environment k.records) == k.size) 0
              (held_of_record (learn_all empty_environment k.records) (half_sum (checksum d.sum) d.stage.half)) over,
        );
        within = omega (arith, known, none);
        all = λ _.
            let uncounted = cond-true (length (records_bytes empty_environment k.records) == k.size) 0
            (part_size (learn_all empty_environment k.records) (half_sum (checksum d.sum) d.stage.half)) over in
            omega (arith, known, none, uncounted);
      }

  small_at : (s : Section) → HoldsAt s d bytes → IsCountable d.env d.position d.in_progress
  small_at Header k = subst (IsCountable d.env d.position) (sym k.idle) tt
  small_at ClosingSum k = subst (IsCountable d.env d.position) (sym k.idle) tt
  small_at Data k = (kept_in_data k).0
  small_at (Latched reason) k = subst (IsCountable d.env d.position) (sym k.1) tt

  limited_at : (s : Section) → HoldsAt s d bytes → environment_size d.env + in_record ≤ bound_limit
  limited_at (Latched reason) k = omega (arith, nothing_held k.0 k.1)
  limited_at s k = let h = held_at s k refl in omega (arith, h.within, limited_bound h.files h.progress bytes h.come are)

  let_go_at : (s : Section) → HoldsAt s d bytes → (reason : Reason) → refusal_of s ≡ Some reason
      → environment_size d.env + in_record ≡ 0
  let_go_at (Latched was) k reason is = nothing_held k.0 k.1
  let_go_at s k reason is = absurd cc

  held_after_chain : (s : Section) → HoldsAt s d bytes → d.stage.section ≡ s → AreChain A bytes
      → environment_size d.env + in_record ≡ 0
  held_after_chain (Latched reason) k at chain = nothing_held k.0 k.1
  held_after_chain Header k at chain = nothing_held k.known k.idle
  held_after_chain s k at chain = let ended = (chain_at d bytes s k at refl chain).0 in absurd cc

-- ---- what a caller sees

pub small_seen : {A : Type 0} (d : Inside A) → IsSoundDecoder d → IsCountable d.env d.position d.in_progress
small_seen d k = small_at (fields_inside d) d.history.items k.are d.stage.section k.holds

module _ {A : Type 0} (d : Inside A) (k : IsSoundDecoder d) (n m : ℕ) (env : n ≡ environment_size d.env)
    (in_progress : m ≡ in_progress_size d.env d.position d.in_progress)
  where
    count : environment_size d.env + in_progress_size d.env d.position d.in_progress ≡ n + m
    count = omega (arith, env, in_progress)

    pub limited_seen : n + m ≤ bound_limit
    limited_seen = omega (arith, count, limited_at (fields_inside d) d.history.items k.are d.stage.section k.holds)

    module _ (old : Seen) (seen : seen_in d ≡ old) where
      pub held_seen : old.refusal ≡ None → IsHeld A old.bytes (n + m)
      held_seen fresh =
          subst (λ b. IsHeld A b (n + m)) (ap (λ (s : Seen). s.bytes) seen)
          (subst (IsHeld A d.history.items) count
          (held_at (fields_inside d) d.history.items k.are d.stage.section k.holds (ap (λ (s : Seen). s.refusal) seen ∙ fresh)))

      pub let_go_seen : (reason : Reason) → old.refusal ≡ Some reason → n + m ≡ 0
      let_go_seen reason is =
          sym count
          ∙ let_go_at (fields_inside d) d.history.items k.are d.stage.section k.holds reason (ap (λ (s : Seen). s.refusal) seen ∙ is)

      pub ended_seen : AreChain A old.bytes → n + m ≡ 0
      ended_seen chain =
          sym count
          ∙ held_after_chain (fields_inside d) d.history.items k.are d.stage.section k.holds refl
          (subst (AreChain A) (sym (ap (λ (s : Seen). s.bytes) seen)) chain)
