use Rattle.fit_frame.proofs.Common.{◌≡◌, Some, lit<, sym, ap, ◌∙◌, subst, Seen, IsWholeHeader, RefusesByte, header_reason, MayFollow, HasItsSize, ReadsAs}
use Rattle.fit_frame.specs.declared.reason.Reason.{Reason}
use Rattle.fit_frame.specs.declared.header.Header.{Header}
use Rattle.std.proofs.Common.{ℕ}
use Rattle.std.proofs.lemmas.Bool.{both_ways}
use Rattle.std.specs.Prelude.{Option, Result, Ok, Err}
use Rattle.fit_frame.proofs.JudgedBytesAreHeaders.{whole}
use Rattle.fit_frame.proofs.HeadersAreJudged.{has_its_size}
use Rattle.fit_frame.proofs.JudgedBytesBegin.{begins, put-on, room, refused}
use Rattle.fit_frame.proofs.reader.HeadReader.put.Goals as goal

-- what an answer holds, or else these
abbrev reason_in : Reason → Result (Option (Header × ℕ)) Reason → Reason
reason_in other (Err reason) = reason
reason_in other _ = other

abbrev header_in : (Header × ℕ) → Result (Option (Header × ℕ)) Reason → (Header × ℕ)
header_in other (Ok (Some header)) = header
header_in other _ = other

pub returns-then-not-may_follow-clause-refused : goal.returns-then-not-may_follow-clause-refused
returns-then-not-may_follow-clause-refused c = rw (← c.self.view_is) (λ reason fresh e.
    let is : c.reason_at-reason.result ≡ reason = ap (reason_in reason) e in
    let bytes = c.self.inside.bytes.items in
    let fails : MayFollow bytes c.args.byte → ⊥ = λ m.
    both_ways _ c.if-not-may_follow.true (c.may_follow.ensures.1 (subst (λ x. MayFollow x c.args.byte) (sym c.as_slice.ensures.value) m)) in (
      ap (λ (r : Reason). record { bytes = bytes; refusal = Some r }) is,
      subst (RefusesByte bytes c.args.byte) (ap header_reason (sym c.len.ensures.value) ∙ sym c.reason_at-reason.ensures ∙ is)
          (refused bytes c.args.byte c.self.invariant fails),
    ))

pub push-requires : goal.push-requires
push-requires c =
    let fresh : IsWholeHeader c.self.inside.bytes.items → ⊥ = λ w. c.requires (subst IsWholeHeader (ap (λ (s : Seen). s.bytes) c.self.view_is) w) in
    (lit< tt, room c.self.inside.bytes.items c.self.invariant fresh)

pub invariant_of-self-then-not-has_its_size : goal.invariant_of-self-then-not-has_its_size
invariant_of-self-then-not-has_its_size c =
    put-on _ _ _ c.args.byte c.self.invariant (λ w. c.requires (subst IsWholeHeader (ap (λ (s : Seen). s.bytes) c.self.view_is) w)) c.ranges.byte.fits
    c.as_slice.ensures.value (c.may_follow.ensures.0 c.if-not-may_follow.false) c.push.ensures.items

pub returns-then-not-has_its_size-clause-none : goal.returns-then-not-has_its_size-clause-none
returns-then-not-has_its_size-clause-none c = λ e.
    let reading = invariant_of-self-then-not-has_its_size c in
    let fails : IsWholeHeader c.push.new.self.items → ⊥ =
    λ w. both_ways _ c.if-not-has_its_size.true
    (c.has_its_size.ensures.1 (subst HasItsSize (sym c.as_slice-2.ensures.value) (has_its_size c.push.new.self.items w))) in
    (begins c.push.new.self.items reading, fails)

pub invariant_of-self-2 : goal.invariant_of-self-2
invariant_of-self-2 c =
    put-on _ _ _ c.args.byte c.self.invariant (λ w. c.requires (subst IsWholeHeader (ap (λ (s : Seen). s.bytes) c.self.view_is) w)) c.ranges.byte.fits
    c.as_slice.ensures.value (c.may_follow.ensures.0 c.if-not-may_follow.false) c.push.ensures.items

pub returns-clause-some : goal.returns-clause-some
returns-clause-some c = λ h n e.
    let reading = invariant_of-self-2 c in
    let bytes = c.push.new.self.items in
    let size : HasItsSize bytes = subst HasItsSize c.as_slice-2.ensures.value (c.has_its_size.ensures.0 c.if-not-has_its_size.false) in
    let reads : ReadsAs c.header_of.result.0 c.header_of.result.1 bytes =
    subst (ReadsAs c.header_of.result.0 c.header_of.result.1) c.as_slice-3.ensures.value c.header_of.ensures in
    let told = ap (header_in c.header_of.result) e in
    let is_header : c.header_of.result.0 ≡ h = ap (λ p. p.0) told in
    let is_size : c.header_of.result.1 ≡ n = ap (λ p. p.1) told in
    whole h n bytes reading.judged reading.are_bytes size
    (subst (λ x. ReadsAs h x bytes) is_size (subst (λ x. ReadsAs x c.header_of.result.1 bytes) is_header reads))
