use Rattle.fit_encode.proofs.Common.{◌≡◌, ◌∙◌, ◌++◌, List, ℕ, refl, sym, ap, length, arith}
use Rattle.std.specs.Prelude.{Err}
use Rattle.fit_encode.proofs.Encoders.{first_broke, open_begun}
use Rattle.fit_encode.proofs.Sendings.{Appends-as, Spells-from, went_out}
use Rattle.fit_encode.proofs.encoder.Encoder.begin.Goals as goal

pub returns-in-Err-ZeroIsSum-clause-refused : goal.returns-in-Err-ZeroIsSum-clause-refused
returns-in-Err-ZeroIsSum-clause-refused g c =
    let zero = c.in-Err-ZeroIsSum.ensures.zero_is_sum.0 (ap Err c.in-Err-ZeroIsSum.field-0-is) in
    ((refl, zero.0, zero.1), refl)

pub returns-in-Err-clause-written_of_good : goal.returns-in-Err-clause-written_of_good
returns-in-Err-clause-written_of_good g c = c.in-Ok.ensures.ok.0 refl

pub returns-in-Err-clause-written : goal.returns-in-Err-clause-written
returns-in-Err-clause-written g c =
    first_broke c.new-out.ensures (c.as_slice.ensures.value ∙ c.in-Ok.ensures.bytes) c.as_slice.type_inv.0 c.in-Err.ensures.sends

pub new-requires : goal.new-requires
new-requires g c = omega arith

pub invariant_of-result : goal.invariant_of-result
invariant_of-result g c =
    let bytes = c.as_slice.result.now in
    let head : c.note.new.self.items ≡ bytes =
    c.note.ensures ∙ ap (λ (x : List ℕ). x ++ c.as_slice-2.result.now) c.new-head.ensures ∙ c.as_slice-2.ensures.value ∙ sym c.as_slice.ensures.value in
    let sent = c.in_default.ensures in
    let out = went_out (Spells-from c.new-out.ensures sent.sends) refl sent.empty in
    λ _ _. rw (c.new.ensures, c.new-2.ensures, head)
    (open_begun c.send.new.out c.args.data_len bytes out.1 sent.empty out.2 (omega (arith, c.ranges.data_len)) (omega (arith, c.as_slice.ensures.fits)))

pub returns-clause-good : goal.returns-clause-good
returns-clause-good g c = c.in-Ok.ensures.ok.0 refl

pub returns-clause-spelled : goal.returns-clause-spelled
returns-clause-spelled g c =
    let sent = c.in_default.ensures in
    let out = went_out (Spells-from c.new-out.ensures sent.sends) refl sent.empty in
    Appends-as _ _ (c.as_slice.ensures.value ∙ c.in-Ok.ensures.bytes) out.0

pub returns-clause-works : goal.returns-clause-works
returns-clause-works g c =
    let sent = c.in_default.ensures in
    let out = went_out (Spells-from c.new-out.ensures sent.sends) refl sent.empty in
    let long = ap length (c.as_slice.ensures.value ∙ c.in-Ok.ensures.bytes) in
    out.3 (omega (arith, long))
