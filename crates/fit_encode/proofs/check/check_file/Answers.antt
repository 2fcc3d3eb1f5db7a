use Rattle.fit_encode.proofs.Common.{sym, inr, length, refl, ap, ◌∙◌, err_from_is_err_and, empty_environment, records_bytes}
use Rattle.std.proofs.Common.{Err}
use Rattle.std.proofs.lemmas.Bool.{true≢false}
use Rattle.fit_encode.proofs.FaultSteps.{record_or, good_file, zero_fault}
use Rattle.fit_encode.proofs.check.check_file.Goals as goal

pub returns-in_err-length-clause-err : goal.returns-in_err-length-clause-err
returns-in_err-length-clause-err g c =
    let p = err_from_is_err_and c.from_residual.result c.from_residual.ensures.1 in
    rw (p.1, p.2) (record_or c.args.number c.args.file.now _ _ c.as_slice.ensures (c.has_form.ensures.0 c.if-not-has_form.false) c.in_err-length.ensures.err)

pub returns-in-Ok-clause-ok : goal.returns-in-Ok-clause-ok
returns-in-Ok-clause-ok g c =
    let measured = c.in_ok-length.ensures.ok in (
      good_file c.args.file.now _ _ c.as_slice.ensures measured.0 measured.1 (c.in-Ok.ensures.ok.0 refl),
      measured.1 ∙ ap (λ x. length (records_bytes {A = g.row.A.Denot} empty_environment x)) c.as_slice.ensures,
    )

pub returns-in-Err-BadHeader-clause-err : goal.returns-in-Err-BadHeader-clause-err
returns-in-Err-BadHeader-clause-err g c = inr (refl, c.in-Err-BadHeader.ensures.bad_header.0 (ap Err c.in-Err-BadHeader.field-0-is))

pub returns-in-Err-ZeroIsSum-clause-err : goal.returns-in-Err-ZeroIsSum-clause-err
returns-in-Err-ZeroIsSum-clause-err g c =
    let measured = c.in_ok-length.ensures in
    let zero = zero_fault c.args.file.now _ _ c.as_slice.ensures measured.ok.0 measured.ok.1 measured.small
    (c.in-Err-ZeroIsSum.ensures.zero_is_sum.0 (ap Err c.in-Err-ZeroIsSum.field-0-is)) in
    inr (refl, zero.0, zero.1, zero.2, zero.3)

pub returns-in_err-length-clause-ok : goal.returns-in_err-length-clause-ok
returns-in_err-length-clause-ok g c = let p = err_from_is_err_and c.from_residual.result c.from_residual.ensures.1 in rw p.1 tt

pub returns-then-not-has_form-clause-err : goal.returns-then-not-has_form-clause-err
returns-then-not-has_form-clause-err g c = inr (refl, λ fits. true≢false (sym (c.has_form.ensures.1 fits) ∙ c.if-not-has_form.true))

pub returns-in-Err-BadHeader-clause-ok : goal.returns-in-Err-BadHeader-clause-ok
returns-in-Err-BadHeader-clause-ok g c = tt

pub returns-in-Err-ZeroIsSum-clause-ok : goal.returns-in-Err-ZeroIsSum-clause-ok
returns-in-Err-ZeroIsSum-clause-ok g c = tt

pub returns-in-Ok-clause-err : goal.returns-in-Ok-clause-err
returns-in-Ok-clause-err g c = tt

pub returns-then-not-has_form-clause-ok : goal.returns-then-not-has_form-clause-ok
returns-then-not-has_form-clause-ok g c = tt
