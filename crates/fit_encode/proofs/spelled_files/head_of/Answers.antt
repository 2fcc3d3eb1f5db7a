use Rattle.fit_encode.proofs.Common.{refl, ap, ◌∙◌, length, arith}
use Rattle.std.proofs.Common.{◌+◌}
use Rattle.std.proofs.Common.{Err}
use Rattle.fit_encode.specs.Encoding.{file_of}
use Rattle.fit_encode.proofs.Kept.{file-good, long-fault, sum-fault}
use Rattle.fit_encode.proofs.spelled_files.head_of.Goals as goal

pub returns-then-not-has_form-clause-err : goal.returns-then-not-has_form-clause-err
returns-then-not-has_form-clause-err c = (refl, λ form. cc (c.if-not-has_form.ensures.1 form))

pub returns-in-Some-clause-err : goal.returns-in-Some-clause-err
returns-in-Some-clause-err c =
    long-fault (c.args.before + 1) (file_of c.args.header.now c.args.records.now) c.args.records.now c.in-Some.index refl
    (c.has_form.ensures.0 c.if-not-has_form.false) c.in-Some.ensures.some

pub data_len-requires : goal.data_len-requires
data_len-requires c =
    let short = c.too_long.ensures.none c.in_default.is in
    omega (arith, short, ap length (c.bytes.ensures short))

pub returns-in-Ok-clause-good : goal.returns-in-Ok-clause-good
returns-in-Ok-clause-good c =
    let short = c.too_long.ensures.none c.in_default.is in
    file-good (file_of c.args.header.now c.args.records.now) c.args.header.now c.args.records.now c.data_len.result refl refl c.too_long.ensures.fit
    (c.data_len.ensures ∙ ap length (c.bytes.ensures short)) (c.in-Ok.ensures.ok.0 refl)

pub returns-in-Err-BadHeader-clause-err : goal.returns-in-Err-BadHeader-clause-err
returns-in-Err-BadHeader-clause-err c =
    absurd (c.in-Err-BadHeader.ensures.bad_header.0 (ap Err c.in-Err-BadHeader.field-0-is) (c.has_form.ensures.0 c.if-not-has_form.false))

pub returns-in-Err-ZeroIsSum-clause-err : goal.returns-in-Err-ZeroIsSum-clause-err
returns-in-Err-ZeroIsSum-clause-err c =
    let short = c.too_long.ensures.none c.in_default.is in
    let size = c.data_len.ensures ∙ ap length (c.bytes.ensures short) in
    sum-fault (c.args.before + 1) (file_of c.args.header.now c.args.records.now) c.args.header.now c.args.records.now c.data_len.result refl refl
    c.too_long.ensures.fit size (omega (arith, short, size)) (c.in-Err-ZeroIsSum.ensures.zero_is_sum.0 (ap Err c.in-Err-ZeroIsSum.field-0-is))
