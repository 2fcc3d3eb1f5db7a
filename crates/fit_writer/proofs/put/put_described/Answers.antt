use Rattle.std.proofs.Common.{refl}
use Rattle.std.proofs.lemmas.Result.{err_from_is_err_and}
use Rattle.fit_writer.proofs.DescribedPuts.{err_after, half_undescribed, ok_after, refused_after, why_undescribed}
use Rattle.fit_writer.proofs.HalfDescribed.{becomes_stream}
use Rattle.fit_writer.specs.Describing.{DescribesForm}
use Rattle.fit_writer.specs.inner.Places.{form_of}
use Rattle.fit_writer.proofs.put.put_described.Goals as goal

pub returns-in_err-describe-clause-err : goal.returns-in_err-describe-clause-err
returns-in_err-describe-clause-err c =
    let p = err_from_is_err_and c.from_residual.result c.from_residual.ensures.1 in
    rw (p.1, p.2)
    (half_undescribed c.args.file.now c.describe.new.file (form_of c.args.lone.now) c.args.block.now c.args.offset c.requires.needs
    c.in_err-describe.field-0.0 c.in_err-describe.ensures.err)

pub returns-in_err-describe-clause-refused : goal.returns-in_err-describe-clause-refused
returns-in_err-describe-clause-refused c =
    let p = err_from_is_err_and c.from_residual.result c.from_residual.ensures.1 in
    rw (p.1, p.2)
    (why_undescribed c.args.file.now c.describe.new.file (form_of c.args.lone.now) c.args.block.now c.args.offset c.requires.needs
    c.in_err-describe.field-0.0 c.in_err-describe.ensures.err)

pub returns-clause-ok : goal.returns-clause-ok
returns-clause-ok c =
    let f = form_of c.args.lone.now in
    let now = becomes_stream c.args.file.now c.describe.new.file (λ before after. DescribesForm before after f) c.in_ok-describe.ensures.ok in
    ok_after c.args.file.now c.describe.new.file c.put_placed.new.file f c.args.block.now c.args.offset c.requires.needs now.0 now.1 c.put_placed.result
    c.put_placed.ensures.ok

pub returns-clause-err : goal.returns-clause-err
returns-clause-err c =
    let f = form_of c.args.lone.now in
    let now = becomes_stream c.args.file.now c.describe.new.file (λ before after. DescribesForm before after f) c.in_ok-describe.ensures.ok in
    err_after c.args.file.now c.describe.new.file c.put_placed.new.file f c.args.block.now c.args.offset c.requires.needs now.0 now.1
    c.args.lone.now.definition c.put_placed.result refl c.put_placed.ensures.err c.put_placed.ensures.refused

pub returns-clause-refused : goal.returns-clause-refused
returns-clause-refused c =
    let f = form_of c.args.lone.now in
    let now = becomes_stream c.args.file.now c.describe.new.file (λ before after. DescribesForm before after f) c.in_ok-describe.ensures.ok in
    refused_after c.args.file.now c.describe.new.file c.put_placed.new.file f c.args.block.now c.args.offset c.requires.needs now.0 now.1
    c.put_placed.result c.put_placed.ensures.refused
