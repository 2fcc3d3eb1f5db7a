use Rattle.std.proofs.Common.{◌≡◌, ◌⊎◌, ◌∷◌, [], inl, inr, refl, ap}
use Rattle.std.proofs.lemmas.Result.{err_from_is_err_and}
use Rattle.std.specs.Prelude.{None}
use Rattle.fit_writer.proofs.HalfDescribed.{becomes_stream, err_added, half_from}
use Rattle.fit_writer.specs.Describing.{AddsIndex, DescribesSome, description_reading, plain_reading}
use Rattle.fit_writer.specs.Reading.{entry_naming}
use Rattle.fit_writer.specs.inner.Describing.{wanted}
use Rattle.fit_writer.proofs.describing.put_description.Goals as goal

pub returns-in_err-put_index-clause-err : goal.returns-in_err-put_index-clause-err
returns-in_err-put_index-clause-err c =
    let p = err_from_is_err_and c.from_residual.result c.from_residual.ensures.1 in
    let old = c.args.file.now in
    rw (p.1, p.2)
    (half_from old old c.put_index.new.file (λ before after. (after ≡ before) ⊎ AddsIndex before after c.args.x.now.field.index)
    (λ before after. DescribesSome before after (wanted c.args.x.now ∷ [])) c.in_err-put_index.field-0.0 refl
    (λ after h. elim h [
      | inl same ↦ inl same
      | inr adds ↦ inr (inl (c.requires.other, adds))
    ])
    c.in_err-put_index.ensures.err)

pub returns-in_err-message-clause-err : goal.returns-in_err-message-clause-err
returns-in_err-message-clause-err c =
    let p = err_from_is_err_and c.from_residual-in_err-message.result c.from_residual-in_err-message.ensures.1 in
    let mid = c.put_index.new.file in
    let now = becomes_stream c.args.file.now mid (λ before after. AddsIndex before after c.args.x.now.field.index) c.in_ok-put_index.ensures.ok in
    rw (p.1, p.2) (None, tt, (mid.stream, inr (inl (c.requires.other, now.0)), now.1))

pub returns-clause-err : goal.returns-clause-err
returns-clause-err c =
    let old = c.args.file.now in
    let mid = c.put_index.new.file in
    let x = wanted c.args.x.now in
    let now = becomes_stream old mid (λ before after. AddsIndex before after c.args.x.now.field.index) c.in_ok-put_index.ensures.ok in
    err_added old mid c.put.new.file 15 (plain_reading 206 c.in_ok-message.message)
    (description_reading c.args.x.now.field c.args.x.now.code (entry_naming c.args.x.now.said.now))
    (λ before after. DescribesSome before after (x ∷ [])) c.put.result now.1 (ap (plain_reading 206) c.in_ok-message.ensures) (inl refl)
    (inr (inl (c.requires.other, now.0)))
    (λ after added. inr (inr (after, inr (c.requires.other, mid.stream, now.0, added), refl))) c.put.ensures.err
