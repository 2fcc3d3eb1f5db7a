use Rattle.std.proofs.Common.{Bool, refl, subst}
use Rattle.std.proofs.lemmas.Result.{err_from_is_err_and}
use Rattle.std.specs.Prelude.{Option, None, IfSome, is_some}
use Rattle.fit_from_messages.specs.declared.alone.LoneDefinition.{LoneDefinition}
use Rattle.fit_writer.proofs.Ends.{err_into, err_refused, ok_put}
use Rattle.fit_writer.proofs.Puts.{refused_form}
use Rattle.fit_writer.specs.inner.Places.{form_of}
use Rattle.fit_writer.specs.inner.Puts.{IsChosen, IsUnchosen}
use Rattle.fit_writer.proofs.put.put_standing.Goals as goal
use Rattle.fit_writer.proofs.put.put_standing.Goals.{In-None, In-Some}

pub returns-in_err-needed-clause-refused : goal.returns-in_err-needed-clause-refused
returns-in_err-needed-clause-refused c =
    let p = err_from_is_err_and c.from_residual.result c.from_residual.ensures.1 in
    let f = form_of c.args.lone.now in
    rw (p.1, p.2)
    (refused_form c.args.file.now.stream f c.args.block.now c.kept_offset-offset.result None _
    refl c.kept_offset-offset.ensures.kept
    (subst (λ (b : Bool). IsUnchosen f c.args.block.now b c.in_err-needed.field-0.0) c.is_some.ensures c.in_err-needed.ensures.err))

-- its own form
own : (c : In-None) → IsChosen (form_of c.args.lone.now) c.args.block.now (is_some c.kept_offset-offset.result) (form_of c.args.lone.now)
own c =
    let f = form_of c.args.lone.now in
    subst (λ (b : Bool). IsChosen f c.args.block.now b f) c.is_some.ensures (c.in_ok-needed.ensures.own c.in-None.is)

pub returns-in-None-clause-ok : goal.returns-in-None-clause-ok
returns-in-None-clause-ok c =
    let f = form_of c.args.lone.now in
    ok_put c.args.file.now c.put_own.new.file f f c.args.block.now c.kept_offset-offset.result c.put_own.result
    (own (goal.at.returns-in-None-clause-ok c).In-None) c.kept_offset-offset.ensures.kept c.put_own.ensures.ok

pub returns-in-None-clause-err : goal.returns-in-None-clause-err
returns-in-None-clause-err c =
    let f = form_of c.args.lone.now in
    err_into c.args.file.now c.put_own.new.file f f c.args.block.now c.kept_offset-offset.result c.put_own.result
    (own (goal.at.returns-in-None-clause-err c).In-None) c.kept_offset-offset.ensures.kept c.put_own.ensures.err

pub returns-in-None-clause-refused : goal.returns-in-None-clause-refused
returns-in-None-clause-refused c =
    let f = form_of c.args.lone.now in
    let chosen = own (goal.at.returns-in-None-clause-refused c).In-None in
    err_refused c.args.file.now.stream f f c.args.block.now c.kept_offset-offset.result None
    c.put_own.result refl
    c.kept_offset-offset.ensures.kept chosen c.put_own.ensures.refused

-- or with a timestamp
stamped : (c : In-Some) → IsChosen (form_of c.args.lone.now) c.args.block.now (is_some c.kept_offset-offset.result) (form_of c.in-Some.dated)
stamped c =
    let f = form_of c.args.lone.now in
    subst (λ (b : Bool). IsChosen f c.args.block.now b (form_of c.in-Some.dated)) c.is_some.ensures
    (subst (λ (o : Option LoneDefinition). IfSome o (λ d. IsChosen f c.args.block.now c.is_some.result (form_of d))) c.in-Some.is
    c.in_ok-needed.ensures.dated)

pub returns-in-Some-clause-ok : goal.returns-in-Some-clause-ok
returns-in-Some-clause-ok c =
    ok_put c.args.file.now c.put_needed.new.file (form_of c.args.lone.now) (form_of c.in-Some.dated) c.args.block.now
    c.kept_offset-offset.result c.put_needed.result (stamped (goal.at.returns-in-Some-clause-ok c).In-Some)
    c.kept_offset-offset.ensures.kept c.put_needed.ensures.ok

pub returns-in-Some-clause-err : goal.returns-in-Some-clause-err
returns-in-Some-clause-err c =
    err_into c.args.file.now c.put_needed.new.file (form_of c.args.lone.now) (form_of c.in-Some.dated) c.args.block.now
    c.kept_offset-offset.result c.put_needed.result (stamped (goal.at.returns-in-Some-clause-err c).In-Some)
    c.kept_offset-offset.ensures.kept c.put_needed.ensures.err

pub returns-in-Some-clause-refused : goal.returns-in-Some-clause-refused
returns-in-Some-clause-refused c =
    let a = (goal.at.returns-in-Some-clause-refused c).In-Some in
    err_refused c.args.file.now.stream (form_of c.args.lone.now) (form_of c.in-Some.dated) c.args.block.now c.kept_offset-offset.result
    None c.put_needed.result
    refl
    c.kept_offset-offset.ensures.kept (stamped a) c.put_needed.ensures.refused
