use Rattle.fit_csv.proofs.Common.{sym, subst, err_from_is_err_and, IsMisfit, CanStandNext, row_of, Part}
use Rattle.fit_csv.proofs.PartSteps.{definition-misfit, values-misfit}
use Rattle.fit_csv.proofs.Common.{PartStep, refl}
use Rattle.std.proofs.Common.{IfOk, IfErr}
use Rattle.fit_csv.specs.declared.from.open_file.Part.TheVariants.{Definition, Message}
use Rattle.fit_csv.proofs.from.open_file.next_part.Goals as goal

pub returns-in_err-take_definition_row-in-Definition-clause-err : goal.returns-in_err-take_definition_row-in-Definition-clause-err
returns-in_err-take_definition_row-in-Definition-clause-err c =
    let p = err_from_is_err_and c.from_residual.result c.from_residual.ensures.1 in
    let misfit = c.in_err-take_definition_row-in-Definition.field-0.0 in
    rw (p.1, p.2) (subst (λ (part : Part). IsMisfit (CanStandNext c.args.before.now part) (row_of c.args.cells.now)
    c.in_err-take_definition_row-in-Definition.field-0.0)
    (sym c.in-Definition.is)
    (definition-misfit c.args.before.now c.in-Definition.definition (row_of c.args.cells.now) misfit c.in_err-take_definition_row-in-Definition.ensures.err))

pub returns-in_err-take_message_row-in-Message-clause-err : goal.returns-in_err-take_message_row-in-Message-clause-err
returns-in_err-take_message_row-in-Message-clause-err c =
    let p = err_from_is_err_and c.from_residual-in_err-take_message_row-in-Message.result c.from_residual-in_err-take_message_row-in-Message.ensures.1 in
    let misfit = c.in_err-take_message_row-in-Message.field-0.0 in
    rw (p.1, p.2) (subst (λ (part : Part). IsMisfit (CanStandNext c.args.before.now part) (row_of c.args.cells.now)
    c.in_err-take_message_row-in-Message.field-0.0)
    (sym c.in-Message.is)
    (values-misfit c.args.before.now c.in-Message.values (row_of c.args.cells.now) misfit c.in_err-take_message_row-in-Message.ensures.err))

pub returns-in-Nothing-clause-ok : goal.returns-in-Nothing-clause-ok
returns-in-Nothing-clause-ok c =
    subst (λ (part : Part). IfOk c.begin_record.result (PartStep c.args.before.now part (row_of c.args.cells.now))) (sym c.in-Nothing.is)
    c.begin_record.ensures.ok

pub returns-in-Nothing-clause-err : goal.returns-in-Nothing-clause-err
returns-in-Nothing-clause-err c =
    subst (λ (part : Part). IfErr c.begin_record.result (IsMisfit (CanStandNext c.args.before.now part) (row_of c.args.cells.now))) (sym c.in-Nothing.is)
    c.begin_record.ensures.err

pub returns-in_ok-take_definition_row-in-Definition-clause-ok : goal.returns-in_ok-take_definition_row-in-Definition-clause-ok
returns-in_ok-take_definition_row-in-Definition-clause-ok c =
    subst (λ (part : Part). PartStep c.args.before.now part (row_of c.args.cells.now) (Definition c.take_definition_row.new.definition))
    (sym c.in-Definition.is) (c.take_definition_row.new.definition, c.in_ok-take_definition_row-in-Definition.ensures.ok, refl)

pub returns-in_ok-take_message_row-in-Message-clause-ok : goal.returns-in_ok-take_message_row-in-Message-clause-ok
returns-in_ok-take_message_row-in-Message-clause-ok c =
    subst (λ (part : Part). PartStep c.args.before.now part (row_of c.args.cells.now) (Message c.take_message_row.new.values))
    (sym c.in-Message.is) (c.take_message_row.new.values, c.in_ok-take_message_row-in-Message.ensures.ok, refl)
