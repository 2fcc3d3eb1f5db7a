use Rattle.std.proofs.Common.{rules}
use Rattle.std.proofs.lemmas.Result.{err_from_is_err_and}
use Rattle.fit_from_messages.specs.Parts.{entries_of}
use Rattle.fit_from_messages.proofs.DefinitionFacts.{all_slots, dev_misfit, small_misfit}
use Rattle.fit_from_messages.proofs.definition.read_definition.Goals as goal

pub returns-in_err-dev-clause-err : goal.returns-in_err-dev-clause-err
returns-in_err-dev-clause-err c =
    let p = err_from_is_err_and c.from_residual-in_err-dev.result c.from_residual-in_err-dev.ensures.1 in
    rw (p.1, p.2) (λ f. dev_misfit f c.args.block.now (entries_of c.in-Some.entries.dev_count c.in-Some.entries.dev.now) c.in_err-dev.field-0.0
    (search rules) (search rules) (search rules) (search rules) c.in_err-dev.ensures.err)

pub returns-in_err-dev-clause-alone : goal.returns-in_err-dev-clause-alone
returns-in_err-dev-clause-alone c =
    let p = err_from_is_err_and c.from_residual-in_err-dev.result c.from_residual-in_err-dev.ensures.1 in
    rw (p.1, p.2) (small_misfit c.args.block.now (entries_of c.in-Some.entries.dev_count c.in-Some.entries.dev.now) c.in_err-dev.field-0.0
    (search rules) (search rules) (search rules) (search rules) c.in_err-dev.ensures.err)

pub returns-clause-slots : goal.returns-clause-slots
returns-clause-slots c =
    all_slots c.args.block.now (entries_of c.in-Some.entries.field_count c.in-Some.entries.fields.now)
    (entries_of c.in-Some.entries.dev_count c.in-Some.entries.dev.now) c.args.slots.now c.read_fields.new.slots c.read_devs.new.slots
    (search rules) (search rules) (search rules) (search rules) (search rules)
