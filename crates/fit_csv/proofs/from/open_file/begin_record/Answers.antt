use Rattle.fit_csv.proofs.Common.{refl, sym, row_of}
use Rattle.fit_csv.proofs.NextSteps.{no-kind}
use Rattle.std.proofs.lemmas.Bool.{true≢false}
use Rattle.fit_csv.proofs.from.open_file.begin_record.Goals as goal

pub returns-then-same-clause-ok : goal.returns-then-same-clause-ok
returns-then-same-clause-ok c = c.begin_definition.ensures.ok

pub returns-then-same-clause-err : goal.returns-then-same-clause-err
returns-then-same-clause-err c = c.begin_definition.ensures.err

pub returns-then-same-2-clause-ok : goal.returns-then-same-2-clause-ok
returns-then-same-2-clause-ok c = c.begin_message.ensures.ok

pub returns-then-same-2-clause-err : goal.returns-then-same-2-clause-err
returns-then-same-2-clause-err c = c.begin_message.ensures.err

pub begin_definition-requires : goal.begin_definition-requires
begin_definition-requires c = c.same.ensures.0 c.if-same.true

pub begin_message-requires : goal.begin_message-requires
begin_message-requires c = c.same-else-same.ensures.0 c.if-same-2.true

pub returns-else-same-2-clause-err : goal.returns-else-same-2-clause-err
returns-else-same-2-clause-err c =
    no-kind c.args.before.now (row_of c.args.cells.now) c.args.cells.now.kind.now refl
    (λ e. true≢false (sym (c.if-same.ensures.1 e))) (λ e. true≢false (sym (c.if-same-2.ensures.1 e))) c.requires
