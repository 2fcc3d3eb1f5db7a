use Rattle.fit_csv.proofs.Common.{◌≡◌, sym, subst, on_ok_weaker, MatchResult-weaker, row_of, known, defined_at}
use Rattle.std.proofs.Common.{Some, None}
use Rattle.fit_csv.proofs.NextSteps.{message-step, by-message, none-by-message}
use Rattle.fit_csv.proofs.from.open_message.take_message_row.Goals as goal

pub returns-in-Some-clause-ok : goal.returns-in-Some-clause-ok
returns-in-Some-clause-ok c =
    let is : defined_at (known c.args.before.now) c.args.values.now.local ≡ Some c.in-Some.defined.now =
    sym (subst (λ e. Some c.in-Some.defined.now ≡ defined_at e c.args.values.now.local) c.env.ensures c.in-Some.ensures.place) in
    on_ok_weaker c.take_by.result (message-step c.args.before.now c.in-Some.defined.now c.args.values.now (row_of c.args.cells.now) c.take_by.new.values is)
    c.take_by.ensures.ok

pub returns-in-Some-clause-err : goal.returns-in-Some-clause-err
returns-in-Some-clause-err c =
    let is : defined_at (known c.args.before.now) c.args.values.now.local ≡ Some c.in-Some.defined.now =
    sym (subst (λ e. Some c.in-Some.defined.now ≡ defined_at e c.args.values.now.local) c.env.ensures c.in-Some.ensures.place) in
    MatchResult-weaker c.take_by.result c.take_by.ensures.err (λ x p. p)
    (λ misfit h. by-message c.args.before.now c.in-Some.defined.now c.args.values.now (row_of c.args.cells.now) misfit is h)

pub returns-in-None-clause-err : goal.returns-in-None-clause-err
returns-in-None-clause-err c other steps kind =
    none-by-message c.args.before.now c.args.values.now (row_of c.args.cells.now) other
    (sym (subst (λ e. None ≡ defined_at e c.args.values.now.local) c.env.ensures c.in-None.ensures.place)) steps
