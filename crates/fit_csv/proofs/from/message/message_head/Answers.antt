use Rattle.fit_csv.proofs.Common.{[], ◌∷◌, ap, MatchResult-weaker, row_of}
use Rattle.fit_cells.specs.Rows.{Cell}
use Rattle.fit_csv.proofs.MessageRows.{message-or-end, no-message}
use Rattle.fit_csv.proofs.from.message.message_head.Goals as goal

pub returns-in-Some-clause-err : goal.returns-in-Some-clause-err
returns-in-Some-clause-err c =
    MatchResult-weaker c.rest_of_message.result c.rest_of_message.ensures.err (λ v p. p)
    (λ misfit h. message-or-end c.args.before.now (row_of c.args.cells.now) misfit (ap (λ (kind : Cell). kind ∷ []) c.requires) h)

pub returns-in-None-clause-err : goal.returns-in-None-clause-err
returns-in-None-clause-err c =
    let cells = c.args.cells.now in
    rw c.requires (no-message c.args.before.now cells.a.now cells.b.now cells.c.now cells.d.now cells.e.now cells.f.now
    (λ n small shows defined. cc (c.in-None.ensures.every n small shows defined)))
