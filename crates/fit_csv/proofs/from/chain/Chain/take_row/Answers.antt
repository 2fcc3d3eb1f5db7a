use Rattle.fit_csv.proofs.Common.{◌∙◌, ap, sym, on_ok_weaker, MatchResult-weaker, Chain, row_of}
use Rattle.std.proofs.lemmas.Bool.{false≢true}
use Rattle.fit_csv.proofs.ChainSteps.{current-misfit}
use Rattle.fit_csv.proofs.OpenFiles.{open-current, open-step}
use Rattle.fit_csv.proofs.from.chain.Chain.take_row.Goals as goal

pub returns-clause-err : goal.returns-clause-err
returns-clause-err c =
    let x = c.self.inside.0.1.0 in
    let here = open-current c.args.self.now c.self.inside.0.0 x.is_open x.file c.self.view_is
    (λ none. false≢true (sym c.if-is_none.false ∙ c.is_none.ensures.1 none)) in
    MatchResult-weaker c.take_row.result c.take_row.ensures.err (λ _ p. p)
    (λ misfit h. current-misfit c.args.self.now x.file (row_of c.args.cells.now) misfit here h)

pub returns-then-may_end-clause-ok : goal.returns-then-may_end-clause-ok
returns-then-may_end-clause-ok c = c.end_file.ensures.ok

pub returns-then-may_end-clause-err : goal.returns-then-may_end-clause-err
returns-then-may_end-clause-err c = c.end_file.ensures.err

pub returns-then-is_none-clause-ok : goal.returns-then-is_none-clause-ok
returns-then-is_none-clause-ok c = c.begin_file.ensures.ok

pub returns-then-is_none-clause-err : goal.returns-then-is_none-clause-err
returns-then-is_none-clause-err c = c.begin_file.ensures.err

pub end_file-requires : goal.end_file-requires
end_file-requires c = c.may_end.ensures.0 c.if-may_end.true

pub begin_file-requires : goal.begin_file-requires
begin_file-requires c = record { none = ap (λ (d : Chain). d.current) (sym c.self.view_is) ∙ c.is_none.ensures.0 c.if-is_none.true }

pub returns-clause-ok : goal.returns-clause-ok
returns-clause-ok c =
    let x = c.self.inside.0.1.0 in
    on_ok_weaker c.take_row.result
    (λ step. open-step c.args.self.now c.self.inside.0.0 x.is_open x.file c.take_row.new.self (row_of c.args.cells.now) c.self.view_is
    (λ none. false≢true (sym c.if-is_none.false ∙ c.is_none.ensures.1 none)) step) c.take_row.ensures.ok
