use Rattle.fit_csv.proofs.Common.{sym, subst, Global, FitFile, AreFilesOf}
use Rattle.std.proofs.Common.{List, OnOk}
use Rattle.fit_csv.proofs.from.judge.judge_rows.Goals as goal

pub take_all-end-requires-clause-chain : goal.take_all-end-requires-clause-chain
take_all-end-requires-clause-chain c = c.new-judge.ensures.chain

pub take_all-end-requires-clause-rows : goal.take_all-end-requires-clause-rows
take_all-end-requires-clause-rows c = c.new-judge.ensures.rows

pub returns-clause-ok : goal.returns-clause-ok
returns-clause-ok c =
    subst (λ (files : List (FitFile Global)). OnOk c.take_all-end.result (AreFilesOf c.args.text.now files)) (sym c.swap.ensures.x_after)
    c.take_all-end.ensures.ok

pub returns-clause-err : goal.returns-clause-err
returns-clause-err c = c.take_all-end.ensures.err
