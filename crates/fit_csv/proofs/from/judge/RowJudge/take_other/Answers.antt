use Rattle.fit_csv.proofs.Common.{◌++◌, sym, subst}
use Rattle.std.proofs.Common.{List, ℕ}
use Rattle.fit_csv.specs.inner.Judging.{HasJudged}
use Rattle.fit_csv.proofs.JudgedRows.{spelled-left}
use Rattle.fit_csv.proofs.from.judge.RowJudge.take_other.Goals as goal

pub take_window-requires : goal.take_window-requires
take_window-requires c =
    subst (λ (l : List ℕ). HasJudged c.args.whole.now (l ++ c.in-Some.after.now) c.args.self.now.chain c.args.self.now.rows) (sym c.as_slice.ensures.value)
    (spelled-left c.args.whole.now c.args.left.now (c.fill.new.self.bytes.items ++ c.in-Some.after.now) c.args.self.now.chain c.args.self.now.rows c.requires
    (rw c.in-Some.is at c.in-Ok.ensures.rows))
