use Rattle.fit_csv.proofs.Common.{[], inl, sym, subst, default_config, fields_of, Row}
use Rattle.std.proofs.Common.{List, ℕ}
use Rattle.csv.specs.Reading.{AreRecords}
use Rattle.csv.specs.declared.parser.State.TheVariants as st
use Rattle.fit_csv_text.specs.Reads.{HasRowBefore}
use Rattle.fit_csv.proofs.JudgedRows.{first-judged, other-first}
use Rattle.fit_csv.proofs.from.judge.RowJudge.take_first_line.Goals as goal

pub returns-in_default-found-clause-err : goal.returns-in_default-found-clause-err
returns-in_default-found-clause-err c whole is =
    inl (subst (λ (t : List ℕ). AreRecords default_config st.StartRecord t []) (sym is) (rw c.in_default-found.is at c.in-Ok.ensures))

pub returns-then-not-is_first_line-clause-err : goal.returns-then-not-is_first_line-clause-err
returns-then-not-is_first_line-clause-err c whole is =
    other-first whole c.args.text.now c.in-Some.left.now (fields_of c.read_one.new.self.row) is (rw c.in-Some.is at c.in-Ok.ensures)
    (λ e. cc (c.if-not-is_first_line.ensures.1 e))

pub returns-clause-ok : goal.returns-clause-ok
returns-clause-ok c whole is =
    first-judged whole c.args.text.now c.in-Some.left.now is
    (subst (λ (r : Row). HasRowBefore c.args.text.now r c.in-Some.left.now) (c.is_first_line.ensures.0 c.if-not-is_first_line.false)
    (rw c.in-Some.is at c.in-Ok.ensures))
