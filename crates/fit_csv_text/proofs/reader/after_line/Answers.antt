use Rattle.std.proofs.Common.{sym, subst, List, ℕ}
use Rattle.csv.specs.Reading.{default_config, AreRecords}
use Rattle.csv.specs.declared.parser.State.TheVariants as st
use Rattle.fit_csv_text.proofs.RowReads.{line-skipped}
use Rattle.fit_csv_text.proofs.reader.after_line.Goals as goal

pub returns-in-Some : goal.returns-in-Some
returns-in-Some c rows are =
    subst (λ (t : List ℕ). AreRecords default_config st.StartRecord t rows) (sym c.in-Some.ensures) (line-skipped c.in-Some.left.now rows are)
