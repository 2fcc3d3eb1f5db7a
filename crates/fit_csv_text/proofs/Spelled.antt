-- What was spelled anew of a text has its rows.
use Rattle.std.proofs.Common.{◌++◌, [], refl, ℕ, List}
use Rattle.csv.specs.Reading.{default_config, AreRecords}
use Rattle.csv.specs.declared.parser.State.TheVariants as st
use Rattle.fit_cells.specs.Rows.{Row}
use Rattle.fit_csv_text.specs.declared.loose.Spot.TheVariants.{RowStart}
use Rattle.fit_csv_text.specs.inner.Loose.{HasRowsOf, WritesOn, spot_from, spot_state}
use Rattle.fit_csv_text.proofs.LooseReads.{same-records}
use Rattle.fit_csv_text.proofs.LooseTexts.{same-text, stands-first}

pub spelled-rows : (text left spelled : List ℕ) (rows : List Row) → WritesOn text left [] spelled
    → AreRecords default_config st.StartRecord (spelled ++ left) rows → AreRecords default_config st.StartRecord text rows
unfolding spot_from
spelled-rows text left spelled rows writes are =
    let stands = writes text [] refl (stands-first text) in
    let same : HasRowsOf st.StartRecord text st.StartRecord (spelled ++ left) =
    stands.goes_on left (same-text (spot_state (spot_from RowStart spelled)) left) in
    same-records st.StartRecord st.StartRecord text (spelled ++ left) same rows are
