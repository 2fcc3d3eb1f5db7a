-- What is read of a text when its first row is read, as the crate csv reads rows.
use Rattle.std.specs.Prelude.{◌∷◌, ℕ, List}
use Rattle.csv.specs.Reading.{AreRecords, default_config}
use Rattle.csv.specs.declared.parser.State.TheVariants as st
use Rattle.fit_cells.specs.Rows.{Row}

-- Whatever rows are left, the text has this row and then those.
abbrev pub HasRowBefore : List ℕ → Row → List ℕ → Type 0
HasRowBefore text row left = (more : List Row) → AreRecords default_config st.StartRecord left more → AreRecords default_config st.StartRecord text (row ∷ more)
