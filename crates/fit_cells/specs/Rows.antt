-- The text of rows of cells, and the rows of a text.
use Rattle.std.specs.Prelude.{◌≡◌, ◌≢◌, ◌++◌, ◌∷◌, [], ℕ, List, Bool, true, false, Vec, Some, unwrap_or, codes}
use Rattle.std.specs.Borrow.{Bor}
use Rattle.std.specs.Global.{Global}
use Rattle.csv.specs.Reading.{AreRecords, Reached, Ready, default_config, is_flexible, reader_config, reader_state, reader_trim, source_of, strip_bom}
use Rattle.csv.specs.Writing.{default_writer, row_text, fields_written, has_written, text_written, writer_setup}
use Rattle.csv.specs.declared.parser.State.TheVariants as st
use Rattle.csv.specs.declared.reader.Reader.{Reader}
use Rattle.csv.specs.declared.reader.Trim.TheVariants as trim
use Rattle.csv.specs.declared.writer.Writer.{Writer}

abbrev pub Cell : Type 0
Cell = List ℕ

abbrev pub Row : Type 0
Row = List Cell

-- the rows as the crate csv writes them, each ended by a line feed
unfoldable pub csv_text : List Row → List ℕ
csv_text [] = []
csv_text (row ∷ rows) = row_text default_writer row ++ csv_text rows

-- these rows were put after a text
pub record HasRows (rows : List Row) (old new : Vec ℕ Global) : Type 0 where
  pub text : new.items ≡ old.items ++ csv_text rows

-- the rows of a text: no header row, no trimming, rows of any length
abbrev pub RowsOfText : List ℕ → List Row → Type 0
RowsOfText text rows = AreRecords default_config st.StartRecord (strip_bom text) rows

-- no row is without a cell
unfoldable pub NoneEmpty : List Row → Type 0
NoneEmpty [] = Unit {0}
NoneEmpty (row ∷ rows) = (row ≢ []) × NoneEmpty rows

-- The first cell begins with a byte order mark, U+FEFF in UTF-8.
abbrev pub BeginsWithMark : List Row → Type 0
BeginsWithMark rows = (more : List ℕ) × (cells : Row) × (others : List Row) × (rows ≡ ((0xEF ∷ 0xBB ∷ 0xBF ∷ more) ∷ cells) ∷ others)

-- the first line of a text
abbrev pub first_line : Row
first_line = codes "row" ∷ codes "a" ∷ codes "b" ∷ codes "c" ∷ codes "d" ∷ codes "e" ∷ codes "f" ∷ []

-- what was written into a vector
abbrev pub written : Writer (Vec ℕ Global) → List ℕ
written w = unwrap_or (text_written (λ v. Some v.items) w) []

-- a writer of the crate's usual form that stands between two rows
pub record IsBetweenRows (w : Writer (Vec ℕ Global)) : Type 0 where
  pub known : text_written (λ v. Some v.items) w ≡ Some (written w)
  pub ended : fields_written w ≡ 0
  pub clean : has_written w ≡ false
  pub setup : writer_setup w ≡ default_writer

-- After what a writer had written it has written these rows, and stands between two rows again.
pub record HasAdded (rows : List Row) (old new : Writer (Vec ℕ Global)) : Type 0 where
  pub between : IsBetweenRows new
  pub text : written new ≡ written old ++ csv_text rows

-- a reader of rows of any length that has read these rows of a text
pub record HasRead (text : List ℕ) (rows : List Row) (r : Reader (Bor (List ℕ))) : Type 0 where
  pub flexible : is_flexible r ≡ true
  pub trim : reader_trim r ≡ trim.None
  pub ready : Ready r
  pub config : reader_config r ≡ default_config
  pub place : (left : List ℕ) × (source_of (λ s. Some s.now) r ≡ Some left) × Reached default_config st.StartRecord (strip_bom text) rows (reader_state r) left

-- after these rows there comes one more, or they are all that the text has
abbrev pub Follows : Bool → Row → List ℕ → List Row → Reader (Bor (List ℕ)) → Type 0
Follows true row text rows r = HasRead text (rows ++ (row ∷ [])) r
Follows false row text rows r = RowsOfText text rows
