-- Texts that are surely spelled anew: the rows of records as a spreadsheet writes them where no cell needs quotes.
use Rattle.std.specs.Prelude.{◌≡◌, ◌<◌, ◌+◌, ◌∷◌, [], ℕ, List, length, slice_index}

-- There is no quote, and a carriage return stands nowhere but before a line feed.
unfoldable pub HasPlainLines : List ℕ → Type 0
HasPlainLines [] = Unit {0}
HasPlainLines (c ∷ text) = (c ≡ 34 → ⊥) × (c ≡ 13 → (more : List ℕ) × (text ≡ 10 ∷ more)) × HasPlainLines text

-- The first line feed comes right after a carriage return, and this is its place.
pub record EndsInReturn (text : List ℕ) : Type 0 where
  pub place : ℕ
  pub within : place + 1 < length text
  pub after : slice_index text place ≡ 13
  pub feed : slice_index text (place + 1) ≡ 10
  pub first : (k : ℕ) → k < place → slice_index text k ≡ 10 → ⊥

-- The rows are in plain lines, the first row is one of a record, as its letter d says, and ends as spreadsheets end lines.
pub record HasPlainRows (text : List ℕ) : Type 0 where
  pub letter : slice_index text 0 ≡ 100
  pub ends : EndsInReturn text
  pub lines : HasPlainLines text
