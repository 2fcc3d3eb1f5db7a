-- A text and what is to come after it.
use Rattle.std.specs.Prelude.{ℕ, List, ◌++◌, take}

-- a text, and after it what is written in a sheet before a place
abbrev pub and_sheet : List ℕ → List ℕ → ℕ → List ℕ
and_sheet text sheet at = text ++ take at sheet
