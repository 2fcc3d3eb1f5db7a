-- Rows of seven cells. No public contract names these definitions.
use Rattle.std.specs.Prelude.{◌≡◌, ◌≤◌, ◌-◌, ℕ, List, [], ◌∷◌}
use Rattle.fit_cells.specs.Rows.{Cell, Row}
use Rattle.fit_csv.specs.Judged.{Agree}
use Rattle.fit_csv.specs.declared.from.cells.Cells.{Cells}

-- the cells, one after another
abbrev pub row_of : Cells → Row
row_of cells = cells.kind.now ∷ cells.a.now ∷ cells.b.now ∷ cells.c.now ∷ cells.d.now ∷ cells.e.now ∷ cells.f.now ∷ []

-- Two rows are the same before this column, and not in it. It isn't the first one.
pub record DifferAt (column : ℕ) (a b : Row) : Type 0 where
  pub after_kind : 2 ≤ column
  pub before : Agree (column - 1) a b
  pub there : Agree column a b → ⊥

-- As far as the first of these is the same as the third, the second one is.
abbrev pub AsFar : List Cell → List Cell → List Cell → Type 0
AsFar (x ∷ xs) (y ∷ ys) (t ∷ ts) = x ≡ t → (y ≡ t) × AsFar xs ys ts
AsFar [] [] [] = Unit {0}
AsFar _ _ _ = ⊥
