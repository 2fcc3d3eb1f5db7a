-- Cells that need no quotes, put one after another: they are those of a row.
use Rattle.fit_texts.proofs.Common.{◌≡◌, ◌∙◌, ◌++◌, ◌∷◌, [], false, refl, sym, ap, append_assoc, arith, default_writer, field_text, fields_text, needs_quotes}
use Rattle.fit_texts.proofs.Common.{Row, csv_text, fields_append, fields_one, whole_row}
use Rattle.std.proofs.Common.{ℕ, List, decimal}
use Rattle.fit_cells.specs.Rows.{Cell}

-- a cell after a comma
pub next_cell : (text cell : List ℕ) → field_text default_writer cell ≡ cell → (text ++ (44 ∷ [])) ++ cell ≡ text ++ fields_text default_writer (cell ∷ [])
next_cell text cell same =
    append_assoc text (44 ∷ []) cell ∙ ap (λ (t : List ℕ). text ++ (44 ∷ t)) (sym same) ∙ ap (λ (t : List ℕ). text ++ t) (sym (fields_one cell))

pub plain_cell : (text cell : List ℕ) → needs_quotes default_writer cell ≡ false → (text ++ (44 ∷ [])) ++ cell ≡ text ++ fields_text default_writer (cell ∷ [])
plain_cell text cell plain = next_cell text cell (rw plain refl)

-- more cells
pub more_cells : (u t w : List ℕ) (cells more : Row) → t ≡ u ++ fields_text default_writer cells → w ≡ t ++ fields_text default_writer more
    → w ≡ u ++ fields_text default_writer (cells ++ more)
more_cells u t w cells more before put =
    put ∙ ap (λ (s : List ℕ). s ++ fields_text default_writer more) before
    ∙ append_assoc u (fields_text default_writer cells) (fields_text default_writer more)
    ∙ ap (λ (s : List ℕ). u ++ s) (sym (fields_append cells more))

pub first_cells : (text t : List ℕ) (n : ℕ) (cell : Cell) → t ≡ text ++ (decimal n ++ fields_text default_writer (cell ∷ []))
    → t ≡ (text ++ decimal n) ++ fields_text default_writer (cell ∷ [])
first_cells text t n cell e = e ∙ sym (append_assoc text (decimal n) (fields_text default_writer (cell ∷ [])))

-- the last cell and the end of the row
pub last_cells : (text t w : List ℕ) (first next : Cell) (rest : Row) → field_text default_writer first ≡ first
    → t ≡ (text ++ first) ++ fields_text default_writer (next ∷ rest) → w ≡ t ++ (10 ∷ [])
    → w ≡ text ++ csv_text ((first ∷ next ∷ rest) ∷ [])
last_cells text t w first next rest same before end =
    end ∙ ap (λ (s : List ℕ). s ++ (10 ∷ []))
    (before ∙ ap (λ (s : List ℕ). (text ++ s) ++ fields_text default_writer (next ∷ rest)) (sym same))
    ∙ whole_row text first (next ∷ rest) (omega arith)

-- a number and a cell that needs no quotes, with which a row begins
pub first_plain : (text : List ℕ) (n : ℕ) (cell : Cell) → needs_quotes default_writer cell ≡ false
    → ((text ++ decimal n) ++ (44 ∷ [])) ++ cell ≡ text ++ (decimal n ++ fields_text default_writer (cell ∷ []))
first_plain text n cell plain =
    plain_cell (text ++ decimal n) cell plain
    ∙ append_assoc text (decimal n) (fields_text default_writer (cell ∷ []))

-- a row of four cells and three empty ones
pub four_cells : (text t w : List ℕ) (a b c d : Cell) → field_text default_writer a ≡ a → t ≡ (text ++ a) ++ fields_text default_writer (b ∷ c ∷ d ∷ [])
    → w ≡ t ++ (44 ∷ 44 ∷ 44 ∷ 10 ∷ [])
    → w ≡ text ++ csv_text ((a ∷ b ∷ c ∷ d ∷ [] ∷ [] ∷ [] ∷ []) ∷ [])
unfolding fields_text
four_cells text t w a b c d same before end =
    last_cells text (t ++ (44 ∷ 44 ∷ 44 ∷ [])) w a b (c ∷ d ∷ [] ∷ [] ∷ [] ∷ []) same
    (more_cells (text ++ a) t (t ++ (44 ∷ 44 ∷ 44 ∷ [])) (b ∷ c ∷ d ∷ []) ([] ∷ [] ∷ [] ∷ []) before refl)
    (end ∙ sym (append_assoc t (44 ∷ 44 ∷ 44 ∷ []) (10 ∷ [])))

-- the same where they are known whole
pub first_whole : (text : List ℕ) (n : ℕ) (cell : Cell) → needs_quotes default_writer cell ≡ false
    → text ++ (decimal n ++ (44 ∷ cell)) ≡ text ++ (decimal n ++ fields_text default_writer (cell ∷ []))
first_whole text n cell plain =
    let same : field_text default_writer cell ≡ cell = rw plain refl in
    ap (λ (t : List ℕ). text ++ (decimal n ++ t)) (ap (λ (t : List ℕ). 44 ∷ t) (sym same) ∙ sym (fields_one cell))

-- a row by its first two cells, and then the others and the end of the line
pub row_in_parts : (text first new : List ℕ) (n : ℕ) (cell : Cell) (rest : Row) → field_text default_writer (decimal n) ≡ decimal n
    → first ≡ text ++ (decimal n ++ fields_text default_writer (cell ∷ [])) → new ≡ (first ++ fields_text default_writer rest) ++ (10 ∷ [])
    → new ≡ text ++ csv_text ((decimal n ∷ cell ∷ rest) ∷ [])
row_in_parts text first new n cell rest same begun ends =
    last_cells text (first ++ fields_text default_writer rest) new (decimal n) cell rest same
    (more_cells (text ++ decimal n) first (first ++ fields_text default_writer rest) (cell ∷ []) rest (first_cells text first n cell begun) refl) ends
