-- Rows written one after another.
use Rattle.fit_cells.proofs.Common.{◌≡◌, ◌∙◌, ◌<◌, ◌+◌, ℕ, List, [], ◌∷◌, ◌++◌, length, map, drop, take, get_or, Vec, refl, sym, ap, append_assoc}
use Rattle.fit_cells.proofs.Common.{arith, map-append, take_more, default_writer, field_text, fields_text, is_blank, row_text, Row, HasAdded, HasRows}
use Rattle.fit_cells.proofs.Common.{csv_text, written}
use Rattle.std.specs.Global.{Global}
use Rattle.std.proofs.lemmas.List.{append-nil}
use Rattle.std.proofs.Math.Seq.{drop-append_seam}
use Rattle.csv.specs.declared.writer.Writer.{Writer}

pub text_append : (a b : List Row) → csv_text (a ++ b) ≡ csv_text a ++ csv_text b
unfolding csv_text
text_append [] b = refl
text_append (row ∷ a) b = ap (λ text. row_text default_writer row ++ text) (text_append a b)
    ∙ sym (append_assoc (row_text default_writer row) (csv_text a) (csv_text b))

pub text_one : (row : Row) → csv_text (row ∷ []) ≡ row_text default_writer row
unfolding csv_text
text_one row = append-nil (row_text default_writer row)

pub text_none : (text : List ℕ) → text ++ csv_text [] ≡ text
unfolding csv_text
text_none text = append-nil text

-- no row after a text
pub rows_none : (v : Vec ℕ Global) → HasRows [] v v
unfolding csv_text
rows_none v = record { text = sym (append-nil v.items) }

-- some rows after a text, and then others
pub rows_both : {a b : List Row} {u v w : Vec ℕ Global} → HasRows a u v → HasRows b v w → HasRows (a ++ b) u w
rows_both {a = a} {b = b} {u = u} first second = record {
  text = second.text ∙ ap (λ text. text ++ csv_text b) first.text ∙ append_assoc u.items (csv_text a) (csv_text b)
      ∙ ap (λ text. u.items ++ text) (sym (text_append a b));
}

-- the row of one more element of a list
pub rows_more : {X : Type 0} (row : X → Row) (xs : List X) (k : ℕ) (d : X) (u v w : Vec ℕ Global) → k < length xs
    → HasRows (map row (take k xs)) u v → HasRows (row (get_or xs k d) ∷ []) v w → HasRows (map row (take (k + 1) xs)) u w
rows_more row xs k d u v w within first second =
    let longer : map row (take (k + 1) xs) ≡ map row (take k xs) ++ (row (get_or xs k d) ∷ []) =
    ap (map row) (take_more xs k d within) ∙ map-append row (take k xs) (get_or xs k d ∷ []) in
    rw longer (rows_both first second)

-- more cells of a row
pub fields_one : (cell : List ℕ) → fields_text default_writer (cell ∷ []) ≡ 44 ∷ field_text default_writer cell
unfolding fields_text
fields_one cell = ap (λ text. 44 ∷ text) (append-nil (field_text default_writer cell))

pub fields_append : (a b : Row) → fields_text default_writer (a ++ b) ≡ fields_text default_writer a ++ fields_text default_writer b
unfolding fields_text
fields_append [] b = refl
fields_append (cell ∷ a) b = ap (λ text. 44 ∷ (field_text default_writer cell ++ text)) (fields_append a b)
    ∙ sym (append_assoc (44 ∷ field_text default_writer cell) (fields_text default_writer a) (fields_text default_writer b))

-- a row of two cells or more
pub whole_row : (text : List ℕ) (first : List ℕ) (others : Row) → 0 < length others
    → ((text ++ field_text default_writer first) ++ fields_text default_writer others) ++ (10 ∷ []) ≡ text ++ csv_text ((first ∷ others) ∷ [])
unfolding csv_text is_blank
whole_row text first [] some = absurd (omega (arith, some))
whole_row text first (next ∷ rest) some =
    append_assoc (text ++ field_text default_writer first) (fields_text default_writer (next ∷ rest)) (10 ∷ [])
    ∙ append_assoc text (field_text default_writer first) (fields_text default_writer (next ∷ rest) ++ (10 ∷ []))
    ∙ ap (λ ds. text ++ ds) (sym (append_assoc (field_text default_writer first) (fields_text default_writer (next ∷ rest)) (10 ∷ [])) ∙ sym (append-nil _))

-- what was written after a beginning is put after another text
pub rows_copied : {rows : List Row} {u v : Writer (Vec ℕ Global)} (old new : Vec ℕ Global) → HasAdded rows u v
    → new.items ≡ old.items ++ drop (length (written u)) (written v) → HasRows rows old new
rows_copied {rows = rows} {u = u} {v = v} old new added copied = record {
  text = copied ∙ ap (λ text. old.items ++ text) (ap (drop (length (written u))) added.text ∙ drop-append_seam (written u) (csv_text rows));
}
