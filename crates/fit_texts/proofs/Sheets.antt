-- Texts that are written in a sheet, and put after a text together.
use Rattle.fit_texts.proofs.Common.{◌≡◌, ◌≤◌, ◌∙◌, ◌+◌, ◌/◌, ◌^◌, ◌++◌, ◌∷◌, [], ap, arith, sym, append_assoc, length, take, and_sheet}
use Rattle.fit_texts.proofs.Common.{Row, csv_text, text_append}
use Rattle.std.proofs.Common.{ℕ, List, decimal}
use Rattle.std.proofs.lemmas.List.{append-nil, length-append, length-take-le}

-- nothing is written
pub none_written : (text sheet : List ℕ) → and_sheet text sheet 0 ≡ text
none_written text sheet = append-nil text

-- how many bytes both have
pub length-and_sheet : (text sheet : List ℕ) (at : ℕ) → at ≤ length sheet → length (and_sheet text sheet at) ≡ length text + at
length-and_sheet text sheet at within = length-append text (take at sheet) ∙ ap (λ n. length text + n) (length-take-le at sheet within)

-- more is written
pub more_written : (text old new more : List ℕ) (at end : ℕ) → take end new ≡ take at old ++ more → and_sheet text new end ≡ and_sheet text old at ++ more
more_written text old new more at end e = ap (λ w. text ++ w) e ∙ sym (append_assoc text (take at old) more)

-- rows after the first one
pub rows_after : (old first new : List ℕ) (row : Row) (rows : List Row) → first ≡ old ++ csv_text (row ∷ []) → new ≡ first ++ csv_text rows
    → new ≡ old ++ csv_text (row ∷ rows)
rows_after old first new row rows begun put =
    put ∙ ap (λ t. t ++ csv_text rows) begun ∙ append_assoc old (csv_text (row ∷ [])) (csv_text rows)
    ∙ ap (λ t. old ++ t) (sym (text_append (row ∷ []) rows))

-- a number without decimals
pub whole_number : (n : ℕ) → decimal (n / 10 ^ 0) ++ [] ≡ decimal n
whole_number n = let one : n / 1 ≡ n = omega arith in append-nil (decimal (n / 10 ^ 0)) ∙ ap decimal one
