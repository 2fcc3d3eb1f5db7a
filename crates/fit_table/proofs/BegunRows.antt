-- Rows of the table that are written into bytes of their own and then put after a text.
use Rattle.fit_table.proofs.Common.{◌≡◌, ◌∙◌, ◌++◌, ◌∷◌, [], sym, ap, append_assoc, default_writer, fields_text, high-decimal, instant_text, take, unquoted}
use Rattle.fit_table.proofs.Common.{Row, csv_text}
use Rattle.std.proofs.Common.{◌<◌, ◌^◌, ℕ, List, Option, Some, decimal, refl}
use Rattle.std.proofs.lemmas.List.{append-nil}
use Rattle.std.specs.Prelude.{option_map, unwrap_or}
use Rattle.fit_texts.proofs.AddedCells.{first_whole, row_in_parts}
use Rattle.fit_texts.proofs.PlainInstants.{plain-instant}

no_bytes : (xs : List ℕ) → take 0 xs ≡ []
no_bytes [] = refl
no_bytes (x ∷ xs) = refl

-- the end of a row after what it begins with, put after a text
pub put_ended : (old begun row new : List ℕ) (cells : Row) → row ≡ (begun ++ fields_text default_writer cells) ++ (10 ∷ []) → new ≡ old ++ row
    → new ≡ ((old ++ begun) ++ fields_text default_writer cells) ++ (10 ∷ [])
put_ended old begun row new cells is put =
    let cell = fields_text default_writer cells in
    put ∙ ap (λ (t : List ℕ). old ++ t) is ∙ sym (append_assoc old (begun ++ cell) (10 ∷ []))
    ∙ ap (λ (t : List ℕ). t ++ (10 ∷ [])) (sym (append_assoc old begun cell))

-- the same from the first byte on
pub put_from_start : (old bytes begun written row new : List ℕ) (cells : Row) → written ≡ take 0 bytes ++ begun
    → row ≡ (written ++ fields_text default_writer cells) ++ (10 ∷ []) → new ≡ old ++ row
    → new ≡ ((old ++ begun) ++ fields_text default_writer cells) ++ (10 ∷ [])
put_from_start old bytes begun written row new cells first is put =
    let start : written ≡ begun = first ∙ ap (λ (t : List ℕ). t ++ begun) (no_bytes bytes) in
    put_ended old begun row new cells (is ∙ ap (λ (t : List ℕ). (t ++ fields_text default_writer cells) ++ (10 ∷ [])) start) put

-- a row without what it begins with
pub put_alone : (old bytes row new : List ℕ) (cells : Row) → row ≡ (take 0 bytes ++ fields_text default_writer cells) ++ (10 ∷ []) → new ≡ old ++ row
    → new ≡ (old ++ fields_text default_writer cells) ++ (10 ∷ [])
put_alone old bytes row new cells is put =
    put_ended old (take 0 bytes) row new cells is put
    ∙ ap (λ (t : List ℕ). ((old ++ t) ++ fields_text default_writer cells) ++ (10 ∷ [])) (no_bytes bytes)
    ∙ ap (λ (t : List ℕ). (t ++ fields_text default_writer cells) ++ (10 ∷ [])) (append-nil old)

-- a row by what those of its file and its minute begin with
pub row_begun : (text new : List ℕ) (file own at : ℕ) (time : Option ℕ) (rest : Row) → own ≡ file → at < 2 ^ 32 → Some at ≡ time
    → new ≡ ((text ++ (decimal own ++ (44 ∷ instant_text at))) ++ fields_text default_writer rest) ++ (10 ∷ [])
    → new ≡ text ++ csv_text ((decimal file ∷ unwrap_or (option_map instant_text time) [] ∷ rest) ∷ [])
row_begun text new file own at time rest like fits is ends =
    let cell = instant_text at in
    let begun = ap (λ (n : ℕ). text ++ (decimal n ++ (44 ∷ cell))) like ∙ first_whole text file cell (plain-instant at fits)
    ∙ ap (λ (o : Option ℕ). text ++ (decimal file ++ fields_text default_writer (unwrap_or (option_map instant_text o) [] ∷ []))) is in
    row_in_parts text (text ++ (decimal own ++ (44 ∷ cell))) new file (unwrap_or (option_map instant_text time) []) rest
    (unquoted (decimal file) (high-decimal file)) begun ends
