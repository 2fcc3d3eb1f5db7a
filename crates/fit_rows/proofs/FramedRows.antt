-- Rows of values between what stands around these.
use Rattle.fit_rows.proofs.Common.{◌≡◌, ◌∙◌, ◌++◌, ◌∷◌, [], Global, HasRows, ◌+◌, length, take, get_or, map, refl, sym, ap, ap₂, append_assoc, map-append}
use Rattle.fit_rows.proofs.Common.{take_more, default_writer, escaped, field_text, fields_text, is_blank, needs_quotes, Items, FieldDef, cell, csv_text}
use Rattle.fit_rows.proofs.Common.{high-decimal, unquoted, optional_number, row, FrameKey, end_of, field_key, frame_text, frames_of, head_text, tail_text}
use Rattle.fit_rows.proofs.Common.{false, two_cells, value_row}
use Rattle.std.proofs.Common.{◌<◌, ℕ, suc, List, codes, decimal, Option, Some, None, Vec}
use Rattle.std.proofs.lemmas.List.{append-nil}
use Rattle.fit_cells.specs.Rows.{Cell}

whole_row : (a b c d e : Cell) → csv_text (row a b c d e [] [] ∷ [])
    ≡ ((field_text default_writer a ++ (44 ∷ (field_text default_writer b ++ (44 ∷ (field_text default_writer c ++ (44 ∷ (field_text default_writer d
    ++ (44 ∷ (field_text default_writer e ++ codes ",,"))))))))) ++ (10 ∷ [])) ++ []
unfolding csv_text fields_text escaped is_blank
whole_row a b c d e = refl

parted : (a b c d e : List ℕ) → ((a ++ (44 ∷ (b ++ (44 ∷ (c ++ (44 ∷ (d ++ (44 ∷ (e ++ (44 ∷ 44 ∷ [])))))))))) ++ (10 ∷ [])) ++ []
    ≡ (a ++ (44 ∷ (b ++ (44 ∷ [])))) ++ (c ++ ((44 ∷ (d ++ (44 ∷ []))) ++ (e ++ (44 ∷ 44 ∷ 10 ∷ []))))
parted a b c d e = simp (append_assoc, append-nil) refl

-- a row of five cells and two empty ones, in its parts
pub row_parts : (a b c d e : Cell) → csv_text (row a b c d e [] [] ∷ [])
    ≡ two_cells a b ++ (field_text default_writer c ++ ((44 ∷ (field_text default_writer d ++ (44 ∷ []))) ++ (field_text default_writer e ++ codes ",,\n")))
row_parts a b c d e = whole_row a b c d e
    ∙ parted (field_text default_writer a) (field_text default_writer b) (field_text default_writer c) (field_text default_writer d)
    (field_text default_writer e)

-- ---- rows one after another

-- one row more
pub frames_more : (before : List ℕ) (keys : List FrameKey) (k : FrameKey)
    → frames_of before (keys ++ (k ∷ [])) ≡ frames_of before keys ++ (frame_text (end_of before keys) k ∷ [])
frames_more before [] k = refl
frames_more before (j ∷ keys) k = ap (λ fs. frame_text before j ∷ fs) (frames_more (tail_text j) keys k)

pub end_more : (before : List ℕ) (keys : List FrameKey) (k : FrameKey) → end_of before (keys ++ (k ∷ [])) ≡ tail_text k
end_more before [] k = refl
end_more before (j ∷ keys) k = end_more (tail_text j) keys k

-- more rows
pub frames_append : (before : List ℕ) (keys more : List FrameKey)
    → frames_of before (keys ++ more) ≡ frames_of before keys ++ frames_of (end_of before keys) more
frames_append before [] more = refl
frames_append before (k ∷ keys) more = ap (λ fs. frame_text before k ∷ fs) (frames_append (tail_text k) keys more)

pub end_append : (before : List ℕ) (keys more : List FrameKey) → end_of before (keys ++ more) ≡ end_of (end_of before keys) more
end_append before [] more = refl
end_append before (k ∷ keys) more = end_append (tail_text k) keys more

-- the codes and sizes are those of the keys
pub frames_shape : (before : List ℕ) (keys : List FrameKey)
    → map {B = ℕ × ℕ} (λ f. (f.code, f.size)) (frames_of before keys) ≡ map (λ f. (f.code, f.size)) keys
frames_shape before [] = refl
frames_shape before (k ∷ keys) = ap (λ xs. (k.code, k.size) ∷ xs) (frames_shape (tail_text k) keys)

-- one for each key
pub frames_counted : (before : List ℕ) (keys : List FrameKey) → length (frames_of before keys) ≡ length keys
frames_counted before [] = refl
frames_counted before (k ∷ keys) = ap suc (frames_counted (tail_text k) keys)

grouped : (t b h v w : List ℕ) → ((t ++ (b ++ h)) ++ v) ++ w ≡ (t ++ b) ++ (h ++ (v ++ w))
grouped t b h v w = simp append_assoc refl

-- a row without its end after a text that lacks its end too
pub framed : {A : Type 0} (k : FrameKey) (i : Items A) (text before : List ℕ)
    → ((text ++ (before ++ head_text k)) ++ field_text default_writer (cell k.code k.info i)) ++ tail_text k ≡ (text ++ before) ++ csv_text (value_row k i ∷ [])
framed k i text before =
    grouped text before (head_text k) (field_text default_writer (cell k.code k.info i)) (tail_text k)
    ∙ ap (λ t. (text ++ before) ++ t) (sym (row_parts k.kind k.name (cell k.code k.info i) k.unit []))

-- one field more
pub keys_more : (global : ℕ) (fields : List FieldDef) (n : ℕ) (d : FieldDef) → n < length fields
    → map (field_key global) (take (n + 1) fields) ≡ map (field_key global) (take n fields) ++ (field_key global (get_or fields n d) ∷ [])
keys_more global fields n d within =
    ap (map (field_key global)) (take_more fields n d within) ∙ map-append (field_key global) (take n fields) (get_or fields n d ∷ [])

pub plain-optional : (number : Option ℕ) → field_text default_writer (optional_number number) ≡ optional_number number
plain-optional None = refl
plain-optional (Some n) = unquoted (decimal n) (high-decimal n)

five : (t a b c d e : List ℕ) → ((((t ++ a) ++ b) ++ c) ++ d) ++ e ≡ t ++ (a ++ (b ++ (c ++ (d ++ e))))
five t a b c d e = simp append_assoc refl

-- the row with which a message begins, put in five parts
pub data_parts : (local : ℕ) (offset : Option ℕ) (label time text : List ℕ) → needs_quotes default_writer time ≡ false
    → ((((text ++ two_cells (codes "data") (decimal local)) ++ optional_number offset) ++ two_cells [] label) ++ time) ++ codes ",,\n"
    ≡ text ++ csv_text (row (codes "data") (decimal local) (optional_number offset) label time [] [] ∷ [])
data_parts local offset label time text plain =
    let at_time : field_text default_writer time ≡ time = rw plain refl in
    five text (two_cells (codes "data") (decimal local)) (optional_number offset) (two_cells [] label) time (codes ",,\n")
    ∙ ap₂ (λ o t. text ++ (two_cells (codes "data") (decimal local) ++ (o ++ (two_cells [] label ++ (t ++ codes ",,\n")))))
    (sym (plain-optional offset)) (sym at_time)
    ∙ ap (λ t. text ++ t) (sym (row_parts (codes "data") (decimal local) (optional_number offset) label time))

-- the row with which a message without a time offset begins, put in three parts
pub line_parts : (local : ℕ) (label : List ℕ) (u v w x : Vec ℕ Global) → v.items ≡ u.items ++ two_cells (codes "data") (decimal local)
    → w.items ≡ v.items ++ two_cells [] label → x.items ≡ w.items ++ codes ",,\n"
    → HasRows (row (codes "data") (decimal local) [] label [] [] [] ∷ []) u x
line_parts local label u v w x front middle end = record {
  text = end
      ∙ ap (λ t. t ++ codes ",,\n") (middle ∙ ap (λ t. t ++ two_cells [] label) (front ∙ sym (append-nil _)) ∙ sym (append-nil _))
      ∙ data_parts local None label [] u.items refl;
}
