-- Values in rows, one after another.
use Rattle.fit_rows.proofs.Common.{◌≡◌, ◌∙◌, ◌≤◌, ◌++◌, ◌∷◌, [], length, refl, sym, ap, append_assoc, arith, Items, Global, default_writer, field_text}
use Rattle.fit_rows.proofs.Common.{cell, csv_text, text_append, text_none, FrameKey, FrameText, end_of, frames_of, head_text, tail_text, value_row, value_rows}
use Rattle.fit_rows.proofs.Common.{values_text}
use Rattle.std.proofs.Common.{ℕ, List}
use Rattle.fit_rows.proofs.FramedRows.{framed}

regroup : (t b v w : List ℕ) → ((t ++ b) ++ v) ++ w ≡ t ++ (b ++ (v ++ w))
regroup t b v w = simp append_assoc refl

-- a value after what stands before it
abbrev pub value_after : List ℕ → FrameText → Items Global → List ℕ
value_after t f i = (t ++ f.between) ++ field_text default_writer (cell f.code f.info i)

pub value_more : (end t : List ℕ) (f : FrameText) (fs : List FrameText) (i : Items Global) (is : List (Items Global))
    → value_after t f i ++ values_text fs end is ≡ t ++ values_text (f ∷ fs) end (i ∷ is)
value_more end t f fs i is = regroup t f.between (field_text default_writer (cell f.code f.info i)) (values_text fs end is)

-- values one after another, after a row with this end
pub values_rows : {A : Type 0} (keys : List FrameKey) (before : List ℕ) (items : List (Items A)) → length keys ≤ length items
    → values_text (frames_of before keys) (end_of before keys) items ≡ before ++ csv_text (value_rows keys items)
values_rows [] before items long = sym (text_none before)
values_rows (k ∷ keys) before [] long = absurd (omega (arith, long))
values_rows (k ∷ keys) before (i ∷ items) long =
    let value = field_text default_writer (cell k.code k.info i) in
    let rows = value_rows keys items in
    ap (λ t. (before ++ head_text k) ++ (value ++ t)) (values_rows keys (tail_text k) items (omega (arith, long)))
    ∙ ap (λ t. (before ++ head_text k) ++ t) (sym (append_assoc value (tail_text k) (csv_text rows)))
    ∙ sym (append_assoc (before ++ head_text k) (value ++ tail_text k) (csv_text rows))
    ∙ ap (λ t. t ++ csv_text rows) (sym (append_assoc (before ++ head_text k) value (tail_text k)) ∙ framed k i [] before)
    ∙ append_assoc before (csv_text (value_row k i ∷ [])) (csv_text rows)
    ∙ ap (λ t. before ++ t) (sym (text_append (value_row k i ∷ []) rows))
