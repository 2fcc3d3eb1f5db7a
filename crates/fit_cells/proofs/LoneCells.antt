-- Cells written one after another in a row.
use Rattle.std.proofs.Common.{◌≡◌, ◌≢◌, ◌∙◌, ◌+◌, ℕ, List, [], ◌++◌, length, drop, sym, ap, subst, arith, Result, Ok, Err}
use Rattle.std.proofs.Common.{append_assoc, Vec, Option, Some, OnOk, OnErr, if◌then◌else◌, ◌-◌, ◌^◌, ◌==◌, ◌≤◌, inl, inr, min, false, refl}
use Rattle.std.proofs.lemmas.Bool.{cases_Bool, ne_eqb}
use Rattle.std.specs.Global.{Global}
use Rattle.std.specs.Io.KnownBytes.{Appends, Keeps}
use Rattle.std.specs.Result.{is_ok}
use Rattle.std.proofs.lemmas.List.{append-nil, length-append}
use Rattle.std.proofs.Math.Seq.{drop-append_seam}
use Rattle.csv.specs.Writing.{default_writer, field_text, fields_written, next_sep, text_written, writer_pending, writer_setup, writer_under}
use Rattle.csv.specs.declared.writer.QuoteStyle.TheVariants as style
use Rattle.csv.specs.declared.writer.Writer.{Writer}
use Rattle.fit_cells.specs.Steps.{IsInRow}

abbrev W : Type 0
W = Writer (Vec ℕ Global)

abbrev known : W → Option (List ℕ)
known w = text_written (λ v. Some v.items) w

-- what is put where that is good
pub put_ok : {X Y : Type 0} (r : Result X Y) (old own more new : List ℕ) → new ≡ (if is_ok r then old ++ own else old) → own ≡ more
    → OnOk r (new ≡ old ++ more)
put_ok (Ok x) old own more new put is = put ∙ ap (λ t. old ++ t) is
put_ok (Err y) old own more new put is = tt

-- what stays where it is not
pub put_err : {X Y : Type 0} (r : Result X Y) (old own new : List ℕ) → new ≡ (if is_ok r then old ++ own else old) → OnErr r (new ≡ old)
put_err (Ok x) old own new put = tt
put_err (Err y) old own new put = put

-- what always holds
pub always_ok : {X Y : Type 0} (r : Result X Y) (P : Type 0) → P → OnOk r P
always_ok (Ok x) P p = p
always_ok (Err y) P p = tt

-- After a cell one byte stands before the next, a comma.
pub some_before : (old new : ℕ) → new ≡ min (old + 1) (2 ^ 64 - 1) → length (next_sep default_writer new) ≡ 1
some_before old new is = let some : (new == 0) ≡ false = ne_eqb new 0 (λ none. absurd (omega (arith, is, none))) in rw some refl

drop_front : (xs ys text : List ℕ) (n : ℕ) → text ≡ xs ++ ys → n ≡ length xs → drop n text ≡ ys
drop_front xs ys text n is e = ap (drop n) is ∙ ap (λ k. drop k (xs ++ ys)) e ∙ drop-append_seam xs ys

-- One byte at most stands before the next cell.
pub few_before : (fields count : ℕ) → length (next_sep default_writer fields) ≡ count → count ≤ 1
few_before fields count is = elim (cases_Bool (fields == 0)) [
  | inl none ↦ let nothing = rw none at is in omega (arith, nothing)
  | inr some ↦ let one = rw some at is in omega (arith, one)
]

-- what was written before a cell, and the cell
module _ (u v w : W) (cell : List ℕ) (start before : ℕ) (row : IsInRow u before) (long : start ≡ length (writer_under u).items)
    (wrote : (writer_setup u).style ≢ style.NonNumeric
    → Appends (known u) (known v) (next_sep (writer_setup u) (fields_written u) ++ field_text (writer_setup u) cell))
    (keeps : Keeps (known v) (known w)) (sent : writer_pending w ≡ []) where
  abbrev sep : List ℕ
  sep = next_sep default_writer (fields_written u)

  text : (writer_under w).items ≡ ((writer_under u).items ++ sep) ++ field_text default_writer cell
  text =
      let usual : (writer_setup u).style ≡ style.Necessary = ap (λ s. s.style) row.setup in
      let added = subst (λ s. Appends (known u) (known v) (next_sep s (fields_written u) ++ field_text s cell)) row.setup
      (wrote (λ e. cc (sym usual ∙ e))) in
      let old = (writer_under u).items in
      sym (append-nil (writer_under w).items) ∙ ap (λ t. (writer_under w).items ++ t) (sym sent) ∙ keeps ∙ added
      ∙ ap (λ t. (old ++ t) ++ (sep ++ field_text default_writer cell)) row.sent
      ∙ ap (λ t. t ++ (sep ++ field_text default_writer cell)) (append-nil old) ∙ sym (append_assoc old sep (field_text default_writer cell))

  -- the text of a cell after what was written before it
  pub cell_sent : drop (start + before) (writer_under w).items ≡ field_text default_writer cell
  cell_sent =
      drop_front ((writer_under u).items ++ sep) (field_text default_writer cell) (writer_under w).items (start + before) text
      (omega (arith, long, row.before, length-append (writer_under u).items sep))

  -- All that stands before it was written.
  pub cell_within : start + before ≤ length (writer_under w).items
  cell_within = omega (
    arith,
    long,
    row.before,
    ap length text,
    length-append (writer_under u).items sep,
    length-append ((writer_under u).items ++ sep) (field_text default_writer cell),
  )
