-- A cell is a text, and no item of it has a bar.
use Rattle.fit_cells.proofs.Common.{◌≡◌, ℕ, ◌<◌, Bool, true, false, List, [], ◌∷◌, length, refl, arith, inl}
use Rattle.fit_cells.proofs.Common.{inr, lit<, not, AllByRecursion, list_all, IsUtf8, is_utf8, IsAscii, cases_Bool}
use Rattle.fit_cells.proofs.Common.{IsUtf8-from_ascii, IsUtf8-from_is_utf8, Class, Text, Items}
use Rattle.fit_cells.proofs.Common.{before_closing_zeros, Meaning, begins_as_bytes, bytes_text, cell, class_of, is_plain}
use Rattle.fit_cells.proofs.Common.{item_text, items_text, string_text}
use Rattle.std.proofs.Common.{◌==◌, Option}
use Rattle.std.specs.Prelude.{◌&&◌}
use Rattle.std.proofs.lemmas.Str.Ascii.{IsAscii-cons, IsAscii-nil}
use Rattle.fit_cells.proofs.PlainFacts.{all-bytes, all-item, all-items}

-- each byte comes before the bar
abbrev pub Low : List ℕ → Type 0
Low text = AllByRecursion (λ b. b < 124) text

pub low-item : (class : Class) (code : ℕ) (info : Option Meaning) (width n : ℕ) → Low (item_text class code info width n)
low-item = all-item (λ b. b < 124) (λ b _ h. h)

ascii : (text : List ℕ) → AllByRecursion (λ b. b < 128) text → IsAscii text
ascii [] h = IsAscii-nil
ascii (b ∷ text) h = IsAscii-cons b text h.0 (ascii text h.1)

both_true : (a b c : Bool) → ((a && b) && c) ≡ true → a ≡ true
both_true true b c h = refl
both_true false b c h = h

utf8-string : (bytes : List ℕ) → IsUtf8 (string_text bytes)
utf8-string bytes = elim (cases_Bool (is_plain (before_closing_zeros bytes))) [
  | inl plain ↦ rw plain (IsUtf8-from_is_utf8 (before_closing_zeros bytes)
      (both_true (is_utf8 (before_closing_zeros bytes)) (list_all (λ b. not (b == 0)) (before_closing_zeros bytes))
      (not (begins_as_bytes (before_closing_zeros bytes))) plain))
  | inr other ↦ rw other (IsUtf8-from_ascii (bytes_text bytes) (ascii (bytes_text bytes) (all-bytes (λ b. b < 128) (λ b _ h. omega (arith, h)) bytes)))
]

pub utf8-items : (class : Class) (code : ℕ) (info : Option Meaning) (width : ℕ) (bits : List ℕ) → IsUtf8 (items_text class code info width bits)
utf8-items Text code info width bits = utf8-string bits
utf8-items class code info width bits = IsUtf8-from_ascii (items_text class code info width bits) (ascii (items_text class code info width bits)
    (all-items (λ b. b < 128) (λ b _ h. omega (arith, h)) (lit< tt) class code info width bits (λ e. cc)))

pub utf8-cell : {A : Type 0} (code : ℕ) (info : Option Meaning) (items : Items A) → IsUtf8 (cell code info items)
utf8-cell code info items = elim (cases_Bool (length items.bits == 0)) [
  | inl none ↦ rw none (IsUtf8-from_ascii [] IsAscii-nil)
  | inr some ↦ rw some (utf8-items (class_of code items.width) code info items.width items.bits)
]
