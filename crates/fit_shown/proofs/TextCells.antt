-- The cells of strings by the bytes of their fields.
use Rattle.fit_shown.proofs.Common.{◌≡◌, ◌∙◌, ◌/◌, ◌%◌, [], length, refl, sym, ap, base_type, item_width, eqb-true, Order, cell}
use Rattle.fit_shown.proofs.Common.{is_utf8, cases_Bool, nil_from_length, inl, inr, needs_quotes, field_text, default_writer}
use Rattle.std.proofs.lemmas.Str.{is_utf8-from_IsUtf8, IsUtf8-from_ascii}
use Rattle.std.proofs.lemmas.Str.Ascii.{IsAscii-nil}
use Rattle.std.proofs.Common.{ℕ, List, Option, Bool, true, false, if◌then◌else◌, ◌==◌, ◌||◌, not}
use Rattle.fit_base.proofs.Bytes.{found_passes}
use Rattle.fit_base.specs.BaseTypes.{base_types, byte}
use Rattle.fit_base.specs.declared.code.Class.{Class}
use Rattle.fit_base.specs.declared.code.Class.TheVariants.{Bytes, Text}
use Rattle.fit_cells.specs.Cells.{class_of, items_text, string_text}
use Rattle.fit_profile.specs.Profile.{Meaning}
use Rattle.fit_record.proofs.Gathering.{one_wide}
use Rattle.fit_record.specs.ReadMessages.{field_from, numbers_of}

is_text : Class → Bool
is_text Text = true
is_text other = false

-- strings are bytes
text_width : (code : ℕ) → (base_type code).class ≡ Text → (base_type code).width ≡ 1
unfolding is_text
text_width code text =
    let found : (not (is_text (base_type code).class) || ((base_type code).width == 1)) ≡ true =
    found_passes (λ t. t.code == code) (λ t. not (is_text t.class) || (t.width == 1)) byte base_types refl refl in
    eqb-true (base_type code).width 1 (rw text at found)

either_one : (b : Bool) → let one : ℕ = 1 in (if b then one else one) ≡ one
either_one true = refl
either_one false = refl

no_text : string_text [] ≡ []
no_text = let utf8 : is_utf8 [] ≡ true = is_utf8-from_IsUtf8 [] (IsUtf8-from_ascii [] IsAscii-nil) in rw utf8 refl

shown_or_none : (bytes : List ℕ) → (if length bytes == 0 then [] else string_text bytes) ≡ string_text bytes
shown_or_none bytes = elim (cases_Bool (length bytes == 0)) [
  | inl none ↦ let empty : bytes ≡ [] = nil_from_length bytes (eqb-true (length bytes) 0 none) in rw empty (sym no_text)
  | inr some ↦ rw some refl
]

-- what needs no quotes has none
pub unquoted : (text : List ℕ) → needs_quotes default_writer text ≡ false → field_text default_writer text ≡ text
unquoted text none = rw none refl

pub text_cell : (A : Type 0) (o : Order) (code size : ℕ) (info : Option Meaning) (bytes : List ℕ) → (base_type code).class ≡ Text → length bytes ≡ size
    → cell code info (field_from {A = A} o (code, size) bytes) ≡ string_text bytes
text_cell A o code size info bytes text long =
    let narrow = text_width code text in
    let wide : item_width code size ≡ 1 = ap (λ w. if size % w == 0 then w else 1) narrow ∙ either_one (size % 1 == 0) in
    let bits : (field_from {A = A} o (code, size) bytes).bits ≡ bytes =
    ap (λ w. numbers_of o w (size / w) bytes) wide ∙ ap (λ n. numbers_of o 1 (n / 1) bytes) (sym long) ∙ sym (one_wide o 1 bytes refl) in
    let class : class_of code (item_width code size) ≡ Text =
    ap (λ w. class_of code w) wide ∙ ap (λ w. if 1 == w then (base_type code).class else Bytes) narrow ∙ text in
    (λ i. if length (bits i) == 0 then [] else items_text (class i) code info (item_width code size) (bits i)) ∙ shown_or_none bytes
