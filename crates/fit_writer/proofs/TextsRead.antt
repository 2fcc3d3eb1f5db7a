-- Texts that are read back.
use Rattle.std.proofs.Common.{◌≡◌, ◌∙◌, ℕ, suc, ◌<◌, ◌≤◌, Bool, true, false, cond, List, [], ◌∷◌, length, refl, sym, arith}
use Rattle.std.proofs.lemmas.Bool.Decides.{nat_tests}
use Rattle.std.proofs.lemmas.Str.{is_utf8-from_IsUtf8, IsUtf8-from_is_utf8, IsUtf8-nil}
use Rattle.std.specs.List.{list_all}
use Rattle.std.specs.Prelude.{◌==◌, ◌&&◌, Some, None, not}
use Rattle.std.specs.Str.{IsUtf8, is_utf8}
use Rattle.fit_profile.specs.Described.{is_printable}
use Rattle.fit_writer.specs.Describing.{IsReadBack}
use Rattle.fit_writer.specs.inner.Forms.{some_text}

all_three : (a b c : Bool) (text : List ℕ) → a ≡ true → b ≡ true → c ≡ true → cond ((a && b) && c) (Some text) None ≡ Some text
all_three true true true text a b c = refl
all_three false b c text is _ _ = absurd (cc is)
all_three true false c text _ is _ = absurd (cc is)
all_three true true false text _ _ is = absurd (cc is)

second : (a b c : Bool) (text : List ℕ) → cond ((a && b) && c) (Some text) None ≡ Some text → (b ≡ true) × (c ≡ true)
second true true true text is = (refl, refl)
second true true false text is = absurd (cc is)
second true false c text is = absurd (cc is)
second false b c text is = absurd (cc is)

some_length : (n : ℕ) → not (suc n == 0) ≡ true
some_length n = grind (arith, nat_tests)

pub reads_back : (text : List ℕ) → length text < 255 → list_all is_printable text ≡ true → IsUtf8 text → IsReadBack (some_text text)
reads_back [] short shown valid = tt
reads_back (b ∷ text) short shown valid = (
  all_three (not (length (b ∷ text) == 0)) (list_all is_printable (b ∷ text)) (is_utf8 (b ∷ text)) (b ∷ text) (some_length (length text)) shown
      (is_utf8-from_IsUtf8 (b ∷ text) valid),
  short,
)

pub too_long_text : (text : List ℕ) → 255 ≤ length text → IsReadBack (some_text text) → ⊥
too_long_text [] long back = absurd (omega (arith, long))
too_long_text (b ∷ text) long back = absurd (omega (arith, long, back.1))

pub not_shown : (text : List ℕ) → list_all is_printable text ≡ false → IsReadBack (some_text text) → ⊥
not_shown [] other back = cc (other)
not_shown (b ∷ text) other back =
    let parts = second (not (length (b ∷ text) == 0)) (list_all is_printable (b ∷ text)) (is_utf8 (b ∷ text)) (b ∷ text) back.0 in cc (sym other ∙ parts.0)

pub not_valid : (text : List ℕ) → (IsUtf8 text → ⊥) → IsReadBack (some_text text) → ⊥
not_valid [] other back = other IsUtf8-nil
not_valid (b ∷ text) other back =
    let parts = second (not (length (b ∷ text) == 0)) (list_all is_printable (b ∷ text)) (is_utf8 (b ∷ text)) (b ∷ text) back.0 in
    other (IsUtf8-from_is_utf8 (b ∷ text) parts.1)

pub short_text : (text : List ℕ) → IsReadBack (some_text text) → length text < 255
short_text [] back = omega arith
short_text (b ∷ text) back = back.1
