-- Bytes before the closing zeros, and printable bytes, one byte after another.
use Rattle.fit_profile.proofs.Common.{◌≡◌, ◌∙◌, ℕ, true, false, List, length, refl, sym, ap, subst, cond, inl, inr, Some, None, cases_Bool, none-some}
use Rattle.fit_profile.proofs.Common.{same_Some, is_utf8-from_IsUtf8, IsUtf8-from_is_utf8, if◌then◌else◌, list_all, IsUtf8, is_utf8, is_printable}
use Rattle.fit_profile.proofs.Common.{printable_text}
use Rattle.std.specs.Prelude.{◌==◌}

-- printable bytes that are UTF-8 are a text, others none
pub text-some : (xs bs : List ℕ) → (length xs == 0) ≡ false → Some bs ≡ (if list_all is_printable xs then Some xs else None) → IsUtf8 bs
    → Some bs ≡ printable_text xs
text-some xs bs some e utf8 = elim (cases_Bool (list_all is_printable xs)) [
  | inl all ↦
      let same : bs ≡ xs = same_Some bs xs (e ∙ ap (λ b. cond b (Some xs) None) all) in
      let test : is_utf8 xs ≡ true = is_utf8-from_IsUtf8 xs (subst IsUtf8 same utf8) in
      ap Some same ∙ sym (rw (some, all, test) refl)
  | inr other ↦ absurd (none-some bs (sym (e ∙ ap (λ b. cond b (Some xs) None) other)))
]

pub text-none : (xs bs : List ℕ) → (length xs == 0) ≡ false → Some bs ≡ (if list_all is_printable xs then Some xs else None) → (IsUtf8 bs → ⊥)
    → None ≡ printable_text xs
text-none xs bs some e broken = elim (cases_Bool (list_all is_printable xs)) [
  | inl all ↦
      let same : bs ≡ xs = same_Some bs xs (e ∙ ap (λ b. cond b (Some xs) None) all) in
      elim (cases_Bool (is_utf8 xs)) [
        | inl test ↦ absurd (broken (subst IsUtf8 (sym same) (IsUtf8-from_is_utf8 xs test)))
        | inr test ↦ sym (rw (some, all, test) refl)
      ]
  | inr other ↦ absurd (none-some bs (sym (e ∙ ap (λ b. cond b (Some xs) None) other)))
]
