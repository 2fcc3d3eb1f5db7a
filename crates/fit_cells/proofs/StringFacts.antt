-- Texts that can stand as they are.
use Rattle.fit_cells.proofs.Common.{◌≡◌, ◌∙◌, ℕ, zero, suc, ◌<◌, Bool, true, false, List, [], ◌∷◌, ◌++◌, length, drop, get_or, reverse, All, refl, sym, ap, inl}
use Rattle.fit_cells.proofs.Common.{inr, arith, eqb-true, not, list_all, is_utf8, cases_Bool, reverse-append}
use Rattle.fit_cells.proofs.Common.{reverse-reverse, ext_get_or, before_closing_zeros, without_zeros, begins_as_bytes, bytes_text, is_plain, string_text}
use Rattle.fit_cells.proofs.Common.{read_pairs}
use Rattle.std.specs.Prelude.{◌==◌, ◌&&◌}
use Rattle.fit_cells.proofs.ReadFacts.{bytes-shown}

both_parts : (a b : Bool) → (a && b) ≡ true → b ≡ true
both_parts true b h = h
both_parts false b h = cc

plain-begins : (text : List ℕ) → is_plain text ≡ true → begins_as_bytes text ≡ false
plain-begins text h = not-true (begins_as_bytes text) (both_parts (is_utf8 text && list_all (λ b. not (b == 0)) text) (not (begins_as_bytes text)) h)
  where
    not-true : (b : Bool) → not b ≡ true → b ≡ false
    not-true true e = cc
    not-true false e = refl

-- bytes shown as bytes
pub string-bytes : (bytes text : List ℕ) (count : ℕ) → text ≡ string_text bytes → begins_as_bytes text ≡ true → length bytes ≡ count → All (λ b. b < 256) bytes
    → read_pairs count (drop 2 text) ≡ bytes
string-bytes bytes text count e begins long small = elim (cases_Bool (is_plain (before_closing_zeros bytes))) [
  | inl plain ↦
      let same : text ≡ before_closing_zeros bytes = rw plain at e in
      cc (sym begins ∙ ap begins_as_bytes same ∙ plain-begins (before_closing_zeros bytes) plain)
  | inr other ↦
      bytes-shown bytes text count (rw other at e) long small
]

pad : (xs : List ℕ) (k : ℕ) → get_or (xs ++ (0 ∷ [])) k 0 ≡ get_or xs k 0
pad [] zero = refl
pad [] (suc k) = refl
pad (x ∷ xs) zero = refl
pad (x ∷ xs) (suc k) = pad xs k

same-reversed : (ys : List ℕ) (k : ℕ) → get_or (reverse (without_zeros ys)) k 0 ≡ get_or (reverse ys) k 0
same-reversed [] k = refl
same-reversed (b ∷ ys) k = elim (cases_Bool (b == 0)) [
  | inl none ↦ rw none (same-reversed ys k
      ∙ sym (ap (λ xs. get_or xs k 0) (reverse-append (b ∷ []) ys ∙ ap (λ x. reverse ys ++ (x ∷ [])) (eqb-true b 0 none)) ∙ pad (reverse ys) k))
  | inr some ↦ rw some refl
]

-- after the bytes before the closing zeros there are zeros
before-same : (bytes : List ℕ) (k : ℕ) → get_or (before_closing_zeros bytes) k 0 ≡ get_or bytes k 0
before-same bytes k = same-reversed (reverse bytes) k ∙ ap (λ xs. get_or xs k 0) (reverse-reverse bytes)

-- bytes shown as text
pub string-plain : (bytes text bits : List ℕ) (count : ℕ) → text ≡ string_text bytes → begins_as_bytes text ≡ false → length bits ≡ count → length bytes ≡ count
    → ((k : ℕ) → k < count → get_or bits k 0 ≡ get_or text k 0) → bits ≡ bytes
string-plain bytes text bits count e begins m n same = elim (cases_Bool (is_plain (before_closing_zeros bytes))) [
  | inl plain ↦
      let is : text ≡ before_closing_zeros bytes = rw plain at e in
      ext_get_or 0 bits bytes (m ∙ sym n) (λ k h. same k (omega (arith, h, m)) ∙ ap (λ t. get_or t k 0) is ∙ before-same bytes k)
  | inr other ↦
      let is : text ≡ bytes_text bytes = rw other at e in
      cc (sym begins ∙ ap begins_as_bytes is)
]

-- a text that is shown has its string's bytes
pub plain-same : (bytes text : List ℕ) (k : ℕ) → text ≡ string_text bytes → begins_as_bytes text ≡ false → get_or bytes k 0 ≡ get_or text k 0
plain-same bytes text k e begins = elim (cases_Bool (is_plain (before_closing_zeros bytes))) [
  | inl plain ↦
      let is : text ≡ before_closing_zeros bytes = rw plain at e in
      sym (ap (λ t. get_or t k 0) is ∙ before-same bytes k)
  | inr other ↦
      let is : text ≡ bytes_text bytes = rw other at e in
      cc (sym begins ∙ ap begins_as_bytes is)
]
