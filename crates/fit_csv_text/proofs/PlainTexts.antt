-- Plain lines, as they are spelled anew.
use Rattle.std.proofs.Common.{◌≡◌, ◌∙◌, ◌+◌, ◌-◌, ◌<◌, ◌≤◌, Bor, Option, MatchOption, Some, None, suc, zero, take, drop, length, get_or, [], ◌∷◌, ℕ, List}
use Rattle.std.proofs.Common.{◌==◌, Bool, false, refl, sym, ap, subst, arith, inl, inr}
use Rattle.std.proofs.lemmas.Bool.{cases_lt, ne_eqb}
use Rattle.std.proofs.lemmas.List.{take_rest}
use Rattle.fit_csv_text.proofs.LooseTexts.{none-of}
use Rattle.fit_csv_text.specs.Spellings.{EndsInReturn, HasPlainLines}
use Rattle.fit_csv_text.specs.inner.Loose.{NoneOf, is_mark}

-- ---- what is left of plain lines

pub plain-drop : (n : ℕ) (text : List ℕ) → HasPlainLines text → HasPlainLines (drop n text)
unfolding HasPlainLines
plain-drop zero text plain = plain
plain-drop (suc n) [] plain = tt
plain-drop (suc n) (c ∷ text) plain = plain-drop n text plain.2

pub plain-left : (text : List ℕ) (n : ℕ) → HasPlainLines text → HasPlainLines (take (length text - n) (drop n text))
plain-left text n plain = subst (λ (l : List ℕ). HasPlainLines l) (sym (take_rest text n)) (plain-drop n text plain)

pub plain-after-line : (text left : List ℕ) → text ≡ 13 ∷ 10 ∷ left → HasPlainLines text → HasPlainLines left
plain-after-line text left is plain = plain-drop 2 (13 ∷ 10 ∷ left) (subst (λ (l : List ℕ). HasPlainLines l) is plain)

-- after a carriage return comes a line feed
pub feed-after : (text : List ℕ) (i : ℕ) → HasPlainLines text → get_or text i 0 ≡ 13 → (i + 1 < length text) × (get_or text (i + 1) 0 ≡ 10)
unfolding HasPlainLines
feed-after [] i plain is = absurd (omega (arith, is))
feed-after (c ∷ text) zero plain is = let (more, e) = plain.1 is in rw e (omega arith, refl)
feed-after (c ∷ text) (suc i) plain is =
    let h = feed-after text i plain.2 is in
    let more : suc i + 1 ≡ suc (i + 1) = omega arith in
    (omega (arith, h.0), rw more h.1)

-- ---- how they begin

pub quote-not-plain : (text rest : List ℕ) → text ≡ 34 ∷ rest → HasPlainLines text → ⊥
unfolding HasPlainLines
quote-not-plain [] rest is plain = cc is
quote-not-plain (c ∷ text) rest is plain = plain.0 (ap (λ (l : List ℕ). get_or l 0 0) is)

no-mark-at : (c : ℕ) → (c ≡ 34 → ⊥) → (c ≡ 13 → ⊥) → is_mark c ≡ false
no-mark-at c quote back = rw (ne_eqb c 34 quote, ne_eqb c 13 back) refl

pub first-no-mark : (text : List ℕ) → HasPlainLines text → ((left : List ℕ) → text ≡ 13 ∷ 10 ∷ left → ⊥) → is_mark (get_or text 0 0) ≡ false
unfolding HasPlainLines
first-no-mark [] plain other = refl
first-no-mark (c ∷ text) plain other =
    no-mark-at c plain.0 (λ back.
    let after = plain.1 back in
    other after.0 (ap (λ x. x ∷ text) back ∙ ap (λ (l : List ℕ). 13 ∷ l) after.1))

-- a byte that is no mark, and more of them
pub run-none : (text rest : List ℕ) (first n : ℕ) → text ≡ first ∷ rest → is_mark first ≡ false → n ≤ length rest
    → ((k : ℕ) → k < n → is_mark (get_or rest k 0) ≡ false) → NoneOf is_mark (take (n + 1) text)
unfolding NoneOf
run-none text rest first n is plain short none =
    let more : n + 1 ≡ suc n = omega arith in
    subst (λ (l : List ℕ). NoneOf is_mark l) (sym (ap (λ k. take k text) more ∙ ap (λ (l : List ℕ). take (suc n) l) is))
    (plain, none-of is_mark n rest short none)

-- ---- bytes with which a text begins

pub other-first : (text t l : List ℕ) (a b : ℕ) → text ≡ a ∷ t → (a ≡ b → ⊥) → text ≡ b ∷ l → ⊥
other-first text t l a b is other also = other (ap (λ (x : List ℕ). get_or x 0 0) (sym is ∙ also))

pub after-both : (text rest : List ℕ) (o : Option (Bor (List ℕ))) → text ≡ 13 ∷ rest
    → MatchOption o ((left : List ℕ) → rest ≡ 10 ∷ left → ⊥) (λ l. rest ≡ 10 ∷ l.now)
    → MatchOption o ((left : List ℕ) → text ≡ 13 ∷ 10 ∷ left → ⊥) (λ l. text ≡ 13 ∷ 10 ∷ l.now)
after-both text rest None is h = λ left e. h left (ap (λ (l : List ℕ). drop 1 l) (sym is ∙ e))
after-both text rest (Some l) is h = is ∙ ap (λ (t : List ℕ). 13 ∷ t) h

-- ---- the first line

-- the first line feed stands after the carriage return
pub feed-place : (text : List ℕ) (i : ℕ) (h : EndsInReturn text) → get_or text i 0 ≡ 10 → ((k : ℕ) → k < i → get_or text k 0 ≡ 10 → ⊥) → h.place + 1 ≡ i
feed-place text i h is none = elim (cases_lt i h.place) [
  | inl low ↦ absurd (h.first i low is)
  | inr high ↦ elim (cases_lt (h.place + 1) i) [
    | inl past ↦ absurd (none (h.place + 1) past h.feed)
    | inr near ↦ elim (cases_lt h.place i) [
      | inl more ↦ omega arith
      | inr same ↦
          let at : i ≡ h.place = omega arith in
          let both : 10 ≡ 13 = sym is ∙ ap (λ k. get_or text k 0) at ∙ h.after in
          absurd (omega (arith, both))
    ]
  ]
]

-- ---- what is left

pub some-left : (n : ℕ) (none : Bool) → none ≡ (n == 0) → none ≡ false → 0 < n
some-left zero none is off = cc (sym is ∙ off)
some-left (suc n) none is off = omega arith
