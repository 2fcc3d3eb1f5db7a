-- What comes after a beginning of a text.
use Rattle.fit_texts.proofs.Common.{◌≡◌, ◌∙◌, ◌++◌, Bor, ◌+◌, length, take, drop, true, false, sym, ap, refl, MatchOption, Decides-eqb, take-append-drop}
use Rattle.fit_texts.proofs.Common.{IsSomeAnd, take-append_seam}
use Rattle.std.proofs.Math.Seq.{drop-append_seam}
use Rattle.std.proofs.Common.{◌==◌, List, ℕ, Option, Some, None, IfSome}
use Rattle.std.specs.Cmp.Lexicographic.{pointwise}
use Rattle.std.proofs.lemmas.Slice.Eq.{slice_eq-Decides}

pub stripped : (text beginning : List ℕ) (o : Option (Bor (List ℕ))) → MatchOption o (pointwise ◌==◌ (take (length beginning) text) beginning ≡ false)
    (λ x. (pointwise ◌==◌ (take (length beginning) text) beginning ≡ true) × (x.now ≡ drop (length beginning) text)
    × (length x.now + length beginning ≡ length text))
    → IfSome o (λ rest. text ≡ beginning ++ rest.now)
stripped text beginning None h = tt
stripped text beginning (Some rest) (same, is, long) =
    let front : take (length beginning) text ≡ beginning = (slice_eq-Decides Decides-eqb (take (length beginning) text) beginning true (sym same)).0 refl in
    sym (take-append-drop (length beginning) text) ∙ ap (λ (t : List ℕ). t ++ drop (length beginning) text) front ∙ ap (λ (t : List ℕ). beginning ++ t) (sym is)

-- what comes after the beginning of a text that begins so is found
pub all_stripped : (text beginning : List ℕ) (o : Option (Bor (List ℕ)))
    → MatchOption o (pointwise ◌==◌ (take (length beginning) text) beginning ≡ false)
    (λ x. (pointwise ◌==◌ (take (length beginning) text) beginning ≡ true) × (x.now ≡ drop (length beginning) text)
    × (length x.now + length beginning ≡ length text))
    → (left : List ℕ) → text ≡ beginning ++ left → IsSomeAnd o (λ found. found.now ≡ left)
all_stripped text beginning None h left is =
    let front : take (length beginning) text ≡ beginning = ap (take (length beginning)) is ∙ take-append_seam beginning left in
    cc (sym h ∙ (slice_eq-Decides Decides-eqb (take (length beginning) text) beginning _ refl).1 front)
all_stripped text beginning (Some rest) (same, found, long) left is = found ∙ ap (drop (length beginning)) is ∙ drop-append_seam beginning left
