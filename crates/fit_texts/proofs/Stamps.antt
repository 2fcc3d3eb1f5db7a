-- Texts that are put after many others.
use Rattle.fit_texts.proofs.Common.{◌≡◌, ◌∙◌, ◌≤◌, ◌+◌, ◌++◌, arith, length, sym, take, ap, take-append-add, take-append_seam}
use Rattle.std.proofs.Common.{ℕ, List}
use Rattle.std.proofs.Math.Seq.{take-take}
use Rattle.std.proofs.lemmas.List.{length-take-le}

-- what stands after a text isn't of it
pub padded : (text more all : List ℕ) → all ≡ text ++ more → take (length text) all ≡ text
padded text more all e = ap (take (length text)) e ∙ take-append_seam text more

-- a text of which what is after its end was cut off
pub cut : (old padded short text : List ℕ) (used fixed : ℕ) → used ≤ fixed → short ≡ take fixed padded → text ≡ old ++ short
    → take (length old + used) text ≡ old ++ take used padded
cut old padded short text used fixed within e all =
    ap (take (length old + used)) all ∙ take-append-add old short used
    ∙ ap (λ s. old ++ s) (ap (take used) e ∙ take-take used fixed padded within)

-- a text that was written into bytes, with what is cut off
pub written : (old new padded short : List ℕ) (at used fixed : ℕ) → used ≤ fixed → at ≤ length old → short ≡ take fixed padded
    → take (at + fixed) new ≡ take at old ++ short → take (at + used) new ≡ take at old ++ take used padded
written old new padded short at used fixed within room e all =
    let text = take (at + fixed) new in
    let begun : length (take at old) ≡ at = length-take-le at old room in
    sym (take-take (at + used) (at + fixed) new (omega (arith, within))) ∙ ap (λ n. take (n + used) text) (sym begun)
    ∙ cut (take at old) padded short text used fixed within e all
