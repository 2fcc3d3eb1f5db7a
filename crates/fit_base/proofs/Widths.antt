-- The table of widths has the protocol's.
use Rattle.fit_base.proofs.Common.{◌≡◌, ℕ, zero, suc, ◌+◌, ◌<◌, Bool, true, List, [], ◌∷◌, length, get_or, arith, ap, ◌∙◌, base_type}
use Rattle.std.proofs.Common.{◌==◌, ◌&&◌}
use Rattle.std.proofs.lemmas.Bool.{eqb-true}
use Rattle.fit_base.proofs.Bytes.{both}

-- entry j of the list is the width of code i + j: a test, which computes over a whole table
unfoldable pub are_widths : ℕ → List ℕ → Bool
are_widths i [] = true
are_widths i (w ∷ ws) = (w == (base_type i).width) && are_widths (suc i) ws

width_from : (i : ℕ) (ws : List ℕ) (j : ℕ) → are_widths i ws ≡ true → j < length ws → get_or ws j 0 ≡ (base_type (i + j)).width
unfolding are_widths
width_from i [] j t h = absurd (omega arith)
width_from i (w ∷ ws) zero t h =
    let e = eqb-true w (base_type i).width (both (w == (base_type i).width) (are_widths (suc i) ws) t).0 in
    e ∙ ap (λ k. (base_type k).width) (let same : i ≡ i + zero = omega arith in same)
width_from i (w ∷ ws) (suc j) t h =
    let e = width_from (suc i) ws j (both (w == (base_type i).width) (are_widths (suc i) ws) t).1 (omega arith) in
    e ∙ ap (λ k. (base_type k).width) (let same : suc i + j ≡ i + suc j = omega arith in same)

pub width_at : (table : List ℕ) (code : ℕ) → are_widths 0 table ≡ true → code < length table → get_or table code 0 ≡ (base_type code).width
width_at table code t h = width_from 0 table code t h ∙ ap (λ k. (base_type k).width) (let same : 0 + code ≡ code = omega arith in same)
