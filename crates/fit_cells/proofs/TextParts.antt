-- A text put after another one, told apart again.
use Rattle.fit_cells.proofs.Common.{◌≡◌, ◌∙◌, ◌++◌, ℕ, List, length, take, drop, ap₂}
use Rattle.std.proofs.Math.Seq.{drop-append_seam, take-append_seam}

-- what stands before the end of the old text
pub text_before : (old part text : List ℕ) (end : ℕ) → text ≡ old ++ part → end ≡ length old → take end text ≡ old
text_before old part text end is at = ap₂ take at is ∙ take-append_seam old part

-- what was put after it
pub text_after : (old part text : List ℕ) (end : ℕ) → text ≡ old ++ part → end ≡ length old → drop end text ≡ part
text_after old part text end is at = ap₂ drop at is ∙ drop-append_seam old part
