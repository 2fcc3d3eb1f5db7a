use Rattle.fit_sum.proofs.Common.{arith, ap, sym, ◌∙◌, ◌≤◌, ◌*◌, ◌+◌, length, bytes_number}
use Rattle.fit_sum.proofs.BytesOfWords.{eight_at, number-eight}
use Rattle.fit_sum.proofs.words.word.Goals as goal

pub returns : goal.returns
returns c =
    let within : 8 * c.args.at + 8 ≤ length c.args.block.now = omega (arith, c.told-block) in
    c.from_le_bytes.ensures ∙ sym (number-eight _ _ _ _ _ _ _ _) ∙ ap bytes_number (sym (eight_at (8 * c.args.at) c.args.block.now within))
