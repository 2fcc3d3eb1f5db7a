use Rattle.fit_sum.proofs.Common.{◌≡◌, arith, refl, ap, sym, ◌∙◌, ◌≤◌, ◌*◌, ◌+◌, suc, length, take, drop, bytes_number, words_from}
use Rattle.fit_sum.proofs.BytesOfWords.{eight_at, number-eight}
use Rattle.fit_sum.proofs.wide.word.Goals as goal

pub returns : goal.returns
unfolding words_from
returns c =
    let block = c.args.block.now in
    let i = 16 * c.args.at in
    let low_in : 16 * c.args.at + 8 ≤ length c.args.block.now = omega (arith, c.told-block) in
    let high_in : 16 * c.args.at + 8 + 8 ≤ length c.args.block.now = omega (arith, c.told-block) in
    let low_at : 16 * c.args.at ≡ 8 * (2 * c.args.at) = omega arith in
    let high_at : 16 * c.args.at + 8 ≡ 8 * suc (2 * c.args.at) = omega arith in
    let low : c.from_le_bytes.result ≡ bytes_number (take 8 (drop (8 * (2 * c.args.at)) c.args.block.now))
    = c.from_le_bytes.ensures ∙ sym (number-eight _ _ _ _ _ _ _ _) ∙ ap bytes_number (sym (eight_at i block low_in))
    ∙ ap (λ k. bytes_number (take 8 (drop k block))) low_at in
    let high : c.from_le_bytes-2.result ≡ bytes_number (take 8 (drop (8 * suc (2 * c.args.at)) c.args.block.now))
    = c.from_le_bytes-2.ensures ∙ sym (number-eight _ _ _ _ _ _ _ _) ∙ ap bytes_number (sym (eight_at (i + 8) block high_in))
    ∙ ap (λ k. bytes_number (take 8 (drop k block))) high_at in
    rw (low, high) refl
