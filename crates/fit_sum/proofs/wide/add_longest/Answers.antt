use Rattle.fit_sum.proofs.Common.{◌<◌, ◌/◌, length, ap, ◌∙◌, arith, run}
use Rattle.fit_sum.proofs.PiecesOfLists.{run-pieces}
use Rattle.fit_sum.proofs.wide.add_longest.Goals as goal

pub returns : goal.returns
returns c =
    let bytes = c.args.bytes.now in
    let whole = c.as_chunks.result.0.now in
    let rest = c.as_chunks.result.1.now in
    let some : 0 < length c.as_chunks.result.0.now = omega (arith, c.requires, c.as_chunks.ensures.front_len) in
    c.add_by_eights.ensures
    ∙ ap (λ t. run t rest) c.add_wide_blocks.ensures
    ∙ run-pieces 256 (length bytes / 256) c.args.register bytes whole rest some c.as_chunks.ensures.front c.as_chunks.ensures.back
