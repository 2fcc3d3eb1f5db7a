use Rattle.std.proofs.Common.{◌∙◌, ◌++◌, ap, arith, drop, take}
use Rattle.fit_messages.proofs.ByteFacts.{low_taken}
use Rattle.fit_messages.proofs.sheet.write_length.Goals as goal

pub returns : goal.returns
returns c =
    ap (λ b. b ++ drop 4 c.args.sheet.now) (c.copy_from_slice.ensures.after ∙ c.split_at.ensures.front
    ∙ ap (take 4) (c.as_slice.ensures ∙ c.eight_bytes-eight.ensures) ∙ low_taken 4 c.args.length (omega arith))
