use Rattle.std.proofs.Common.{◌∙◌, ap, take}
use Rattle.fit_messages.proofs.ByteFacts.{low_taken, put_ok}
use Rattle.fit_messages.proofs.bytes.put_number.Goals as goal

pub returns : goal.returns
returns c = put_ok c.extend_from_slice.result c.args.bytes.now.items _ _ _ c.extend_from_slice.ensures.items
    (c.split_at.ensures.front ∙ ap (take c.args.width) (c.as_slice.ensures ∙ c.eight_bytes-all.ensures) ∙ low_taken c.args.width c.args.number c.requires)
