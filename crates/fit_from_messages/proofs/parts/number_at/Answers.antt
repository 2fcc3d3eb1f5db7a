use Rattle.std.proofs.Common.{◌<◌, ◌^◌, subst, sym, ap, ◌∙◌, take}
use Rattle.fit_base.specs.Numbers.{little}
use Rattle.fit_base.proofs.ByteLists.{slice_is_bytes}
use Rattle.fit_from_messages.proofs.ReadNumbers.{number_at_below}
use Rattle.fit_from_messages.proofs.parts.number_at.Goals as goal

pub returns-clause-small : goal.returns-clause-small
returns-clause-small c =
    let whole = c.split_at-2.ensures.front ∙ ap (take c.args.width) c.split_at.ensures.back in
    subst (λ n. n < 256 ^ c.args.width) (sym (c.bits_at.ensures ∙ ap little whole))
    (number_at_below c.args.width c.args.place c.args.bytes.now (slice_is_bytes c.args.bytes.now c.type_inv.bytes) c.requires.room)
