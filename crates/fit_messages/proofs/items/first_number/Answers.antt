use Rattle.std.proofs.Common.{◌∙◌, ap, sym, take}
use Rattle.fit_base.proofs.ByteLists.{slice_is_bytes}
use Rattle.fit_base.specs.Numbers.{number}
use Rattle.fit_messages.proofs.NumberParts.{first_masked, first_shifted}
use Rattle.fit_messages.proofs.items.first_number.Goals as goal

pub returns-in-Little : goal.returns-in-Little
returns-in-Little c =
    let eight = c.args.eight.now in
    first_masked c.args.width c.greatest.result c.bits_at-all.result eight c.requires.width (slice_is_bytes eight c.type_inv.eight) c.requires.length
    c.greatest.ensures (c.bits_at-all.ensures ∙ ap (λ o. number o eight) c.in-Little.is)
    ∙ ap (λ o. number o (take c.args.width eight)) (sym c.in-Little.is)

pub returns-in-Big : goal.returns-in-Big
returns-in-Big c =
    let eight = c.args.eight.now in
    first_shifted c.args.width c.bits_at-all.result eight c.requires.width (slice_is_bytes eight c.type_inv.eight) c.requires.length
    (c.bits_at-all.ensures ∙ ap (λ o. number o eight) c.in-Big.is)
    ∙ ap (λ o. number o (take c.args.width eight)) (sym c.in-Big.is)
