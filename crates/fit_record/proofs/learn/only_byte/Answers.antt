use Rattle.fit_record.proofs.Common.{◌<◌, get_or, sym, ◌∙◌, arith}
use Rattle.fit_record.proofs.FirstOfNumber.{first_below, one_of}
use Rattle.fit_record.proofs.learn.only_byte.Goals as goal

pub overflow_cast-result : goal.overflow_cast-result
overflow_cast-result g c =
    let n = get_or c.as_slice.result.now 0 0 in
    let below : n < 256 = first_below c.args.fields.now c.args.items.now c.args.number c.in_ok-i.i.now n c.requires (sym c.in_ok-i.ensures) c.if-i-ne1.false
    (sym c.as_slice.ensures ∙ one_of c.as_slice.result.now c.in-len1.len_at_least c.in-len1.len_below) in
    omega (arith, below)
