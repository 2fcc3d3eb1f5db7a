use Rattle.fit_decode.proofs.Common.{zero, ◌<◌, ◌+◌, ◌∙◌, ap, sym, arith, slice_is_bytes, to_come_in}
use Rattle.fit_decode.proofs.Needed.{four_bytes_below}
use Rattle.fit_decode.proofs.need.bytes_to_come.Goals as goal

pub overflow_add-result : goal.overflow_add-result
overflow_add-result c =
    let low = slice_is_bytes c.args.header.now c.type_inv.header in
    let small : c.bits_at.result < 4294967296 =
    four_bytes_below c.args.header.now c.split_at.result.1.now c.split_at-in-Some.result.0.now c.bits_at.result low c.split_at.ensures.back
    c.split_at-in-Some.ensures.front c.split_at-in-Some.ensures.front_len c.bits_at.ensures in
    omega (arith, small, c.saturating_sub-rest.ensures, c.from.ensures, low zero)

pub returns-in-Data : goal.returns-in-Data
returns-in-Data c =
    ap (λ n. n + 2) c.from-in-Data.ensures ∙ ap (λ s. to_come_in s c.args.stage.now c.args.header.now c.args.room) (sym c.in-Data.is)
