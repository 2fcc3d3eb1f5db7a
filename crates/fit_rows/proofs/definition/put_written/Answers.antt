use Rattle.fit_rows.proofs.Common.{◌≡◌, ◌∙◌, ◌++◌, length, take, ap, arith}
use Rattle.std.proofs.Common.{◌+◌}
use Rattle.std.proofs.Math.Seq.{take-append-add, take-take}
use Rattle.fit_rows.proofs.definition.put_written.Goals as goal

pub returns : goal.returns
returns c =
    let text = c.args.text.now.items in
    let row = c.args.row.now in
    let end = c.args.end in
    let long : c.len.result ≡ length text = omega (arith, c.len.ensures) in
    let put = c.in_ok-extend_from_slice.ensures.items ∙ ap (λ t. text ++ t) (c.split_at-2.ensures.front ∙ ap (take 32) c.as_slice-2.ensures) in
    c.truncate.ensures.items ∙ ap (λ n. take (n + end) c.extend_from_slice-2.new.self.items) long ∙ ap (take (length text + end)) put
    ∙ take-append-add text (take 32 row) end ∙ ap (λ t. text ++ t) (take-take end 32 row (omega (arith, c.if-end-gt-SHORT_ROW.false)))
