use Rattle.fit_texts.proofs.Common.{◌≡◌, ◌∙◌, ◌+◌, ◌++◌, ap, arith, length, sym, take}
use Rattle.std.proofs.Common.{ℕ, List, ◌-◌}
use Rattle.std.proofs.lemmas.List.{length-take-le}
use Rattle.fit_texts.proofs.Stamps.{written}
use Rattle.fit_texts.proofs.stamp.Stamp.write_by.Goals as goal

pub returns-clause-text : goal.returns-clause-text
returns-clause-text g c =
    let used = c.self.inside.used in
    let count = g.row.COUNT in
    let all = ap length (sym c.self.view_is) ∙ length-take-le used c.self.inside.padded.items (omega (arith, c.self.invariant)) in
    let after : c.write_array.result ≡ c.args.at + count = c.write_array.ensures.end in
    let end : c.write_array.result - count + used ≡ c.args.at + used = omega (arith, after) in
    let short = c.in-Some.ensures.cases.0 ∙ ap (take count) c.as_slice.ensures.value in
    let text = ap (λ n. take n c.write_array.new.bytes) (sym after) ∙ c.write_array.ensures.text in
    ap (λ n. take n c.write_array.new.bytes) end
    ∙ written c.args.bytes.now c.write_array.new.bytes c.self.inside.padded.items c.in-Some.front.now c.args.at used count
    (omega (arith, all, c.requires.short)) (omega (arith, c.requires.room)) short text
    ∙ ap (λ (t : List ℕ). take c.args.at c.args.bytes.now ++ t) c.self.view_is
