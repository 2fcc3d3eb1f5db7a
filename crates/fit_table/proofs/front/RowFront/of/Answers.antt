use Rattle.fit_table.proofs.Common.{◌∙◌, ◌++◌, ◌∷◌, [], ap, arith, instant_text, length, take}
use Rattle.std.proofs.Common.{ℕ, List, decimal}
use Rattle.fit_table.proofs.FrontFacts.{front_of}
use Rattle.fit_table.proofs.front.RowFront.of.Goals as goal

pub invariant_of-result : goal.invariant_of-result
invariant_of-result c =
    let number = c.in_ok-put_whole.ensures.ok ∙ ap (λ (t : List ℕ). t ++ decimal c.args.file) c.in_ok-text.ensures.items in
    let before = c.in_ok-push.ensures.items ∙ ap (λ (t : List ℕ). t ++ (44 ∷ [])) number in
    let minute = take 17 (instant_text c.args.time) in
    let all = c.in_ok-new.ensures ∙ c.in_ok-put_minute.ensures ∙ ap (λ (t : List ℕ). t ++ minute) before in (
      front_of c.args.file c.args.time c.in_ok-new.field-0 (omega arith) c.requires all,
      omega (arith, ap length c.in_ok-new.ensures, c.put_minute.new.text.ok.0, c.len.ensures, c.if-len-gt-SHORT.false),
    )
