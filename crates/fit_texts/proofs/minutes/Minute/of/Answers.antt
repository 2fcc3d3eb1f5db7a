use Rattle.fit_texts.proofs.Common.{◌∙◌, ◌++◌, take, ap, arith, instant_text}
use Rattle.std.proofs.Common.{ℕ, List}
use Rattle.fit_texts.proofs.MinuteFacts.{is_minute}
use Rattle.fit_texts.proofs.minutes.Minute.of.Goals as goal

pub invariant_of-result : goal.invariant_of-result
invariant_of-result c =
    let minute = take 17 (instant_text c.args.time) in
    is_minute c.args.time c.in_ok-new.field-0 (omega arith) c.requires
    (c.in_ok-new.ensures ∙ c.in_ok-put_minute.ensures ∙ ap (λ (t : List ℕ). t ++ minute) c.in_ok-text.ensures.items)
