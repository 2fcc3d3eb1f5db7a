use Rattle.fit_texts.proofs.Common.{◌≡◌, ◌∙◌, ◌+◌, ◌++◌, ap, ap₂, arith, instant_text, length, take, take-append-add}
use Rattle.std.proofs.Common.{ℕ, List}
use Rattle.fit_texts.proofs.minutes.put_minute.Goals as goal

pub returns : goal.returns
returns c =
    let old = c.args.text.now.items in
    let time = c.as_bytes.ensures.value ∙ c.as_str.ensures.value ∙ c.time_text.ensures.text in
    let end : c.len-end.result + 17 ≡ length old + 17 = omega (arith, c.len-end.ensures, c.args.text.now.ok.0) in
    c.truncate.ensures.items ∙ ap₂ take end (c.in_ok-extend_from_slice.ensures.items ∙ ap (λ (t : List ℕ). old ++ t) time)
    ∙ take-append-add old (instant_text c.args.time) 17
