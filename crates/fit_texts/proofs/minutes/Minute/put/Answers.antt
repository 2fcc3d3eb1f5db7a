use Rattle.fit_texts.proofs.Common.{◌∙◌, ◌++◌, ◌%◌, ◌^◌, sym, ap, arith, append_assoc, instant_text, seconds_text}
use Rattle.std.proofs.Common.{◌<◌}
use Rattle.std.proofs.lemmas.Result.{IfOk-equal}
use Rattle.fit_texts.proofs.minutes.Minute.put.Goals as goal

pub returns : goal.returns
returns c =
    let old = c.args.text.now.items in
    let end = seconds_text (c.args.time % 60) in
    let low : c.args.time < 2 ^ 32 = omega (arith, c.ranges.time.fits) in
    IfOk-equal c.put_seconds.result c.put_seconds.new.text.items (c.put.new.text.items ++ end) (old ++ instant_text c.args.time) c.put_seconds.ensures
    (ap (λ t. t ++ end) c.in_ok-put.ensures ∙ append_assoc old c.self.inside.text end
    ∙ ap (λ t. old ++ t) (sym (c.self.invariant c.args.time low (c.requires ∙ sym c.self.view_is))))
