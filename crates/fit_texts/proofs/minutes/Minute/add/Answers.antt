use Rattle.fit_texts.proofs.Common.{◌∙◌, ◌%◌, ◌++◌, ap, append_assoc, arith, sym, and_sheet, seconds_text}
use Rattle.fit_texts.proofs.Sheets.{more_written}
use Rattle.fit_texts.proofs.minutes.Minute.add.Goals as goal

pub returns-clause-text : goal.returns-clause-text
returns-clause-text c =
    let old = and_sheet c.args.text.now.items c.args.sheet.now c.args.at in
    let seconds = seconds_text (c.args.time % 60) in
    more_written c.add.new.text.items c.add.new.sheet c.write_seconds.new.bytes seconds c.in_ok-at.at c.write_seconds.result c.write_seconds.ensures.text
    ∙ ap (λ t. t ++ seconds) c.in_ok-at.ensures.text ∙ append_assoc old c.self.inside.text seconds
    ∙ ap (λ t. old ++ t) (sym (c.self.invariant c.args.time (omega (arith, c.ranges.time.fits)) (c.requires.minute ∙ sym c.self.view_is)))
