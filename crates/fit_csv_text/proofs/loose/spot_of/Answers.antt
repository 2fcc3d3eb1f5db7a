use Rattle.std.proofs.Common.{◌∙◌, sym}
use Rattle.fit_csv_text.proofs.LooseTexts.{last-spot, no-last}
use Rattle.fit_csv_text.specs.declared.loose.Spot.TheVariants.{RowStart}
use Rattle.fit_csv_text.proofs.loose.spot_of.Goals as goal

pub returns-in-Some : goal.returns-in-Some
returns-in-Some c = c.spot_at.ensures ∙ sym (last-spot RowStart c.args.written.now c.in-Some.b.now (sym c.in-Some.ensures.value))

pub returns-in-None : goal.returns-in-None
returns-in-None c = no-last c.args.written.now (sym c.in-None.ensures.value)
