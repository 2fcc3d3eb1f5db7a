use Rattle.std.proofs.Common.{◌∙◌, sym, take}
use Rattle.fit_csv_text.specs.inner.Loose.{spot_from}
use Rattle.fit_csv_text.specs.declared.loose.Spot.TheVariants.{RowStart}
use Rattle.fit_csv_text.proofs.LooseTexts.{last-spot, spot-append}
use Rattle.fit_csv_text.proofs.loose.cells.spot_on.Goals as goal

pub returns-in-Some : goal.returns-in-Some
returns-in-Some c =
    let written = c.args.written.now in
    let front = take c.args.at c.args.sheet.now in
    c.spot_at.ensures ∙ sym (spot-append RowStart written front ∙ last-spot (spot_from RowStart written) front c.in-Some.b.now (sym c.in-Some.ensures.value))
