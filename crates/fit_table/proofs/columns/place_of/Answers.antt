use Rattle.fit_table.proofs.Common.{refl}
use Rattle.std.proofs.Common.{rules}
use Rattle.fit_table.proofs.columns.place_of.Goals as goal

pub returns : goal.returns
returns c = (
  refl,
  record { small = c.in_ok-form.ensures.small; form = search rules; width = c.in_ok-form.ensures.form.width; kind = c.of.ensures },
)
