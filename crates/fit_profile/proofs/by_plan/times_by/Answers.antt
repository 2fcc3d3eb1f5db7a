use Rattle.fit_profile.proofs.Common.{◌∙◌, refl, sym}
use Rattle.fit_profile.proofs.NoCounters.{parts, told-uncounted}
use Rattle.fit_profile.specs.inner.Alone.{times_alone}
use Rattle.fit_profile.proofs.by_plan.times_by.Goals as goal

pub returns : goal.returns
returns c =
    told-uncounted c.args.last c.args.definition.now c.args.values.now (times_alone c.time_by-time.result c.header_time.result)
    (parts c.args.definition.now (sym c.requires.plan.more ∙ c.requires.alone)).1
    (rw (c.time_by-time.ensures, c.header_time.ensures) refl)
