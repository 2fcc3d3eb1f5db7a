use Rattle.fit_numbers.proofs.Common.{◌≡◌, ◌∙◌, ℤ, pos, ◌+ℤ◌, arith, w64, ap, subst, to_z_pos, IsOnly, epoch_day, IsEpochDay}
use Rattle.jiff_core.specs.declared.unit.Unit.TheVariants.{Day}
use Rattle.jiff.proofs.SpanFacts.{signed_arith, date_add-days, can_add-days}
use Rattle.fit_numbers.proofs.DayFacts.{start-day, epoch_day-start, year-after}
use Rattle.fit_numbers.proofs.instant.day_after_epoch.Goals as goal

pub unreachable-requires : goal.unreachable-requires
unreachable-requires c =
    let only : IsOnly Day (pos c.args.days) c.days.result =
    subst (λ (z : ℤ). IsOnly Day z c.days.result) (to_z_pos w64 c.args.days (omega (arith, c.requires))) c.days.ensures in
    let can = can_add-days c.date.result (pos c.args.days) c.days.result only in
    let e = epoch_day-start c.date.result c.date.ensures.0 c.date.ensures.1 c.date.ensures.2 in
    let day : IsEpochDay (epoch_day c.date.result +ℤ pos c.args.days) = rw e (omega (arith, signed_arith, c.requires), omega (arith, signed_arith, c.requires))
    in
    let ok = c.checked_add.ensures.succeeds.1 (can.1 day) in
    cc (rw c.in-Err.is at ok)

pub returns : goal.returns
returns c =
    let only : IsOnly Day (pos c.args.days) c.days.result =
    subst (λ (z : ℤ). IsOnly Day z c.days.result) (to_z_pos w64 c.args.days (omega (arith, c.requires))) c.days.ensures in
    let e = epoch_day-start c.date.result c.date.ensures.0 c.date.ensures.1 c.date.ensures.2 in
    let v = date_add-days c.date.result (pos c.args.days) c.days.result only in
    let day : epoch_day c.in-Ok.day ≡ pos 7304 +ℤ pos c.args.days = c.in-Ok.ensures.value ∙ v ∙ ap (λ z. z +ℤ pos c.args.days) e in
    record {
      day = rw start-day day;
      year = year-after c.in-Ok.day (rw day (omega (arith, signed_arith)));
    }
