use Rattle.fit_profile.proofs.Common.{arith, subst, sym, learn}
use Rattle.fit_record.specs.Environment.{defined_by}
use Rattle.fit_record.specs.Records.{Fits}
use Rattle.fit_profile.specs.inner.Plans.{ArePlanned, HasRoomFor}
use Rattle.fit_profile.proofs.Planned.{planned_set}
use Rattle.fit_record.specs.declared.message.Record.TheVariants.{Define}
use Rattle.fit_profile.proofs.plan.Plans.take.Goals as goal

pub put-requires : goal.put-requires
put-requires c =
    let fits = subst (λ r. Fits c.requires.fits.0 r) c.in-Define.is c.requires.fits.1 in
    let room = subst (λ r. HasRoomFor c.args.self.now.places.items r) c.in-Define.is c.requires.room in
    omega (arith, fits.local, room)

pub returns-in-Define : goal.returns-in-Define
returns-in-Define c e sixteen planned _ =
    let d = c.in-Define.definition in
    let fits = subst (λ r. Fits c.requires.fits.0 r) c.in-Define.is c.requires.fits.1 in
    let room = subst (λ r. HasRoomFor c.args.self.now.places.items r) c.in-Define.is c.requires.room in
    subst (λ r. ArePlanned c.put.new.self.places.items (learn e r).places) (sym c.in-Define.is)
    (subst (λ plans. ArePlanned plans (learn e (Define d)).places) (sym c.put.ensures)
    (planned_set c.args.self.now.places.items e.places d.local c.of.result (defined_by e d)
    (omega (arith, fits.local, room)) (omega (arith, fits.local, sixteen))
    planned c.of.ensures))

pub returns-then-not-changes : goal.returns-then-not-changes
returns-then-not-changes c e sixteen planned same =
    subst (λ x. ArePlanned c.args.self.now.places.items x.places) (sym (same c.if-not-changes.true)) planned
