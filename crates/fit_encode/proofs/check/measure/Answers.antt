use Rattle.fit_encode.proofs.Common.{◌≡◌, ◌∙◌, inr, take, length, sym, ap, subst, arith, take_all, empty_environment, learn, AllFit, records_bytes, inl, refl}
use Rattle.std.proofs.Common.{lit<}
use Rattle.fit_encode.proofs.FaultSteps.{on_ok_at, shape_at, long_at, measured_past}
use Rattle.fit_encode.proofs.check.measure.Goals as goal

pub returns-in-Err-clause-err : goal.returns-in-Err-clause-err
returns-in-Err-clause-err g c =
    let inv = c.loop-index.invariant in
    inr (shape_at c.args.number c.args.records.now c.loop-index.index c.index-records-index.result c.loop-index.env c.loop-index.length
    c.loop-index-test.true c.index-records-index.is inv.known inv.fit inv.total inv.small c.in-Err.fault c.shape_fault.result c.in-Err.ensures.err
    c.shape_fault.ensures)

pub returns-in_default-clause-err : goal.returns-in_default-clause-err
returns-in_default-clause-err g c =
    let inv = c.loop-index.invariant in
    let much = c.in_default.ensures in
    inr (long_at c.args.number c.args.records.now c.loop-index.index c.index-records-index.result c.loop-index.env c.loop-index.length
    c.loop-index-test.true c.index-records-index.is inv.known inv.fit inv.total inv.small c.in-Ok.more c.in-Ok.ensures.ok.0
    c.in-Ok.ensures.ok.1 (omega (arith, much)))

pub loop-index-preserved : goal.loop-index-preserved
loop-index-preserved g c =
    let inv = c.loop-index.invariant in
    let sum = c.in-Some.ensures in
    let learned : c.learn.new.self ≡ learn c.loop-index.env c.index-records-index.result =
    on_ok_at _ c.learn.result (sym c.is_err.ensures.value ∙ c.if-is_err.false) c.learn.ensures.ok in
    let past = measured_past c.args.number c.args.records.now c.loop-index.index c.index-records-index.result c.loop-index.env c.loop-index.length
    c.loop-index-test.true c.index-records-index.is inv.known inv.fit inv.total inv.small c.in-Ok.more c.in-Ok.ensures.ok.0 c.in-Ok.ensures.ok.1
    c.learn.new.self c.in-Some.sum learned
    (omega (arith, sum.0, sum.1)) in
    record { known = past.0; small = omega (arith, sum.0, sum.1); fit = past.1; total = past.2 }

pub returns-clause-ok : goal.returns-clause-ok
returns-clause-ok g c =
    let all : take c.loop-index.index c.args.records.now ≡ c.args.records.now = take_all c.loop-index.index c.args.records.now c.loop-index-test.false in
    let inv = c.loop-index.invariant in
    (subst (AllFit {A = g.row.A.Denot} empty_environment) all inv.fit, inv.total ∙ ap (λ x. length (records_bytes {A = g.row.A.Denot} empty_environment x)) all)

pub loop-index-init : goal.loop-index-init
loop-index-init g c = record { known = c.new.ensures; small = lit< tt; fit = tt; total = refl }

pub fits-requires : goal.fits-requires
fits-requires g c = assumption

pub learn-requires : goal.learn-requires
learn-requires g c = (assumption, c.in-Ok.ensures.ok.0)

pub returns-in-Err-clause-ok : goal.returns-in-Err-clause-ok
returns-in-Err-clause-ok g c = tt

pub returns-in-Err-clause-small : goal.returns-in-Err-clause-small
returns-in-Err-clause-small g c = tt

pub returns-in_default-clause-ok : goal.returns-in_default-clause-ok
returns-in_default-clause-ok g c = tt

pub returns-in_default-clause-small : goal.returns-in_default-clause-small
returns-in_default-clause-small g c = tt

pub returns-then-is_err-clause-ok : goal.returns-then-is_err-clause-ok
returns-then-is_err-clause-ok g c = tt

pub returns-then-is_err-clause-small : goal.returns-then-is_err-clause-small
returns-then-is_err-clause-small g c = tt

pub returns-then-is_err-clause-err : goal.returns-then-is_err-clause-err
returns-then-is_err-clause-err g c = inl refl

pub returns-clause-small : goal.returns-clause-small
returns-clause-small g c = c.loop-index.invariant.small

pub returns-clause-err : goal.returns-clause-err
returns-clause-err g c = tt
