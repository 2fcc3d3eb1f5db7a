-- What is skipped again and again is skipped once.
use Rattle.fit_report.proofs.Common.{ap, Seen, err_from_is_err_and}
use Rattle.fit_report.proofs.Pieces.{lacks_after}
use Rattle.fit_report.proofs.Skipped.{skips_nothing, skips_on}
use Rattle.fit_report.proofs.telling.skip_all.Goals as goal

pub skips-init : goal.skips-init
skips-init g c = record { skips = skips_nothing; viable = c.requires.viable }

pub skip-requires-clause-told : goal.skip-requires-clause-told
skip-requires-clause-told g c =
    let (heard, has, are) = c.requires.told in
    let t = c.skips.invariant.skips.told heard has are in
    (t.0, t.1, t.2)

pub skips-preserved : goal.skips-preserved
skips-preserved g c = record {
  skips = skips_on c.skips.invariant.skips c.split_at.ensures.back c.in_ok-used.ensures.skips;
  viable = c.in_ok-used.ensures.viable;
}

pub returns-then-used-eq0-clause-skips : goal.returns-then-used-eq0-clause-skips
returns-then-used-eq0-clause-skips g c = skips_on c.skips.invariant.skips c.split_at.ensures.back c.in_ok-used.ensures.skips

pub returns-in_err-used-clause-wants : goal.returns-in_err-used-clause-wants
returns-in_err-used-clause-wants g c =
    let p = err_from_is_err_and c.from_residual.result c.from_residual.ensures.1 in
    rw p.1
    (lacks_after c.args.decoder.now c.skips.decoder c.args.piece.now c.split_at.result.1.now c.skips.at
    (ap (λ (v : Seen). v.bytes) c.skips.invariant.skips.is_fed) c.split_at.ensures.back c.in_err-used.ensures.wants)
