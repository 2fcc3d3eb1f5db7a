use Rattle.fit_step.proofs.Common.{◌≡◌, ◌+◌, take, refl, ap, ◌∙◌, subst, arith, take-take, length, Learns, ◌≤◌, None}
use Rattle.fit_step.proofs.SkippedRecords.{skipped_after}
use Rattle.fit_step.proofs.skipping.skip_whole.Goals as goal

pub returns-clause-skips : goal.returns-clause-skips
returns-clause-skips g c =
    let s = c.skip_records-used in
    let piece = c.args.piece.now in
    let used = s.result.0 in
    let front = c.before_last_six-front in
    let large : used + 6 ≤ c.args.position.now.room = omega (arith, s.ensures.within, front.ensures.left) in
    let same : take used front.result.now ≡ take used piece =
    ap (take used) front.ensures.front ∙ take-take used (length front.result.now) piece s.ensures.within in
    let (records, learns, count) = s.ensures.records in
    let all = subst (λ y. Learns c.args.env.now s.new.env y records) same learns in
    (records, count, skipped_after c.args.env.now s.new.env c.args.position.now None piece used records refl large all)
