use Rattle.fit_record.proofs.Common.{sym, ◌∙◌, arith}
use Rattle.fit_record.proofs.RoomWalks.{left_out, not_here, here}
use Rattle.fit_record.proofs.environment.Env.others_have.Goals as goal
use Rattle.fit_record.proofs.environment.Env.others_have.Goals.{else-has_length_at-via-then-has_length_at+else-other-local}
use Rattle.fit_record.proofs.environment.Env.others_have.Goals.{else-has_length_at-via-else-has_length_at}

pub returns-then-other-local : goal.returns-then-other-local
returns-then-other-local g c =
    sym (here c.args.self.now.places c.args.local c.args.n c.loop-other.other (omega (arith, c.has_length_at.ensures.places)) c.if-other-local.true
    (sym c.has_length_at.ensures.value ∙ c.if-has_length_at.true))

pub loop-other-preserved : goal.loop-other-preserved
loop-other-preserved g c =
    let places = c.args.self.now.places in (
      elim c.else-has_length_at.branch [
        | else-has_length_at-via-then-has_length_at+else-other-local w ↦ left_out places c.args.local c.args.n c.loop-other.other
            (omega (arith, c.has_length_at.ensures.places)) w.if-other-local.false c.loop-other.invariant.0
        | else-has_length_at-via-else-has_length_at w ↦ not_here places c.args.local c.args.n c.loop-other.other (omega (arith, c.has_length_at.ensures.places))
            (sym c.has_length_at.ensures.value ∙ w.if-has_length_at.false) c.loop-other.invariant.0
      ],
      λ _. c.has_length_at.ensures.places,
    )

pub has_length_at-requires : goal.has_length_at-requires
has_length_at-requires g c = assumption
