use Rattle.fit_decode.proofs.Common.{refl, ap}
use Rattle.fit_decode.proofs.Placed.{placed_fed}
use Rattle.fit_step.proofs.ReadBytes.{tells_more, tells_stop, tells_in_place}
use Rattle.fit_decode.proofs.section.Stage.feed_data.Goals as goal

pub returns-in-Ok-false : goal.returns-in-Ok-false
returns-in-Ok-false g c = λ head.
    let read = c.read_in_place-used in (
      tells_more c.args.env.now c.args.env.now read.new.env c.args.position.now c.args.position.now read.new.position c.args.in_progress.now
          read.new.in_progress c.args.piece.now read.result.0 read.result.1 read.ensures.reads c.in-Ok-false.field-0 c.in-Ok-false.is
          c.in-Ok-false.field-0-test,
      c.cover.ensures,
      refl,
    )

pub returns-in-Ok-true : goal.returns-in-Ok-true
returns-in-Ok-true g c = λ head.
    let read = c.read_in_place-used in
    placed_fed c.args.self.now c.args.env.now c.args.position.now c.args.in_progress.now c.args.sum.now _ read.new.env read.new.position
    read.new.in_progress c.cover.new.sum c.args.piece.now read.result.0
    (tells_in_place c.args.env.now c.args.env.now read.new.env c.args.position.now c.args.position.now read.new.position c.args.in_progress.now
    read.new.in_progress c.args.piece.now read.result.0 read.result.1 read.ensures.reads c.in-Ok-true.field-0 c.in-Ok-true.is c.in-Ok-true.field-0-test)
    c.cover.ensures
    (ap (λ s. record c.args.self.now { section = s }) c.section_of-self.ensures) head

pub returns-in-Err : goal.returns-in-Err
returns-in-Err g c = λ head.
    let read = c.read_in_place-used in (
      tells_stop c.args.env.now c.args.env.now read.new.env c.args.position.now c.args.position.now read.new.position c.args.in_progress.now
          read.new.in_progress c.args.piece.now read.result.0 read.result.1 read.ensures.reads c.in-Err.stop c.in-Err.is,
      c.cover.ensures,
      refl,
    )
