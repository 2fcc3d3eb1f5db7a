use Rattle.fit_step.proofs.Common.{refl, arith, values_of, tests_of}
use Rattle.fit_step.proofs.BytesInsideNumbers.{inside_field, inside_dev}
use Rattle.fit_step.proofs.inside.take_inside.Goals as goal
use Rattle.fit_step.proofs.inside.take_inside.Goals.{in-FieldItems, in-DevItems}

pub returns-clause-taken : goal.returns-clause-taken
returns-clause-taken g c = λ e _.
    let p = c.args.position.now in
    let is = c.if-not-is_message.ensures refl in
    elim c.match-position.branch [
      | in-FieldItems w ↦
          let k = w.ends_no_number.ensures w.if-ends_no_number.true in
          inside_field e (tests_of e) p c.args.in_progress.now (values_of c.args.in_progress.now) c.args.byte is c.match-position.next c.push.new.self
          c.push.ensures w.in-FieldItems.place w.in-FieldItems.width w.in-FieldItems.left w.in-FieldItems.is w.next-is (omega (arith, k.2))
          (omega (arith, k.1, c.len-count.ensures.length))
      | in-DevItems w ↦
          let k = w.if-ends_no_number-2.ensures refl in
          inside_dev e (tests_of e) p c.args.in_progress.now (values_of c.args.in_progress.now) c.args.byte is c.match-position.next c.push.new.self
          c.push.ensures w.in-DevItems.place w.in-DevItems.width w.in-DevItems.left w.in-DevItems.is w.next-is (omega (arith, k.2))
          (omega (arith, k.1, c.len-count.ensures.length))
    ]
