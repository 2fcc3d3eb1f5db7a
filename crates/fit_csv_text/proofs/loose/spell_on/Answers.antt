use Rattle.std.proofs.Common.{◌<◌, arith, length}
use Rattle.std.proofs.lemmas.Result.{err_from_is_err_and}
use Rattle.fit_csv_text.proofs.PlainTexts.{some-left}
use Rattle.fit_csv_text.proofs.loose.spell_on.Goals as goal

pub loop-init : goal.loop-init
loop-init c = record {
  goes = λ text rows ends stands. stands;
  more = λ some. omega arith;
  few = λ fits. fits;
  lines = λ plain. plain;
}

pub loop-preserved : goal.loop-preserved
loop-preserved c =
    let some = some-left (length c.loop.left.now) c.is_empty.result c.is_empty.ensures c.if-is_empty.false in
    let few : length c.loop.written.items < c.args.many = omega (arith, c.len.ensures, c.if-len-many.false) in record {
      goes = λ text rows ends stands. c.in_ok-left.ensures.goes text rows ends (c.loop.invariant.goes text rows ends stands);
      more = λ rest. omega (arith, c.loop.invariant.more some, c.in_ok-left.ensures.more few rest);
      few = λ fits. c.in_ok-left.ensures.few (c.loop.invariant.few fits);
      lines = λ plain. c.in_ok-left.ensures.lines (c.loop.invariant.lines plain);
    }

pub returns-in_err-left-clause-room : goal.returns-in_err-left-clause-room
returns-in_err-left-clause-room c plain most =
    let p = err_from_is_err_and c.from_residual.result c.from_residual.ensures.1 in
    rw (p.1, p.2) (c.in_err-left.ensures.room (c.loop.invariant.lines plain) (omega arith) most)

pub returns-clause-many : goal.returns-clause-many
returns-clause-many c some = omega (arith, c.loop.invariant.more some, c.loop-test.false)

pub returns-then-is_empty-clause-goes : goal.returns-then-is_empty-clause-goes
returns-then-is_empty-clause-goes c = c.loop.invariant.goes

pub returns-then-is_empty-clause-few : goal.returns-then-is_empty-clause-few
returns-then-is_empty-clause-few c = c.loop.invariant.few

pub returns-clause-goes : goal.returns-clause-goes
returns-clause-goes c = c.loop.invariant.goes

pub returns-clause-few : goal.returns-clause-few
returns-clause-few c = c.loop.invariant.few
