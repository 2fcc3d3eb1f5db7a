use Rattle.std.proofs.Common.{◌++◌, List, ℕ, arith, subst, sym, append-nil}
use Rattle.std.proofs.lemmas.List.{length-take}
use Rattle.std.proofs.lemmas.Result.{err_from_is_err_and}
use Rattle.fit_csv_text.specs.inner.Loose.{StandsFor}
use Rattle.fit_csv_text.proofs.loose.take_short.Goals as goal

pub returns-in_err-put-clause-room : goal.returns-in_err-put-clause-room
returns-in_err-put-clause-room c fits =
    let p = err_from_is_err_and c.from_residual.result c.from_residual.ensures.1 in
    rw (p.1, p.2) (c.in_err-put.ensures.room (omega (arith, fits, length-take c.loop-at-test.at c.loop-at-test.sheet, c.loop-at-test.array_long)))

pub loop-at-init : goal.loop-at-init
loop-at-init c = record {
  place = omega arith;
  goes = λ text rows ends stands. subst (λ (w : List ℕ). StandsFor text c.args.text.now (rows ++ w)) (sym (append-nil c.args.written.now.items)) stands;
  lines = λ plain. plain;
}
