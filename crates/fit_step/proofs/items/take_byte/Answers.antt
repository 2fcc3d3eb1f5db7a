use Rattle.fit_step.proofs.Common.{[], ◌∷◌, ap, arith, length, length-append, refl}
use Rattle.std.proofs.lemmas.Result.{err_from_is_err_and}
use Rattle.fit_step.proofs.items.take_byte.Goals as goal

pub returns-then-len-field-clause-err : goal.returns-then-len-field-clause-err
returns-then-len-field-clause-err g c = tt

pub returns-then-len-field-clause-free : goal.returns-then-len-field-clause-free
returns-then-len-field-clause-free g c = λ _. refl

pub returns-clause-err : goal.returns-clause-err
returns-clause-err g c = tt

pub returns-clause-free : goal.returns-clause-free
returns-clause-free g c = λ _. refl

pub returns-in_err-add_number : goal.returns-in_err-add_number
returns-in_err-add_number g c =
    let p = err_from_is_err_and c.from_residual.result c.from_residual.ensures.1 in
    let long = length-append c.args.partial.now (c.args.byte ∷ []) in
    rw p.1 (record {
      ok = tt;
      err = (c.in_err-add_number.ensures.err, refl);
      free = λ short. absurd (omega (arith, short, long, ap length c.with-bytes.ensures, c.len.ensures.length, c.if-len-field.false));
    })
