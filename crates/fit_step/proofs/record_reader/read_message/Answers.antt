use Rattle.fit_step.proofs.Common.{sym, subst, Data, Ok, Some, arith, ◌+◌, ◌-◌, length, refl}
use Rattle.fit_record.specs.MessageBytes.{message_in}
use Rattle.std.proofs.lemmas.Result.{err_from_is_err_and}
use Rattle.fit_step.proofs.ReadBytes.{whole_at_front}
use Rattle.fit_step.specs.InProgress.{Reads}
use Rattle.fit_step.proofs.record_reader.read_message.Goals as goal

pub values-requires : goal.values-requires
values-requires g c = record { sound = c.in-Some.ensures.plain.sound; size = c.in-Some.ensures.plain.size }

pub overflow_cast-position : goal.overflow_cast-position
overflow_cast-position g c = omega (arith, c.in-Some.ensures.plain.left)

pub overflow_sub-position : goal.overflow_sub-position
overflow_sub-position g c = omega (arith, c.in-Some.ensures.plain.left)

pub returns : goal.returns
returns g c =
    let e = c.args.env.now in
    let p = c.args.position.now in
    let idle = c.args.in_progress.now in
    let m = c.in-Some.message in
    let told = c.in-Some.ensures.plain in
    let used = 1 + length m.body.now in
    record {
      reads = subst (λ v. Reads e p idle e (record p { room = p.room - used }) idle c.args.piece.now used (Ok (Some (Data v)))) (sym c.in_ok-values.ensures)
          (whole_at_front e e p idle c.args.piece.now (Data (message_in m)) used told.idle told.stands (sym told.learned));
      message = told.message;
      left = omega (arith, told.left);
      none = tt;
      err = tt;
      whole = c.in-Some.ensures.whole;
    }

pub returns-in_default : goal.returns-in_default
returns-in_default g c = record {
  reads = tt;
  message = tt;
  left = tt;
  none = refl;
  err = tt;
  whole = λ idle size has large. absurd (c.in_default.ensures.whole idle size has large);
}

pub returns-in_err-values : goal.returns-in_err-values
returns-in_err-values g c =
    let p = err_from_is_err_and c.from_residual.result c.from_residual.ensures.1 in
    rw p.1 (record { reads = tt; message = tt; left = tt; none = tt; err = refl; whole = λ idle size has large. tt })
