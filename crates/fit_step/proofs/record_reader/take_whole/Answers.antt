use Rattle.fit_step.proofs.Common.{Ok, Some, ◌-◌, subst, arith, refl}
use Rattle.fit_step.proofs.ReadBytes.{whole_at_front}
use Rattle.fit_step.specs.InProgress.{Reads}
use Rattle.fit_step.proofs.record_reader.take_whole.Goals as goal

pub whole_record-requires : goal.whole_record-requires
whole_record-requires g c = (assumption, c.requires.0)

pub learn-requires : goal.learn-requires
learn-requires g c = (assumption, c.in_ok-record.ensures.spelled.0)

pub overflow_cast-position : goal.overflow_cast-position
overflow_cast-position g c = omega (arith, c.in_ok-record.ensures.enough)

pub overflow_sub-position : goal.overflow_sub-position
overflow_sub-position g c = omega (arith, c.in_ok-record.ensures.enough)

pub returns : goal.returns
returns g c =
    let e = c.args.env.now in
    let p = c.args.position.now in
    let idle = c.args.in_progress.now in
    let read = c.in_ok-record in
    let after = c.learn.new.self in
    record {
      within = read.ensures.within;
      told = subst (λ o. Reads e p idle after (record p { room = p.room - read.used }) o c.args.piece.now read.used (Ok (Some read.record))) c.in-None.is
          (whole_at_front e after p idle c.args.piece.now read.record read.used c.in-None.is read.ensures c.in-Ok.ensures.ok);
      none = tt;
    }

pub returns-in-Some : goal.returns-in-Some
returns-in-Some g c = record { within = tt; told = tt; none = (refl, refl) }

pub returns-in-Err : goal.returns-in-Err
returns-in-Err g c = record { within = tt; told = tt; none = (c.in-Err.ensures.err, refl) }

pub returns-in_err-record : goal.returns-in_err-record
returns-in_err-record g c = rw c.from_residual.ensures (record { within = tt; told = tt; none = (refl, refl) })
