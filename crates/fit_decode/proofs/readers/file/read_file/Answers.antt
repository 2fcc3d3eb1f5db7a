-- The last turn's answer is the reading's.
use Rattle.fit_decode.proofs.Common.{refl, ap, arith, length, length-append}
use Rattle.fit_decode.specs.Answers.{Seen}
use Rattle.fit_decode.proofs.FileRead.{stands_before, eaten_nothing, eaten_more, file_ended, file_stopped, goes_on_standing, fewer_left}
use Rattle.fit_decode.proofs.readers.file.read_file.Goals as goal

pub reading-init : goal.reading-init
reading-init g c = record {
  fresh = c.requires.fresh;
  viable = c.requires.viable;
  counted = c.requires.counted;
  tally = refl;
  eaten = eaten_nothing _ _ c.args.decoder.now c.requires.fresh;
  stands = λ files come. rw c.new-records.ensures (stands_before files _ come);
}

pub reading-preserved : goal.reading-preserved
reading-preserved g c =
    let files = c.requires.whole.0 in
    let t = rw c.in-Ok-false.field-0-test at (c.in-Ok-false.ensures.turned files (c.reading.invariant.stands files c.requires.whole.1)) in
    record {
      fresh = ap (λ (v : Seen). v.refusal) t.told.1;
      viable = c.in-Ok-false.ensures.viable;
      counted = omega (
        arith,
        c.in-Ok-false.ensures.counted,
        ap length t.noted,
        length-append c.reading.taken.items t.got,
        ap (λ (v : Seen). length v.bytes) t.told.1,
        length-append c.reading.decoder.bytes t.got,
        c.reading.invariant.counted,
      );
      tally = omega (arith, c.in-Ok-false.ensures.counted, c.reading.invariant.tally);
      eaten = eaten_more files _ _ _ _ _ _ _ _ c.reading.decoder c.turn.new.decoder c.turn.new.head c.turn.new.records c.reading.invariant.eaten t;
      stands = λ fs come. goes_on_standing fs _ _ _ _ _ _ c.turn.new.decoder _ _
          (rw c.in-Ok-false.field-0-test at (c.in-Ok-false.ensures.turned fs (c.reading.invariant.stands fs come)));
    }

pub reading-smaller : goal.reading-smaller
reading-smaller g c =
    let files = c.requires.whole.0 in
    let t = rw c.in-Ok-false.field-0-test at (c.in-Ok-false.ensures.turned files (c.reading.invariant.stands files c.requires.whole.1)) in
    fewer_left g.row.A.Denot c.reading.decoder.bytes c.turn.new.decoder.bytes t.got c.reading.invariant.viable t.told.0 (ap (λ (v : Seen). v.bytes) t.told.1)

pub returns-in-Some-clause-read : goal.returns-in-Some-clause-read
returns-in-Some-clause-read g c = λ files come.
    let t = rw c.in-Ok-true.field-0-test at (c.in-Ok-true.ensures.turned files (c.reading.invariant.stands files come)) in
    file_ended files _ _ _ _ _ _ _ _ c.reading.decoder c.turn.new.decoder c.turn.new.head c.turn.new.records c.reading.invariant.eaten c.in-Some.header
    c.in-Some.is t

pub unreachable-requires : goal.unreachable-requires
unreachable-requires g c =
    let files = c.requires.whole.0 in
    let t = rw c.in-Ok-true.field-0-test at (c.in-Ok-true.ensures.turned files (c.reading.invariant.stands files c.requires.whole.1)) in
    let said = t.told.2 in
    let none = c.in-None.is in
    cc

pub returns-in-Err-clause-read : goal.returns-in-Err-clause-read
returns-in-Err-clause-read g c = λ files come.
    file_stopped files _ _ _ _ _ _ _ _ c.reading.decoder c.turn.new.decoder c.turn.new.head c.turn.new.records c.reading.invariant.eaten c.in-Err.fault
    (c.in-Err.ensures.turned files (c.reading.invariant.stands files come))

pub turn-requires : goal.turn-requires
turn-requires g c = (assumption, (c.reading.invariant.fresh, (c.reading.invariant.viable, c.reading.invariant.counted)))

pub returns-in-Err-clause-counted : goal.returns-in-Err-clause-counted
returns-in-Err-clause-counted g c = omega (arith, c.in-Err.ensures.counted, c.reading.invariant.tally)

pub returns-in-Err-clause-viable : goal.returns-in-Err-clause-viable
returns-in-Err-clause-viable g c = c.in-Err.ensures.viable

pub returns-in-Some-clause-counted : goal.returns-in-Some-clause-counted
returns-in-Some-clause-counted g c = omega (arith, c.in-Ok-true.ensures.counted, c.reading.invariant.tally)

pub returns-in-Some-clause-viable : goal.returns-in-Some-clause-viable
returns-in-Some-clause-viable g c = c.in-Ok-true.ensures.viable
