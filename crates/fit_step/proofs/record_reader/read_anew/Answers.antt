use Rattle.fit_step.proofs.Common.{state_at, StandsWithRoom, refl}
use Rattle.fit_step.proofs.ReadBytes.{from_old}
use Rattle.fit_step.proofs.record_reader.read_anew.Goals as goal

pub scan_bytes-requires : goal.scan_bytes-requires
scan_bytes-requires g c =
    let same = c.in-None.ensures.none in
    let here : StandsWithRoom c.args.env.now (state_at c.args.position.now c.args.in_progress.now) = c.requires in
    (assumption, rw (same.0, same.1) here)

pub returns-in-Some : goal.returns-in-Some
returns-in-Some g c = record { within = c.in-Some.ensures.within; reads = (c.in-Some.record, refl, c.in-Some.ensures.told) }

pub returns-in-None : goal.returns-in-None
returns-in-None g c =
    let same = c.in-None.ensures.none in
    let scan = c.scan_bytes in
    record {
      within = scan.ensures.within;
      reads = from_old c.take_whole.new.env c.args.env.now scan.new.env c.take_whole.new.position c.args.position.now scan.new.position
          c.args.in_progress.now scan.new.in_progress c.args.piece.now scan.result.0 scan.result.1 same.0 same.1 scan.ensures.reads;
    }
