use Rattle.fit_step.proofs.Common.{arith, ap, length, state_at, sym, ◌∙◌}
use Rattle.fit_step.proofs.RecordsInProgress.{room_after, idle_stands, made_stands, kept_in_progress}
use Rattle.fit_step.proofs.record_reader.read_in_place.Goals as goal

pub read_kept-requires : goal.read_kept-requires
read_kept-requires g c =
    let e = c.args.env.now in
    let p = c.args.position.now in
    let o = c.args.in_progress.now in
    let (room, bytes, some, h) = c.requires in
    let k = kept_in_progress e room bytes p o h c.in-RecordHeader.is (λ none. let both = sym c.in-Some.is ∙ none in cc) in
    (assumption, (let total = k.total in let limit = k.limit in omega (arith, ap length k.partial, total, limit), (room, bytes, k)))

pub scan_bytes-requires : goal.scan_bytes-requires
scan_bytes-requires g c =
    let e = c.args.env.now in
    let p = c.args.position.now in
    let o = c.args.in_progress.now in
    let (room, bytes, some, h) = c.requires in
    (assumption, room_after e room bytes (state_at p o) (made_stands e room bytes p o h c.in_default.not-RecordHeader) some)

pub read_anew-requires : goal.read_anew-requires
read_anew-requires g c =
    let e = c.args.env.now in
    let p = c.args.position.now in
    let o = c.args.in_progress.now in
    let (room, bytes, some, h) = c.requires in
    (assumption, room_after e room bytes (state_at p o) (idle_stands e room bytes p o h c.in-None.is) some)
