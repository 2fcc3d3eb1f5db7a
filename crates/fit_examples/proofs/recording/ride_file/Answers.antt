-- Each call that is good has written the bytes of its part of the file.
use Rattle.fit_examples.proofs.Common.{◌∷◌, ◌++◌, [], ap, arith, subst, take, ◌∙◌, err_from_is_err_and, header_bytes, Encoding, ride_records, refl}
use Rattle.std.proofs.Math.Seq.{take-length}
use Rattle.fit_examples.proofs.Holding.{Holds, is_recording, holds_more, next_message}
use Rattle.fit_examples.proofs.RideFaults.{end_fault, message_fault}
use Rattle.fit_examples.proofs.recording.ride_file.Goals as goal

pub loop-point-preserved : goal.loop-point-preserved
loop-point-preserved c =
    let points = c.args.points.now in
    let i = c.loop-point.point-index in
    let more = holds_more c.put.new.self.head c.in-Some.data_len (ride_records (take i points)) c.loop-point.encoder c.put-in-loop-point.new.self
    c.in-Ok-message.next c.loop-point.sink.held
    c.put-in-loop-point.new.sink.held c.loop-point.invariant c.in_ok-put-2.ensures.kept c.in_ok-put-2.ensures.spelled in
    let records = ap (λ r. ride_records (take i points) ++ r ∷ []) c.in-Ok-message.ensures.value ∙ next_message points i _ (omega arith) in
    subst (λ rs. Holds c.put.new.self.head c.in-Some.data_len rs c.put-in-loop-point.new.self c.put-in-loop-point.new.sink.held) records more

pub returns-clause-ok : goal.returns-clause-ok
returns-clause-ok c =
    let header = c.new-header.result in
    let form = c.new-header.ensures in
    let begun = c.in_ok-encoder.ensures.ok in
    let head = ap (λ (e : Encoding _). e.head)
    (c.in_ok-put.ensures.kept ∙ ap (λ (e : Encoding _). record e { records = e.records ++ c.in-Ok.first ∷ [] }) begun) in
    let all = ap (λ n. take n c.args.points.now) (omega arith) ∙ take-length c.args.points.now in
    let holds = subst (λ b. Holds b c.in-Some.data_len (ride_records (take c.loop-point.point-index c.args.points.now)) c.loop-point.encoder
    c.loop-point.sink.held) head c.loop-point.invariant in
    is_recording c.args.points.now header c.in-Some.data_len c.loop-point.encoder c.loop-point.sink.held c.into_inner.result.items c.finish.new.sink.held
    (form.size, form.protocol, form.profile, form.sum) c.in_ok-encoder.ensures.good
    (subst (λ ps. Holds (header_bytes header c.in-Some.data_len) c.in-Some.data_len (ride_records ps) c.loop-point.encoder c.loop-point.sink.held) all holds)
    c.in_ok-finish.ensures.whole c.in_ok-finish.ensures.spelled c.into_inner.ensures

pub returns-in_err-put-2-clause-err : goal.returns-in_err-put-2-clause-err
returns-in_err-put-2-clause-err c =
    let fault = message_fault c.args.points.now c.put.new.self.head c.in-Some.data_len c.loop-point.point-index _ c.loop-point.encoder c.loop-point.sink.held
    c.in-Ok-message.next c.in_err-put-2.field-0.0 _ _
    (omega arith) c.in-Some.ensures.some c.loop-point.invariant c.in-Ok-message.ensures.value c.in-Ok-message.ensures.fits c.in_err-put-2.ensures.refused in
    let p = err_from_is_err_and c.from_residual-in_err-put-2.result c.from_residual-in_err-put-2.ensures.1 in
    rw (p.1, p.2) fault

pub returns-in_err-finish-clause-err : goal.returns-in_err-finish-clause-err
returns-in_err-finish-clause-err c =
    let fault = end_fault c.args.points.now c.put.new.self.head c.in-Some.data_len c.loop-point.point-index c.loop-point.encoder c.loop-point.sink.held
    c.in_err-finish.field-0.0 _ _
    (omega arith) c.in-Some.ensures.some c.loop-point.invariant c.in_err-finish.ensures.refused in
    let p = err_from_is_err_and c.from_residual-in_err-finish.result c.from_residual-in_err-finish.ensures.1 in
    rw (p.1, p.2) fault

pub returns-in_default-clause-err : goal.returns-in_default-clause-err
returns-in_default-clause-err c = let over = c.in_default.ensures.none refl in (refl, omega arith, omega arith, omega arith)
