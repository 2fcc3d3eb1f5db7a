use Rattle.fit_examples.proofs.Common.{◌≡◌, Some, false, ap, subst, refl, length, err_from_is_err_and, slice_is_bytes, IsBytes-front}
use Rattle.fit_base.specs.Numbers.{IsBytes}
use Rattle.fit_decode.specs.Reads.{Channel}
use Rattle.fit_examples.proofs.RoundTrip.{front_fault}
use Rattle.fit_examples.proofs.round_trip.read_front.Goals as goal

pub returns-in_err-file-clause-memory : goal.returns-in_err-file-clause-memory
returns-in_err-file-clause-memory c = λ f b x input file.
    let low : IsBytes b = IsBytes-front b x (subst IsBytes input (slice_is_bytes c.args.bytes.now c.type_inv.bytes)) in
    let p = err_from_is_err_and c.from_residual.result c.from_residual.ensures.1 in
    let source : Channel = record { before = Some c.args.bytes.now; after = Some c.read_one.new.source.now; failed = false } in
    rw (p.1, p.2) (front_fault f (length b) x source c.in_err-file.field-0.0 refl (c.in_err-file.ensures.file f b x (ap Some input) low file))

pub returns-clause-file : goal.returns-clause-file
returns-clause-file c = λ f b x input file.
    let low : IsBytes b = IsBytes-front b x (subst IsBytes input (slice_is_bytes c.args.bytes.now c.type_inv.bytes)) in
    let given = c.in_ok-file.ensures.file f b x (ap Some input) low file in
    let left : c.read_one.new.source.now ≡ x = cc in
    (given.0, ap length left)
