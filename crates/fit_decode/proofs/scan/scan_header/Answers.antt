use Rattle.fit_decode.proofs.Common.{◌≡◌, ◌^◌, ◌<◌, ◌++◌, length, take, get_or, None, Some, Ok, refl, ap, sym, subst, ◌∙◌, arith, append-nil}
use Rattle.fit_decode.proofs.Common.{IsHeaderPart, RefusesByte}
use Rattle.fit_frame.specs.Beginning.{Seen, IsWholeHeader}
use Rattle.fit_decode.proofs.Pieces.{header_scanned, scanned_more}
use Rattle.fit_decode.proofs.scan.scan_header.Goals as goal

pub returns-in-Ok-Some : goal.returns-in-Ok-Some
returns-in-Ok-Some c =
    let answered = c.in-Ok-Some.is ∙ ap Ok c.in-Ok-Some.field-0-is in
    header_scanned c.args.reader.now.bytes c.args.piece.now c.loop-i.i c.loop-i.reader c.put.new.self c.in-Ok-Some.whole c.loop-i-test.true
    c.loop-i.invariant.is
    (rw answered at c.put.ensures.taken) (c.put.ensures.some c.in-Ok-Some.whole.0 c.in-Ok-Some.whole.1 answered)

pub loop-i-init : goal.loop-i-init
loop-i-init c =
    let all = sym (append-nil c.args.reader.now.bytes) in
    record {
      is = (λ i. record { bytes = c.args.reader.now.bytes; refusal = c.requires.fresh i }) ∙ ap (λ b. record { bytes = b; refusal = None }) all;
      begun = subst IsHeaderPart all c.requires.begun;
    }

pub put-requires : goal.put-requires
put-requires c = λ whole. c.loop-i.invariant.begun.1 (subst IsWholeHeader (ap (λ (s : Seen). s.bytes) c.loop-i.invariant.is) whole)

pub loop-i-preserved : goal.loop-i-preserved
loop-i-preserved c =
    let seen = scanned_more c.args.reader.now.bytes c.args.piece.now c.loop-i.i c.loop-i.reader c.put.new.self c.loop-i-test.true c.loop-i.invariant.is
    c.in-Ok-None.ensures.taken in
    record {
      is = seen;
      begun = subst IsHeaderPart (ap (λ (s : Seen). s.bytes) seen) (c.put.ensures.none (c.in-Ok-None.is ∙ ap Ok c.in-Ok-None.field-0-is));
    }

pub overflow_add-result : goal.overflow_add-result
overflow_add-result c =
    let short : length c.args.piece.now < 2 ^ 64 = assumption in
    omega (arith, c.loop-i-test.true, short)

pub returns-in-Err : goal.returns-in-Err
returns-in-Err c =
    let front = ap (λ (s : Seen). s.bytes) c.loop-i.invariant.is in
    let refused = c.put.ensures.refused c.in-Err.reason (ap (λ (s : Seen). s.refusal) c.loop-i.invariant.is) c.in-Err.is in (
      c.loop-i-test.true,
      refused.0 ∙ ap (λ b. record { bytes = b; refusal = Some c.in-Err.reason }) front,
      c.loop-i.invariant.begun,
      subst (λ b. RefusesByte b (get_or c.args.piece.now c.loop-i.i 0) c.in-Err.reason) front refused.1,
    )

pub returns : goal.returns
returns c =
    let front = c.args.reader.now.bytes in
    let piece = c.args.piece.now in
    let all : c.loop-i.i ≡ length piece = omega (arith, c.loop-i-test.false, c.loop-i.auto.i-end) in
    let whole = ap (λ n. front ++ take n piece) all in
    (refl, c.loop-i.invariant.is ∙ ap (λ b. record { bytes = b; refusal = None }) whole, subst IsHeaderPart whole c.loop-i.invariant.begun)
