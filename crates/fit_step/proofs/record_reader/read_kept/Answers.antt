use Rattle.fit_step.proofs.Common.{◌≡◌, ◌+◌, ◌∙◌, sym, ap, subst, arith, length, None, Ok, Err, NoMemory}
use Rattle.fit_step.proofs.Common.{Refused, true, false, slice_is_bytes, eq-eqb, eqb-true}
use Rattle.fit_step.specs.InProgress.{ReadsInPlace}
use Rattle.fit_step.proofs.KeptRead.{known_still, made_now, known_starved, no_whole, none_refused, still_kept, read_on, kept_starves, none_read}
use Rattle.fit_step.proofs.record_reader.read_kept.Goals as goal

pub returns-then-is_empty-clause-reads : goal.returns-then-is_empty-clause-reads
returns-then-is_empty-clause-reads g c =
    let piece = c.args.piece.now in
    none_read c.args.env.now c.args.position.now c.args.in_progress.now piece (eqb-true (length piece) 0 (sym c.is_empty.ensures ∙ c.if-is_empty.true))

pub unreachable-requires : goal.unreachable-requires
unreachable-requires g c =
    let e = c.args.env.now in
    let p = c.args.position.now in
    let o = c.args.in_progress.now in
    let q = c.new-after.result in
    let kept = c.as_slice-kept.result.now in
    let same = c.as_slice-kept.ensures in
    let all : q.room ≡ p.room + length p.partial = c.new-after.ensures.room ∙ ap (λ l. p.room + length l) same in
    let (room, bytes, k) = c.requires.kept in
    let first = c.scan_bytes-answer in
    let n = first.new in
    let is : first.result.1 ≡ Ok true = c.in-Ok-true.is ∙ ap Ok c.in-Ok-true.field-0-test in
    no_whole e p o room bytes k q c.new-after.ensures.begins all n.env n.position n.in_progress kept same first.result.0
    (subst (ReadsInPlace e q None n.env n.position n.in_progress kept first.result.0) is first.ensures.reads)

pub unreachable-requires-in-Err-Refused : goal.unreachable-requires-in-Err-Refused
unreachable-requires-in-Err-Refused g c =
    let e = c.args.env.now in
    let p = c.args.position.now in
    let o = c.args.in_progress.now in
    let q = c.new-after.result in
    let kept = c.as_slice-kept.result.now in
    let same = c.as_slice-kept.ensures in
    let all : q.room ≡ p.room + length p.partial = c.new-after.ensures.room ∙ ap (λ l. p.room + length l) same in
    let (room, bytes, k) = c.requires.kept in
    let first = c.scan_bytes-answer in
    let n = first.new in
    let reason = c.in-Err-Refused.field-0-0 in
    let is : first.result.1 ≡ Err (Refused reason) = c.in-Err-Refused.is ∙ ap Err (rw c.in-Err-Refused.is at c.in-Err-Refused.field-0-is) in
    none_refused e p o room bytes k q c.new-after.ensures.begins all n.env n.position n.in_progress kept same first.result.0 reason
    (subst (ReadsInPlace e q None n.env n.position n.in_progress kept first.result.0) is first.ensures.reads)

pub scan_bytes-requires : goal.scan_bytes-requires
scan_bytes-requires g c = (assumption, c.scan_bytes-answer.ensures.stands (c.in-Ok-false.is ∙ ap Ok c.in-Ok-false.field-0-test))

pub returns-in-Ok-false-clause-reads : goal.returns-in-Ok-false-clause-reads
returns-in-Ok-false-clause-reads g c =
    let e = c.args.env.now in
    let p = c.args.position.now in
    let o = c.args.in_progress.now in
    let q = c.new-after.result in
    let kept = c.as_slice-kept.result.now in
    let same = c.as_slice-kept.ensures in
    let all : q.room ≡ p.room + length p.partial = c.new-after.ensures.room ∙ ap (λ l. p.room + length l) same in
    let (room, bytes, k) = c.requires.kept in
    let first = c.scan_bytes-answer in
    let n = first.new in
    let begins = c.new-after.ensures.begins in
    let is : first.result.1 ≡ Ok false = c.in-Ok-false.is ∙ ap Ok c.in-Ok-false.field-0-test in
    let reads = subst (ReadsInPlace e q None n.env n.position n.in_progress kept first.result.0) is first.ensures.reads in
    let s = c.scan_bytes in
    read_on e n.env s.new.env p n.position s.new.position o n.in_progress s.new.in_progress c.args.piece.now s.result.0 s.result.1
    (known_still e p o room bytes k q begins all n.env n.position n.in_progress kept same first.result.0 reads)
    (λ other others h. made_now e p o other others (still_kept e p o room other bytes others k h) q begins all n.env n.position n.in_progress kept same
    first.result.0 reads)
    s.ensures.reads

pub returns-in-Err-NoMemory-clause-reads : goal.returns-in-Err-NoMemory-clause-reads
returns-in-Err-NoMemory-clause-reads g c =
    let e = c.args.env.now in
    let p = c.args.position.now in
    let o = c.args.in_progress.now in
    let q = c.new-after.result in
    let kept = c.as_slice-kept.result.now in
    let same = c.as_slice-kept.ensures in
    let all : q.room ≡ p.room + length p.partial = c.new-after.ensures.room ∙ ap (λ l. p.room + length l) same in
    let (room, bytes, k) = c.requires.kept in
    let first = c.scan_bytes-answer in
    let n = first.new in
    let piece = c.args.piece.now in
    let is : first.result.1 ≡ Err NoMemory = c.in-Err-NoMemory.is ∙ ap Err (rw c.in-Err-NoMemory.is at c.in-Err-NoMemory.field-0-is) in
    let reads = subst (ReadsInPlace e q None n.env n.position n.in_progress kept first.result.0) is first.ensures.reads in
    let some : length piece ≡ 0 → ⊥ = λ none. cc (sym c.if-is_empty.false ∙ c.is_empty.ensures ∙ eq-eqb (length piece) 0 none) in
    kept_starves e n.env p o piece room bytes k (slice_is_bytes piece c.type_inv.piece) (omega (arith, some))
    (known_starved e p o room bytes k q c.new-after.ensures.begins all n.env n.position n.in_progress kept same first.result.0 reads)
