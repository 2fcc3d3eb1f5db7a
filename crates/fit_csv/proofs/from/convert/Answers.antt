use Rattle.fit_csv.proofs.Common.{Err, inr, refl, sym, subst, err_from_is_err_and, channel, read_out, Answers, CsvFault}
use Rattle.std.proofs.Common.{arith, rules}
use Rattle.fit_csv.proofs.Unwritten.{from-fault, from-judged, from-text}
use Rattle.fit_csv.proofs.from.convert.Goals as goal

pub returns-then-text-gt-MOST-clause-answers : goal.returns-then-text-gt-MOST-clause-answers
returns-then-text-gt-MOST-clause-answers g c = inr (omega arith)

pub returns-in_err-files-clause-answers : goal.returns-in_err-files-clause-answers
returns-in_err-files-clause-answers g c =
    let p = err_from_is_err_and c.from_residual.result c.from_residual.ensures.1 in
    let sink = channel g.K.Sink.contents g.K.Sink.has_failed c.args.sink.now c.args.sink.now in
    rw (p.1, p.2) (from-judged c.args.text.now (read_out c.args.text.now) sink c.in_err-files.field-0.0 (omega arith) (refl, refl) c.in_err-files.ensures.err)

pub returns-in-Ok-clause-answers : goal.returns-in-Ok-clause-answers
returns-in-Ok-clause-answers g c =
    let text = c.args.text.now in
    let sink = channel g.K.Sink.contents g.K.Sink.has_failed c.args.sink.now c.write_spelled.new.sink in
    from-text c.faults_are_exact.ensures text c.in_ok-files.files (omega arith) c.in_ok-files.ensures.ok (read_out text) sink (refl, refl)
    c.in-Ok.ensures.ok c.in-Ok.ensures.spelled c.in-Ok.ensures.works

pub returns-clause-answers : goal.returns-clause-answers
returns-clause-answers g c =
    let text = c.args.text.now in
    let sink = channel g.K.Sink.contents g.K.Sink.has_failed c.args.sink.now c.write_spelled.new.sink in
    let given = from-fault c.faults_are_exact.ensures text c.in_ok-files.files (omega arith) c.in_ok-files.ensures.ok (read_out text) sink (refl, refl)
    c.in-Err.fault c.in-Err.ensures.refused c.in-Err.ensures.written_of_good c.in-Err.ensures.written in
    subst (λ (fault : CsvFault). Answers text (read_out text) sink (Err fault)) (sym c.from_fault.ensures) given

pub returns-clause-unchanged : goal.returns-clause-unchanged
returns-clause-unchanged g c = search rules
