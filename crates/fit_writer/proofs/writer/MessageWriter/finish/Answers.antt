use Rattle.std.proofs.Common.{ap}
use Rattle.fit_decode.specs.Reads.{channel}
use Rattle.fit_writer.proofs.Calls.{chain_is, ended_ok, finish_ok, finish_write, some_files}
use Rattle.fit_writer.specs.Written.{EndsFile, Writing}
use Rattle.fit_writer.proofs.writer.MessageWriter.finish.Goals as goal
use Rattle.fit_writer.proofs.writer.MessageWriter.finish.Goals.{in-Ok, in-Err}

pub returns-clause-ok : goal.returns-clause-ok
returns-clause-ok g c =
    let sink = channel g.K.Sink.contents g.K.Sink.has_failed c.args.sink.now c.write.new.sink in
    let ends = ended_ok (EndsFile c.args.self.now c.end_file.new.self) c.end_file.result c.is_err.result c.is_err.ensures.value c.if-is_err.false
    c.end_file.ensures.ok in
    let chain = chain_is c.self.inside.files _ c.self.invariant.few (some_files c.self.inside.files c.is_empty.result c.if-is_empty.false
    c.is_empty.ensures.1) c.write.ensures.whole in
    let same = ap (λ (w : Writing). w.files) c.self.view_is in
    elim c.match-write.branch [
      | in-Ok w ↦ rw w.result-is (finish_ok c.args.self.now c.end_file.new.self sink c.self.inside.files same ends chain w.in-Ok.ensures.ok
          w.in-Ok.ensures.works)
      | in-Err w ↦ rw w.result-is tt
    ]

pub returns-clause-err : goal.returns-clause-err
returns-clause-err g c =
    let sink = channel g.K.Sink.contents g.K.Sink.has_failed c.args.sink.now c.write.new.sink in
    let ends = ended_ok (EndsFile c.args.self.now c.end_file.new.self) c.end_file.result c.is_err.result c.is_err.ensures.value c.if-is_err.false
    c.end_file.ensures.ok in
    let chain = chain_is c.self.inside.files _ c.self.invariant.few (some_files c.self.inside.files c.is_empty.result c.if-is_empty.false
    c.is_empty.ensures.1) c.write.ensures.whole in
    let same = ap (λ (w : Writing). w.files) c.self.view_is in
    elim c.match-write.branch [
      | in-Ok w ↦ rw w.result-is tt
      | in-Err w ↦ rw w.result-is
          (finish_write c.args.self.now c.end_file.new.self sink c.self.inside.files w.in-Err.written same ends chain w.in-Err.ensures.err)
    ]
