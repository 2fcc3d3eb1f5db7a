use Rattle.std.proofs.Common.{length}
use Rattle.fit_writer.specs.inner.Found.{IsFoundOnce}
use Rattle.fit_writer.specs.inner.OpenFiles.{IsGoodOpenFile}
use Rattle.fit_writer.specs.inner.Places.{form_of}
use Rattle.fit_writer.specs.inner.Runs.{HasRunInto}
use Rattle.fit_writer.proofs.run.put_run.Given as goal

abbrev pub invariant-loop-rest : goal.invariant-loop-rest
invariant-loop-rest l = HasRunInto l.fn.file l.file (form_of l.lone) l.first.has l.blocks l.count l.accumulated l.rest × IsGoodOpenFile l.file
    × IsFoundOnce l.file.stream (form_of l.lone) l.found

abbrev pub decreases-loop-rest : goal.decreases-loop-rest
decreases-loop-rest l = length l.rest
