use Rattle.std.proofs.Common.{List, ap, length, subst, sym, ◌≤◌, ◌+◌}
use Rattle.std.specs.Global.{Global}
use Rattle.fit_record.specs.declared.file.FitFile.{FitFile}
use Rattle.fit_record.specs.Files.{chain_limit}
use Rattle.fit_writer.proofs.Calls.{ended_few}
use Rattle.fit_writer.specs.Written.{Writing}
use Rattle.fit_writer.proofs.writer.MessageWriter.begin_file.Goals as goal

pub invariant_of-self : goal.invariant_of-self
invariant_of-self c = record {
  few = subst (λ (fs : List (FitFile Global)). length fs + 1 ≤ chain_limit) (ap (λ (w : Writing). w.files) (sym c.self.view_is))
      (ended_few c.args.self.now c.end_file.new.self.files c.in_ok-end_file.ensures.ok.0 (c.has_room.ensures.0 c.if-not-has_room.false));
  good = λ _. c.begin.ensures.good;
}
