use Rattle.std.proofs.Common.{rules, replicate, false, subst, sym}
use Rattle.fit_writer.proofs.IndexFacts.{no_indices}
use Rattle.fit_writer.specs.inner.Indices.{AreIndices}
use Rattle.fit_writer.proofs.file.OpenFile.begin.Goals as goal

pub returns-clause-good : goal.returns-clause-good
returns-clause-good c = record {
  form = c.requires;
  are_data = search rules;
  told = search rules;
  are_indices = subst (AreIndices (replicate 256 false)) (sym c.begin_file.ensures) no_indices;
}
