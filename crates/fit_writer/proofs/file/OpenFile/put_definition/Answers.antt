use Rattle.std.proofs.Common.{◌∙◌, List, ℕ, ap, sym, subst}
use Rattle.fit_record.specs.declared.message.Record.TheVariants.{Define}
use Rattle.fit_writer.proofs.Grown.{grown_length, too_long}
use Rattle.fit_writer.specs.inner.Indices.{AreIndices}
use Rattle.fit_writer.specs.inner.OpenFiles.{AreData}
use Rattle.fit_writer.specs.Amounts.{latest_amounts}
use Rattle.fit_writer.proofs.file.OpenFile.put_definition.Goals as goal

pub returns-then-not-has_room-clause-refused : goal.returns-then-not-has_room-clause-refused
returns-then-not-has_room-clause-refused c =
    let size = grown_length c.args.self.now.stream (Define c.args.definition) c.as_slice.result.now c.as_slice-bytes.result.now
    (subst (λ (d : List ℕ). AreData d c.args.self.now.stream) (sym c.as_slice.ensures.value) c.requires.good.are_data)
    (c.as_slice-bytes.ensures.value ∙ c.in_ok-spell.ensures) in
    too_long c.has_room.result _ _ size c.if-not-has_room.true c.has_room.ensures.1

pub returns-clause-good : goal.returns-clause-good
returns-clause-good c = record {
  form = c.requires.good.form;
  are_data = c.add_record.ensures.are;
  told = c.requires.good.told ∙ ap latest_amounts (sym c.in_ok-add_record.ensures.ok);
  are_indices = subst (AreIndices c.args.self.now.indices) (sym c.in_ok-add_record.ensures.ok) c.requires.good.are_indices;
}
