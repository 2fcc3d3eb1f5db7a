use Rattle.std.proofs.Common.{◌∙◌, List, length, ap, ap₂, sym, arith}
use Rattle.fit_record.specs.declared.definition.FieldDef.{FieldDef}
use Rattle.fit_from_messages.specs.declared.slot.Slot.{Slot}
use Rattle.fit_writer.proofs.IndexFacts.{fields_within, said_index, said_none}
use Rattle.fit_writer.specs.inner.Indices.{third_byte}
use Rattle.fit_writer.specs.inner.Places.{form_of}
use Rattle.fit_writer.proofs.indices.index_in.Goals as goal

pub third_byte-requires-clause-many : goal.third_byte-requires-clause-many
third_byte-requires-clause-many c =
    omega (arith, ap length c.as_slice.ensures, ap length c.as_slice-2.ensures, fields_within c.args.lone.now c.requires.lone)

pub returns : goal.returns
returns c =
    c.third_byte.ensures
    ∙ ap₂ (λ (fs : List FieldDef) (ss : List Slot). third_byte c.args.block.now fs ss) c.as_slice.ensures c.as_slice-2.ensures
    ∙ sym (said_index (form_of c.args.lone.now) c.args.block.now c.if-lone-ne-DEVELOPER_DATA_ID.false (fields_within c.args.lone.now c.requires.lone))

pub returns-then-lone-ne-DEVELOPER_DATA_ID : goal.returns-then-lone-ne-DEVELOPER_DATA_ID
returns-then-lone-ne-DEVELOPER_DATA_ID c = sym (said_none (form_of c.args.lone.now) c.args.block.now c.if-lone-ne-DEVELOPER_DATA_ID.true)
