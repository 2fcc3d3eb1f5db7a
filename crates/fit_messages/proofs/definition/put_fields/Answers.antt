use Rattle.std.proofs.Common.{◌∙◌, ◌+◌, ◌++◌, ap, sym, map, arith}
use Rattle.std.proofs.lemmas.List.{append-nil, take_all}
use Rattle.std.specs.Prelude.{sum_by}
use Rattle.fit_record.specs.declared.definition.FieldDef.{FieldDef}
use Rattle.fit_messages.specs.Blocks.{column, entries, entry, whole}
use Rattle.fit_messages.proofs.EntryFacts.{field_told, sum_taken}
use Rattle.fit_messages.proofs.definition.put_fields.Goals as goal

-- the field of a place past the end
abbrev none : FieldDef
none = record { number = 0; size = 0; code = 0 }

pub loop-field-preserved : goal.loop-field-preserved
loop-field-preserved c =
    let fields = c.args.fields.now in
    let k = c.loop-field.field-index in
    let bytes = c.loop-field.bytes.items in
    let end = c.loop-field.end in
    record {
      told = field_told c.args.global c.args.at fields k none c.args.bytes.now.items bytes c.put_entry.new.bytes.items end c.loop-field-test.true
          c.loop-field.invariant.told c.loop-field.invariant.far
          (c.in_ok-put_entry.ensures ∙ ap (λ column. bytes ++ entry end column) c.field_column.ensures.same);
      far = omega (
        arith,
        c.loop-field.invariant.far,
        sum_taken (λ (f : FieldDef). whole f.size) fields k none c.loop-field-test.true,
        c.whole-end.ensures.sum,
      );
      small = omega (arith, c.loop-field.invariant.small, c.whole-end.ensures.small);
    }

pub loop-field-init : goal.loop-field-init
loop-field-init c = record {
  told = sym (append-nil c.args.bytes.now.items);
  far = omega arith;
  small = omega (arith, c.requires.at);
}

pub returns-clause-end : goal.returns-clause-end
returns-clause-end c =
    let fields = c.args.fields.now in
    c.loop-field.invariant.far
    ∙ ap (λ l. c.args.at + sum_by (λ (f : FieldDef). whole f.size) l) (take_all c.loop-field.field-index fields (omega (arith, c.loop-field-test.false)))

pub returns-clause-entries : goal.returns-clause-entries
returns-clause-entries c =
    let fields = c.args.fields.now in
    c.loop-field.invariant.told
    ∙ ap (λ l. c.args.bytes.now.items ++ entries c.args.at (map (column c.args.global) l))
    (take_all c.loop-field.field-index fields (omega (arith, c.loop-field-test.false)))
