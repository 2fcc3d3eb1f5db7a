use Rattle.std.proofs.Common.{◌∙◌, ◌+◌, ◌++◌, ap, ap₂, sym, arith, get_or}
use Rattle.std.proofs.lemmas.List.{append-nil, take_all}
use Rattle.std.specs.Prelude.{slice_get, sum_by}
use Rattle.fit_profile.specs.Described.{namings_at}
use Rattle.fit_record.specs.declared.definition.DevDef.{DevDef}
use Rattle.fit_messages.specs.Blocks.{dev_column, entries, whole}
use Rattle.fit_messages.specs.inner.Columns.{dev_columns}
use Rattle.fit_messages.proofs.EntryFacts.{dev_told, length-dev_columns, naming_parts, nothing, sum_taken}
use Rattle.fit_messages.proofs.definition.put_devs.Goals as goal

pub loop-place-preserved : goal.loop-place-preserved
loop-place-preserved c =
    let fields = c.args.fields.now in
    let coded = c.args.dev_codes.now in
    let namings = namings_at c.args.stream.now c.args.local in
    let k = c.loop-place.place in
    let bytes = c.loop-place.bytes.items in
    let column = dev_column (get_or fields k nothing) (get_or coded k 0) in
    record {
      told = dev_told c.args.at fields coded namings k c.args.bytes.now.items bytes c.put_entry.new.bytes.items c.loop-place.end _ c.loop-place-test.true
          c.requires.codes c.requires.namings c.loop-place.invariant.told c.loop-place.invariant.far
          (c.dev_column-column.ensures.same
          ∙ ap₂ (λ name unit. column (record { name = name; unit = unit })) c.dev_texts.ensures.name c.dev_texts.ensures.unit
          ∙ ap column (naming_parts (slice_get namings k)))
          c.in_ok-put_entry.ensures;
      far = omega (
        arith,
        c.loop-place.invariant.far,
        sum_taken (λ (f : DevDef). whole f.size) fields k nothing c.loop-place-test.true,
        c.whole-end.ensures.sum,
      );
      small = omega (arith, c.loop-place.invariant.small, c.whole-end.ensures.small);
    }

pub returns-clause-entries : goal.returns-clause-entries
returns-clause-entries c =
    let fields = c.args.fields.now in
    let coded = c.args.dev_codes.now in
    let namings = namings_at c.args.stream.now c.args.local in
    c.loop-place.invariant.told
    ∙ ap (λ columns. c.args.bytes.now.items ++ entries c.args.at columns)
    (take_all c.loop-place.place (dev_columns fields coded namings)
    (omega (arith, c.loop-place-test.false, length-dev_columns fields coded namings c.requires.codes c.requires.namings)))

pub loop-place-init : goal.loop-place-init
loop-place-init c = record {
  told = sym (append-nil c.args.bytes.now.items);
  far = omega arith;
  small = omega (arith, c.requires.at);
}

pub returns-clause-end : goal.returns-clause-end
returns-clause-end c =
    let fields = c.args.fields.now in
    c.loop-place.invariant.far
    ∙ ap (λ l. c.args.at + sum_by (λ (f : DevDef). whole f.size) l) (take_all c.loop-place.place fields (omega (arith, c.loop-place-test.false)))
