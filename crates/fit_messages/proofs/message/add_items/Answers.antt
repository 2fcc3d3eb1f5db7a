use Rattle.std.proofs.Common.{◌∙◌, ◌++◌, ap, ap₂, append_assoc, arith, drop, length, ℕ}
use Rattle.std.proofs.lemmas.List.{length-drop}
use Rattle.std.proofs.lemmas.List.Sums.{sum_by-append}
use Rattle.std.specs.Global.{Global}
use Rattle.std.specs.Prelude.{flat_map}
use Rattle.fit_record.specs.ReadMessages.{fields_from}
use Rattle.fit_record.specs.Records.{dev_layout, layout, sizes}
use Rattle.fit_messages.specs.Blocks.{slot}
use Rattle.fit_messages.specs.inner.Sheets.{with_sheet}
use Rattle.fit_messages.proofs.message.add_items.Goals as goal

pub add_fields-requires-clause-size : goal.add_fields-requires-clause-size
add_fields-requires-clause-size c =
    let p = c.args.defined.now in
    omega (arith, c.requires.within, sum_by-append (λ (f : ℕ × ℕ). f.1) (layout p) (dev_layout p))

pub add_all_read-requires-clause-size : goal.add_all_read-requires-clause-size
add_all_read-requires-clause-size c =
    let p = c.args.defined.now in
    let bytes = c.args.bytes.now in
    omega (
      arith,
      ap sizes c.dev_layout-dev_layout.ensures.shapes,
      ap length c.in_ok-at.ensures.rest ∙ length-drop (sizes (layout p)) bytes,
      c.requires.within,
      sum_by-append (λ (f : ℕ × ℕ). f.1) (layout p) (dev_layout p),
    )

pub returns-clause-text : goal.returns-clause-text
returns-clause-text c =
    let p = c.args.defined.now in
    let o = p.definition.order in
    let bytes = c.args.bytes.now in
    let rest = drop (sizes (layout p)) bytes in
    let before = with_sheet c.args.rest.now.items c.args.sheet.now c.args.start in
    let middle = with_sheet c.add_fields.new.rest.items c.add_fields.new.sheet c.in_ok-at.at in
    c.in_ok-at-2.ensures.text
    ∙ ap₂ (λ l b. middle ++ flat_map slot (fields_from {A = Global} o l b)) c.dev_layout-dev_layout.ensures.shapes c.in_ok-at.ensures.rest
    ∙ ap (λ b. b ++ flat_map slot (fields_from {A = Global} o (dev_layout p) rest)) c.in_ok-at.ensures.text
    ∙ append_assoc before (flat_map slot (fields_from {A = Global} o (layout p) bytes)) (flat_map slot (fields_from {A = Global} o (dev_layout p) rest))
