use Rattle.std.proofs.Common.{◌≡◌, ◌∙◌, ◌++◌, ap, arith, drop, subst, sym, ℕ}
use Rattle.std.proofs.lemmas.List.Sums.{sum_by-append}
use Rattle.std.specs.Global.{Global}
use Rattle.std.specs.Prelude.{IfOk, flat_map}
use Rattle.fit_record.specs.ReadMessages.{fields_from}
use Rattle.fit_record.specs.Records.{dev_layout, layout, sizes}
use Rattle.fit_messages.proofs.SheetFacts.{more_written}
use Rattle.fit_messages.specs.Blocks.{slot}
use Rattle.fit_messages.specs.inner.Sheets.{AreLone, with_sheet}
use Rattle.fit_messages.proofs.message.add_fields.Goals as goal

pub write_lone-requires-clause-room : goal.write_lone-requires-clause-room
write_lone-requires-clause-room c = omega (arith, c.requires.place, c.are_quick.ensures.few c.if-are_quick.true)

pub write_lone-requires-clause-lone : goal.write_lone-requires-clause-lone
write_lone-requires-clause-lone c =
    subst AreLone (sym c.layout-layout.ensures.shapes) (c.requires.quick (c.are_quick.ensures.quick c.if-are_quick.true)).0

pub write_lone-requires-clause-more : goal.write_lone-requires-clause-more
write_lone-requires-clause-more c =
    let p = c.args.defined.now in
    omega (
      arith,
      ap sizes c.layout-layout.ensures.shapes,
      (c.requires.quick (c.are_quick.ensures.quick c.if-are_quick.true)).1,
      sum_by-append (λ (f : ℕ × ℕ). f.1) (layout p) (dev_layout p),
    )

pub returns-then-are_quick-clause-text : goal.returns-then-are_quick-clause-text
returns-then-are_quick-clause-text c =
    let o = c.args.defined.now.definition.order in
    let bytes = c.args.bytes.now in
    let rest = c.args.rest.now.items in
    let sheet = c.args.sheet.now in
    more_written rest sheet c.write_lone.new.sheet _ c.args.start c.write_lone.result.0 c.write_lone.ensures.text
    ∙ ap (λ l. with_sheet rest sheet c.args.start ++ flat_map slot (fields_from {A = Global} o l bytes)) c.layout-layout.ensures.shapes

pub returns-then-are_quick-clause-rest : goal.returns-then-are_quick-clause-rest
returns-then-are_quick-clause-rest c =
    c.write_lone.ensures.rest ∙ ap (λ l. drop (sizes l) c.args.bytes.now) c.layout-layout.ensures.shapes

pub add_all_read-requires-clause-size : goal.add_all_read-requires-clause-size
add_all_read-requires-clause-size c = omega (arith, ap sizes c.layout-layout.ensures.shapes, c.requires.size)

pub returns-clause-text : goal.returns-clause-text
returns-clause-text c =
    let o = c.args.defined.now.definition.order in
    let bytes = c.args.bytes.now in
    let old = with_sheet c.args.rest.now.items c.args.sheet.now c.args.start in
    subst (λ l. IfOk c.add_all_read.result (λ r. with_sheet c.add_all_read.new.bytes.items c.add_all_read.new.sheet r.0
    ≡ old ++ flat_map slot (fields_from {A = Global} o l bytes))) c.layout-layout.ensures.shapes c.add_all_read.ensures.text

pub returns-clause-rest : goal.returns-clause-rest
returns-clause-rest c =
    subst (λ l. IfOk c.add_all_read.result (λ r. r.1.now ≡ drop (sizes l) c.args.bytes.now)) c.layout-layout.ensures.shapes c.add_all_read.ensures.rest
