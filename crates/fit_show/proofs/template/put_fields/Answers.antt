use Rattle.fit_show.proofs.Common.{◌∙◌, [], refl, sym, HasItems, and_sheet, keys_text, on_ok_weaker}
use Rattle.std.proofs.lemmas.List.{append-nil}
use Rattle.fit_shown.proofs.FieldWalks.{taken_all, taken_more, taken_next, taken_none}
use Rattle.fit_show.proofs.ShownLines.{key_after, key_more, key_shape}
use Rattle.fit_show.proofs.template.put_fields.Goals as goal

pub loop-field-init : goal.loop-field-init
loop-field-init c = (
  c.requires.room,
  taken_none key_shape keys_text HasItems c.args.fields.now c.args.items.now (and_sheet c.args.text.now.items c.args.sheet.now c.args.at),
)

pub put-requires-clause-fields : goal.put-requires-clause-fields
put-requires-clause-fields c =
    taken_next key_shape keys_text HasItems c.args.fields.now c.args.items.now
    (and_sheet c.args.text.now.items c.args.sheet.now c.args.at) c.loop-field.items (and_sheet c.loop-field.text.items c.loop-field.sheet c.loop-field.at)
    c.loop-field.field-index c.loop-field.invariant.1 c.field-item.result c.loop-field-test.true c.field-item.is c.requires.fields

pub loop-field-preserved : goal.loop-field-preserved
loop-field-preserved c = (
  c.in_ok-at.ensures.room,
  taken_more key_shape keys_text HasItems c.args.fields.now c.args.items.now
      (and_sheet c.args.text.now.items c.args.sheet.now c.args.at) c.loop-field.items (and_sheet c.loop-field.text.items c.loop-field.sheet c.loop-field.at)
      c.loop-field.field-index c.loop-field.invariant.1 key_after key_more c.put.new.items
      (and_sheet c.put.new.text.items c.put.new.sheet c.in_ok-at.at) c.field-item.result c.loop-field-test.true c.field-item.is
      c.in_ok-at.ensures.fields,
)

pub returns : goal.returns
returns c = on_ok_weaker c.put_sheet.result (λ put more all h.
    let text = and_sheet c.loop-field.text.items c.loop-field.sheet c.loop-field.at in
    let t = taken_all key_shape keys_text HasItems c.args.fields.now c.args.items.now
    (and_sheet c.args.text.now.items c.args.sheet.now c.args.at) c.loop-field.items text c.loop-field.field-index c.loop-field.invariant.1 [] (λ is. refl)
    c.loop-field-test.false more all h in
    (t.0, t.1, put ∙ sym (append-nil text) ∙ t.2)) c.put_sheet.ensures
