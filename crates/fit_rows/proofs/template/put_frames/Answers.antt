use Rattle.fit_rows.proofs.Common.{◌∙◌, refl, HasItems, and_sheet, on_ok_weaker, values_text}
use Rattle.fit_shown.proofs.FieldWalks.{shape, taken_all, taken_more, taken_next, taken_none}
use Rattle.fit_rows.proofs.ValueRows.{value_after, value_more}
use Rattle.fit_rows.proofs.template.put_frames.Goals as goal

pub loop-frame-init : goal.loop-frame-init
loop-frame-init c = (
  c.requires.place,
  taken_none shape (λ fs is. values_text fs c.args.end.now is) HasItems c.args.frames.now c.args.items.now
      (and_sheet c.args.text.now.items c.args.sheet.now c.args.at),
)

pub put_next-requires-clause-fields : goal.put_next-requires-clause-fields
put_next-requires-clause-fields c =
    taken_next shape (λ fs is. values_text fs c.args.end.now is) HasItems c.args.frames.now c.args.items.now
    (and_sheet c.args.text.now.items c.args.sheet.now c.args.at) c.loop-frame.items (and_sheet c.loop-frame.text.items c.loop-frame.sheet c.loop-frame.at)
    c.loop-frame.frame-index c.loop-frame.invariant.1 c.frame-item.result c.loop-frame-test.true c.frame-item.is c.requires.fields

pub loop-frame-preserved : goal.loop-frame-preserved
loop-frame-preserved c = (
  c.in_ok-at.ensures.place,
  taken_more shape (λ fs is. values_text fs c.args.end.now is) HasItems c.args.frames.now c.args.items.now
      (and_sheet c.args.text.now.items c.args.sheet.now c.args.at) c.loop-frame.items (and_sheet c.loop-frame.text.items c.loop-frame.sheet c.loop-frame.at)
      c.loop-frame.frame-index c.loop-frame.invariant.1 value_after (value_more c.args.end.now) c.put_next.new.self
      (and_sheet c.put_next.new.text.items c.put_next.new.sheet c.in_ok-at.at) c.frame-item.result c.loop-frame-test.true c.frame-item.is
      c.in_ok-at.ensures.fields,
)

pub returns : goal.returns
returns c = on_ok_weaker c.put_sheet.result (λ put more all h.
    let t = taken_all shape (λ fs is. values_text fs c.args.end.now is) HasItems c.args.frames.now c.args.items.now
    (and_sheet c.args.text.now.items c.args.sheet.now c.args.at) c.loop-frame.items (and_sheet c.loop-frame.text.items c.loop-frame.sheet c.loop-frame.at)
    c.loop-frame.frame-index c.loop-frame.invariant.1 c.args.end.now (λ is. refl) c.loop-frame-test.false more all h in
    (t.0, t.1, put ∙ c.in_ok-last.ensures.text ∙ t.2)) c.put_sheet.ensures
