use Rattle.fit_texts.proofs.Common.{◌∙◌, ◌-◌, ◌+◌, ◌/◌, ◌++◌, length, map, ap, arith, and_sheet, base_type, item_text}
use Rattle.fit_base.specs.Numbers.{number}
use Rattle.fit_cells.specs.Steps.{bar}
use Rattle.fit_record.proofs.Gathering.{one_less, left_more, some_left}
use Rattle.fit_record.specs.ReadMessages.{numbers_of}
use Rattle.fit_texts.proofs.SeveralNumbers.{barred_from, number_put, numbers_put}
use Rattle.fit_texts.proofs.several.add_each.Goals as goal

pub split_at-requires : goal.split_at-requires
split_at-requires c = some_left c.args.form.width _ _ c.loop-place.rest.now
    (one_less (length c.args.bytes.now / c.args.form.width) c.loop-place.place c.loop-place-test.true) c.loop-place.invariant.long

pub loop-place-preserved : goal.loop-place-preserved
loop-place-preserved c =
    let w = c.args.form.width in
    let count = length c.args.bytes.now / w in
    let place = c.loop-place.place in
    let rest = c.loop-place.rest.now in
    let m = count - (place + 1) in
    let more = one_less count place c.loop-place-test.true in
    record {
      within = c.in_ok-end.ensures.place;
      long = ap length c.split_at.ensures.back ∙ left_more w (count - place) m rest more c.loop-place.invariant.long;
      text = λ code info form.
          let item = item_text (base_type code).class code info w in
          let old = and_sheet c.loop-place.text.items c.loop-place.sheet c.loop-place.end in
          let new = and_sheet c.add_number.new.text.items c.add_number.new.sheet c.in_ok-end.end in
          ap (λ r. new ++ barred_from (place + 1) (map item (numbers_of c.args.order w m r))) c.split_at.ensures.back
          ∙ number_put item c.args.order w place (count - place) m rest old new _ more
          (c.in_ok-end.ensures.text code info form ∙ ap (λ b. old ++ (bar place ++ item (number c.args.order b))) c.split_at.ensures.front)
          (c.loop-place.invariant.text code info form);
    }

pub returns-clause-text : goal.returns-clause-text
returns-clause-text c code info form =
    numbers_put (item_text (base_type code).class code info c.args.form.width) c.args.order c.args.form.width c.loop-place.place _ c.loop-place.rest.now _ _
    (omega (arith, c.loop-place-test.false)) (c.loop-place.invariant.text code info form)
