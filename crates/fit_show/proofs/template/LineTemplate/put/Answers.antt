use Rattle.fit_show.proofs.Common.{◌≤◌, ◌∙◌, ◌++◌, length, length-map, map, drop, refl, sym, ap, subst, append_assoc, arith, on_ok_weaker}
use Rattle.fit_show.proofs.Common.{HasItems, MessageKey, and_sheet, keys_text, line_front, line_head, line_keys, time_part}
use Rattle.std.proofs.Common.{◌+◌, ℕ, List}
use Rattle.std.proofs.lemmas.List.{length-append}
use Rattle.fit_shown.proofs.FieldWalks.{field_shape}
use Rattle.fit_show.proofs.ShownLines.{dev_shape, key_shape, line_parts, shown_shapes}
use Rattle.fit_show.proofs.template.LineTemplate.put.Goals as goal

pub put_fields-requires-clause-fields : goal.put_fields-requires-clause-fields
put_fields-requires-clause-fields c =
    let key : MessageKey = c.args.self.now in
    let fields = c.as_slice.ensures.value ∙ c.self.invariant.2 ∙ ap line_keys c.self.view_is in
    let same = ap (map key_shape) fields ∙ shown_shapes key in
    (c.requires.0, c.requires.1, subst (λ fs. HasItems c.args.items.now (fs ++ c.requires.0) c.requires.1) (sym same) c.requires.2)

pub returns : goal.returns
returns c = on_ok_weaker c.put_fields.result (λ takes more all h.
    let key : MessageKey = c.args.self.now in
    let old = c.args.text.now.items in
    let front = line_front key.own.local key.own.global in
    let labelled = and_sheet c.put_label.new.text.items c.put_label.new.sheet c.in_ok-at.at in
    let begun = and_sheet c.add.new.text.items c.add.new.sheet c.in_ok-first.first in
    let head = c.self.invariant.1 ∙ ap line_head c.self.view_is in
    let fields = c.as_slice.ensures.value ∙ c.self.invariant.2 ∙ ap line_keys c.self.view_is in
    let same = ap (map key_shape) fields ∙ shown_shapes key in
    let t = takes more all (subst (λ fs. HasItems c.args.items.now (fs ++ more) all) (sym same) h) in
    let long = subst (λ (fs : List (ℕ × ℕ)). length fs ≤ length all) same t.0 in
    let many : length key.own.fields + length key.devs ≤ length all = omega (
      arith,
      long,
      length-append (map field_shape key.own.fields) (map dev_shape key.devs),
      length-map key.own.fields field_shape,
      length-map key.devs dev_shape,
    ) in (
      long,
      subst (λ (fs : List (ℕ × ℕ)). HasItems c.put_fields.new.items more (drop (length fs) all)) same t.1,
      line_parts key c.args.time all old (old ++ front) labelled begun c.put_fields.new.text.items refl
          (c.in_ok-at.ensures.text ∙ sym (append_assoc old front (time_part c.args.time)))
          (c.in_ok-first.ensures.text ∙ ap (λ u. labelled ++ u) head) (t.2 ∙ ap (λ fs. begun ++ keys_text fs all) fields) many,
    )) c.put_fields.ensures
