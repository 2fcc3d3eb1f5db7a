use Rattle.fit_show.proofs.Common.{◌≡◌, ◌∙◌, ◌+◌, ◌++◌, ◌∷◌, [], sym, ap, subst, arith, and_sheet, ShownKey, HasFields, HasItems, shown_cell}
use Rattle.std.proofs.lemmas.Result.{IfOk-weaker}
use Rattle.fit_texts.proofs.Sheets.{length-and_sheet}
use Rattle.fit_show.proofs.ShownLines.{cell_after}
use Rattle.fit_show.proofs.frames.ShownField.put.Goals as goal

pub show_next-requires-clause-fields : goal.show_next-requires-clause-fields
show_next-requires-clause-fields c =
    subst (λ (k : ShownKey). HasFields HasItems c.args.items.now ((k.code, k.size) ∷ [])) (sym c.self.view_is) c.requires.fields

pub returns-clause-fields : goal.returns-clause-fields
returns-clause-fields c = IfOk-weaker c.add.result _ _ (λ end put more all h.
    let key : ShownKey = c.args.self.now in
    let old = and_sheet c.args.text.now.items c.args.sheet.now c.args.at in
    let celled = and_sheet c.show_next.new.text.items c.show_next.new.sheet c.in_ok-place.place in
    let t = c.in_ok-place.ensures.fields more all
    (subst (λ (k : ShownKey). HasItems c.args.items.now ((k.code, k.size) ∷ more) all) (sym c.self.view_is) h) in
    let shown : celled ≡ old ++ shown_cell key.code key.info t.0 =
    t.4 ∙ ap (λ (k : ShownKey). old ++ shown_cell k.code k.info t.0) c.self.view_is in (
      t.0,
      t.1,
      t.2,
      t.3,
      cell_after old (shown_cell key.code key.info t.0) celled (and_sheet c.add.new.text.items c.add.new.sheet end) key.bare key.full
          c.after-after.result.now (c.len-2.result + c.in_ok-place.place) (c.len.result + c.args.at) shown
          (omega (
            arith,
            c.len-2.ensures,
            length-and_sheet c.show_next.new.text.items c.show_next.new.sheet c.in_ok-place.place (omega (arith, c.in_ok-place.ensures.place)),
          )) (omega (arith, c.len.ensures, length-and_sheet c.args.text.now.items c.args.sheet.now c.args.at (omega (arith, c.requires.room))))
          c.after-after.ensures put,
    )) c.add.ensures.text
