use Rattle.fit_rows.proofs.Common.{[], refl, sym, subst, on_ok_weaker, frame_shapes, HasFields, HasItems, HasRows, MessageKey, TakesFields, key_rows}
use Rattle.fit_shown.specs.declared.items.ItemBytes.{ItemBytes}
use Rattle.fit_rows.proofs.OpenedRows.{all_items, opened_items, opened_rows}
use Rattle.fit_rows.proofs.message.put_values.Goals as goal

pub put-requires : goal.put-requires
put-requires c =
    let m = c.args.message.now in
    let s : ItemBytes = record { alloc = c.args.tools.now.pen.alloc; order = m.defined.now.definition.order; rest = m.body } in
    subst (λ (k : MessageKey). HasFields HasItems s (frame_shapes k)) (sym c.requires.template)
    ([], all_items m, opened_items c.args.stream.now m s c.requires.opened refl refl)

pub returns : goal.returns
returns c = on_ok_weaker c.put.result (λ takes.
    let before = c.args.stream.now in
    let m = c.args.message.now in
    let time = c.header_time-time.result in
    let s : ItemBytes = record { alloc = c.args.tools.now.pen.alloc; order = m.defined.now.definition.order; rest = m.body } in
    let own = subst (λ (k : MessageKey). TakesFields HasItems s c.put.new.items (frame_shapes k)
    (λ all. HasRows (key_rows k m.offset time all) c.args.text.now c.put.new.text)) c.requires.template takes in
    let t = own [] (all_items m) (opened_items before m s c.requires.opened refl refl) in
    subst (λ rows. HasRows rows c.args.text.now c.put.new.text) (opened_rows before m time c.requires.opened c.header_time-time.ensures) t.2) c.put.ensures
