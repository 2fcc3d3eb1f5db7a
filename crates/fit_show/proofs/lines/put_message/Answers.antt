use Rattle.fit_show.proofs.Common.{◌≡◌, ◌∙◌, ◌++◌, refl, sym, ap, take, length-map, on_ok_weaker, option_and_then, Global, HasItems, dev_layout, layout}
use Rattle.fit_show.proofs.Common.{message_key}
use Rattle.std.proofs.lemmas.Option.{same_Some}
use Rattle.fit_record.specs.MessageBytes.{message_in}
use Rattle.fit_record.specs.Records.{sizes}
use Rattle.fit_shown.proofs.FieldWalks.{field_shape}
use Rattle.fit_shown.specs.declared.items.ItemBytes.{ItemBytes}
use Rattle.fit_texts.proofs.ItemFacts.{fields_both, fields_long}
use Rattle.fit_show.proofs.ShownLines.{line_items, line_put}
use Rattle.fit_show.proofs.lines.put_message.Goals as goal

pub put-requires : goal.put-requires
put-requires c =
    let m = c.args.message.now in
    let p = m.defined.now in
    let order = p.definition.order in
    let items : ItemBytes = record { alloc = c.find.new.tools; order = order; rest = m.body } in
    let v = message_in m in
    let key = message_key c.args.stream.now m.local p in
    let same : c.in-Some.template.now ≡ key =
    same_Some c.in-Some.template.now key (c.in-Some.ensures ∙ ap (option_and_then (λ t. t)) c.in_ok-find.ensures.found) in
    line_items HasItems items c.in-Some.template.now c.args.stream.now p m.local same c.requires.opened.defined (v.fields ++ v.dev)
    (c.requires.opened.size, sym (fields_both order (layout p) (dev_layout p) m.body.now))

pub returns-clause-line : goal.returns-clause-line
returns-clause-line c = on_ok_weaker c.put.result (λ takes.
    let m = c.args.message.now in
    let p = m.defined.now in
    let order = p.definition.order in
    let items : ItemBytes = record { alloc = c.find.new.tools; order = order; rest = m.body } in
    let key = message_key c.args.stream.now m.local p in
    let same : c.in-Some.template.now ≡ key =
    same_Some c.in-Some.template.now key (c.in-Some.ensures ∙ ap (option_and_then (λ t. t)) c.in_ok-find.ensures.found) in
    line_put HasItems items c.in-Some.template.now c.args.stream.now p m.local same c.requires.opened.defined
    c.put.new.items c.args.time c.args.text.now.items c.put.new.text.items takes (message_in m) refl
    (fields_long Global order (layout p) (take (sizes (layout p)) m.body.now) ∙ length-map p.definition.fields field_shape) c.requires.time
    (c.requires.opened.size, sym (fields_both order (layout p) (dev_layout p) m.body.now))) c.put.ensures
