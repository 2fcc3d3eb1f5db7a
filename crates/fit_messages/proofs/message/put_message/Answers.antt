use Rattle.std.proofs.Common.{◌∙◌, ◌++◌, ◌≤◌, ap, arith, length, subst, sym, take}
use Rattle.std.proofs.lemmas.List.{length-take-le}
use Rattle.std.proofs.lemmas.Option.{none-some, same_Some}
use Rattle.std.proofs.lemmas.Result.{on_ok_weaker}
use Rattle.std.specs.Global.{Global}
use Rattle.fit_record.specs.Environment.{defined_at}
use Rattle.fit_record.specs.Records.{message_size}
use Rattle.fit_record.specs.declared.environment.Defined.{Defined}
use Rattle.fit_messages.specs.Blocks.{sized}
use Rattle.fit_messages.specs.inner.Heads.{head_bytes}
use Rattle.fit_messages.specs.inner.Sheets.{slots_from, with_sheet}
use Rattle.fit_messages.proofs.MessageFacts.{room_left, two_put}
use Rattle.fit_messages.proofs.message.put_message.Goals as goal

pub unreachable-requires : goal.unreachable-requires
unreachable-requires c =
    none-some c.requires.defined.0 (c.in_default.ensures.place ∙ ap (λ e. defined_at e c.args.head.local) c.env.ensures ∙ c.requires.defined.1)

pub add_any_items-requires-clause-within : goal.add_any_items-requires-clause-within
add_any_items-requires-clause-within c =
    let q = c.in-Some.defined.now in
    let p = c.requires.defined.0 in
    let here = c.in-Some.ensures.place ∙ ap (λ e. defined_at e c.args.head.local) c.env.ensures in
    subst (λ (x : Defined Global). message_size x ≤ length c.args.bytes.now) (sym (same_Some q p (here ∙ c.requires.defined.1))) c.requires.defined.2

pub add_any_items-requires-clause-quick : goal.add_any_items-requires-clause-quick
add_any_items-requires-clause-quick c = λ quick.
    let here = c.in-Some.ensures.place ∙ ap (λ e. defined_at e c.args.head.local) c.env.ensures in
    c.requires.quick quick c.in-Some.defined.now (sym here)

pub add_any_items-requires-clause-empty : goal.add_any_items-requires-clause-empty
add_any_items-requires-clause-empty c = λ empty.
    let here = c.in-Some.ensures.place ∙ ap (λ e. defined_at e c.args.head.local) c.env.ensures in
    c.are_empty-is_empty.ensures empty c.in-Some.defined.now (sym here)

pub put_block-requires-clause-room : goal.put_block-requires-clause-room
put_block-requires-clause-room c =
    let sheet = c.args.sheet.now in
    let b0 = c.clear.new.self.items in
    let b1 = with_sheet b0 c.write_head-at.new.sheet c.write_head-at.result in
    let b2 = with_sheet c.add_any_items.new.rest.items c.add_any_items.new.sheet c.in_ok-at.at in
    room_left (take 4 sheet) _ _ b0 b1 b2 (length-take-le 4 sheet (omega (arith, c.told-sheet))) c.clear.ensures.items
    (ap (λ b. b0 ++ b) c.write_head-at.ensures.text) c.in_ok-at.ensures.text

pub returns : goal.returns
returns c = on_ok_weaker c.put_block.result (λ put p is.
    let h = c.args.head in
    let q = c.in-Some.defined.now in
    let bytes = c.args.bytes.now in
    let sheet = c.args.sheet.now in
    let here = c.in-Some.ensures.place ∙ ap (λ e. defined_at e h.local) c.env.ensures in
    let b0 = c.clear.new.self.items in
    let b1 = with_sheet b0 c.write_head-at.new.sheet c.write_head-at.result in
    let b2 = with_sheet c.add_any_items.new.rest.items c.add_any_items.new.sheet c.in_ok-at.at in
    let made = two_put (take 4 sheet) (head_bytes h) (slots_from q bytes) b0 b1 b2 (length-take-le 4 sheet (omega (arith, c.told-sheet)))
    c.clear.ensures.items (ap (λ b. b0 ++ b) c.write_head-at.ensures.text) c.in_ok-at.ensures.text in
    put ∙ ap (λ b. c.args.text.now.items ++ sized b) made
    ∙ ap (λ (x : Defined Global). c.args.text.now.items ++ sized (head_bytes h ++ slots_from x bytes)) (same_Some q p (here ∙ is))) c.put_block.ensures
