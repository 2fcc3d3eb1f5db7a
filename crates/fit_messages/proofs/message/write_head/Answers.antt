use Rattle.std.proofs.Common.{◌∙◌, ◌++◌, [], ap, sym, take}
use Rattle.std.proofs.lemmas.List.{append-nil}
use Rattle.std.specs.Prelude.{if◌then◌else◌}
use Rattle.fit_messages.specs.Blocks.{amounts}
use Rattle.fit_messages.specs.inner.Heads.{opening_bytes}
use Rattle.fit_messages.proofs.ByteFacts.{after}
use Rattle.fit_messages.proofs.message.write_head.Goals as goal

pub write_opening-requires : goal.write_opening-requires
write_opening-requires c = c.time_bits.ensures ∙ sym (c.requires c.if-head.false)

pub returns-then-head-clause-text : goal.returns-then-head-clause-text
returns-then-head-clause-text c =
    let h = c.args.head in
    let room = take 4 c.args.sheet.now in
    let counted = ap (λ b. if b then amounts h.told else []) (sym c.if-head.true) in
    after room (opening_bytes h) (amounts h.told) _ _ c.write_opening-at.ensures.text c.write_amounts.ensures.text
    ∙ ap (λ b. room ++ (opening_bytes h ++ b)) counted

pub returns-clause-text : goal.returns-clause-text
returns-clause-text c =
    let h = c.args.head in
    let room = take 4 c.args.sheet.now in
    let counted = ap (λ b. if b then amounts h.told else []) (sym c.if-head.false) in
    c.write_opening.ensures.text ∙ ap (λ b. room ++ b) (sym (append-nil (opening_bytes h))) ∙ ap (λ b. room ++ (opening_bytes h ++ b)) counted
