use Rattle.std.proofs.Common.{◌∙◌, ◌++◌, take}
use Rattle.fit_messages.proofs.ByteFacts.{after}
use Rattle.fit_messages.specs.Blocks.{front, low}
use Rattle.fit_messages.proofs.message.write_opening.Goals as goal

pub returns-clause-text : goal.returns-clause-text
returns-clause-text c =
    let h = c.args.head in
    let room = take 4 c.args.sheet.now in
    let time = c.from.ensures ∙ c.unwrap_or-2.ensures in
    let header_time = c.from-2.ensures ∙ c.unwrap_or-3.ensures in
    after room _ (low 8 c.from-2.result) _ _
    (after room _ (low 8 h.number) _ _ c.write_front-at.ensures.text c.write_low-at.ensures.text) c.write_low.ensures.text
    ∙ λ i. room
    ++ ((front 3 (c.requires i) h.local (c.unwrap_or.ensures i) h.place.file (time i) h.place.place ++ low 8 h.number) ++ low 8 (header_time i))
