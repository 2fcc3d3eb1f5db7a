use Rattle.std.proofs.Common.{◌≡◌, ◌∙◌, ◌-◌, ◌++◌, ap, arith, drop, length, length-take-le, take, take_all}
use Rattle.std.proofs.lemmas.List.{length-drop}
use Rattle.fit_messages.proofs.SheetFacts.{eight_written}
use Rattle.fit_messages.proofs.sheet.write_eight.Goals as goal

pub returns-clause-text : goal.returns-clause-text
returns-clause-text c =
    let at = c.args.at in
    let sheet = c.args.sheet.now in
    let eight = c.args.eight.now in
    let source = c.as_slice.result.now in
    let tail = take (512 - at) (drop at sheet) in
    let same : take 8 source ≡ eight = ap (take 8) c.as_slice.ensures ∙ take_all 8 eight (omega (arith, c.told-eight)) in
    let long : length tail ≡ 512 - at = length-take-le (512 - at) (drop at sheet) (omega (arith, length-drop at sheet, c.told-sheet)) in
    eight_written at sheet tail (drop (512 - at) (drop at sheet)) (take 8 source) (omega (arith, c.requires.room, c.told-sheet))
    (ap length same ∙ c.told-eight) (omega (arith, long, c.requires.room))
    ∙ ap (λ b. take at sheet ++ b) same
