use Rattle.std.proofs.Common.{◌∙◌, ◌++◌, ap, arith}
use Rattle.std.proofs.lemmas.Result.{on_ok_weaker}
use Rattle.fit_messages.proofs.SheetFacts.{alone_put}
use Rattle.fit_messages.proofs.sheet.put_block_of_sheet.Goals as goal

pub returns : goal.returns
returns c = on_ok_weaker c.put_sheet.result (λ put.
    put ∙ ap (λ b. c.args.text.now.items ++ b)
    (alone_put c.args.at c.args.sheet.now c.write_length.new.sheet c.requires.room (omega (arith, c.requires.place, c.told-sheet)) c.write_length.ensures))
    c.put_sheet.ensures
