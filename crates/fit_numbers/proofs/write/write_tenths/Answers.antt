use Rattle.fit_numbers.proofs.Common.{◌∙◌, ◌++◌, ◌∷◌, [], ◌/◌, ◌%◌, ap, decimal, last_digits}
use Rattle.std.proofs.Common.{take}
use Rattle.fit_numbers.proofs.WriteFacts.{after_the_point}
use Rattle.fit_numbers.proofs.write.write_tenths.Goals as goal

pub returns-clause-text : goal.returns-clause-text
returns-clause-text c =
    let whole = take c.args.at c.args.bytes.now ++ decimal (c.args.size / 10) in
    let part = last_digits 1 (c.args.size % 10) in
    let pointed = c.write_byte-at.ensures.text ∙ ap (λ t. t ++ (46 ∷ [])) c.write_millions-at.ensures.text in
    c.write_one.ensures.text ∙ ap (λ t. t ++ part) pointed ∙ after_the_point whole part
