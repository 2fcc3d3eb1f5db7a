use Rattle.fit_cells.proofs.Common.{◌∙◌, ◌*◌, ◌/◌, ◌%◌, ◌^◌, ap, hex_digit}
use Rattle.fit_cells.proofs.HexFacts.{two-sixteen, low_digit, high_digit}
use Rattle.fit_cells.proofs.hexadecimal.digit_at.Goals as goal

pub returns-then-digit-lt10 : goal.returns-then-digit-lt10
returns-then-digit-lt10 c = low_digit (c.args.number / 2 ^ (4 * c.args.place) % 16) c.if-digit-lt10.true
    ∙ ap (λ p. hex_digit (c.args.number / p % 16)) (two-sixteen c.args.place)

pub returns-else-digit-lt10 : goal.returns-else-digit-lt10
returns-else-digit-lt10 c = high_digit (c.args.number / 2 ^ (4 * c.args.place) % 16) c.if-digit-lt10.false
    ∙ ap (λ p. hex_digit (c.args.number / p % 16)) (two-sixteen c.args.place)
