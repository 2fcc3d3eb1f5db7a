use Rattle.std.proofs.Common.{arith}
use Rattle.fit_csv_text.proofs.window.is_loose.Goals as goal

pub returns-then-text-lt2 : goal.returns-then-text-lt2
returns-then-text-lt2 c rows = absurd (omega (arith, rows.ends.within, c.if-text-lt2.true))

pub returns-then-text-eq100 : goal.returns-then-text-eq100
returns-then-text-eq100 c rows = c.ends_in_return.ensures rows.lines rows.ends

pub returns-then-text-eq34 : goal.returns-then-text-eq34
returns-then-text-eq34 c rows = absurd (c.if-text-eq100.false rows.letter)

pub returns-else-text-eq34 : goal.returns-else-text-eq34
returns-else-text-eq34 c rows = absurd (c.if-text-eq100.false rows.letter)
