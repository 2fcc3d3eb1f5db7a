use Rattle.fit_table.proofs.Common.{◌∙◌, ◌++◌, ◌∷◌, ◌%◌, ◌^◌, take, sym, ap, arith, append_assoc}
use Rattle.std.proofs.Common.{◌<◌, ℕ, decimal}
use Rattle.fit_texts.specs.InstantText.{instant_text}
use Rattle.fit_texts.specs.Minutes.{seconds_text}
use Rattle.fit_table.proofs.front.RowFront.write.Goals as goal

pub write-at-requires-clause-short : goal.write-at-requires-clause-short
write-at-requires-clause-short c = c.self.invariant.1

pub write-at-requires-clause-room : goal.write-at-requires-clause-room
write-at-requires-clause-room c = omega (arith, c.requires.room)

pub write_seconds-requires-clause-room : goal.write_seconds-requires-clause-room
write_seconds-requires-clause-room c = omega (arith, c.requires.room, c.write-at.ensures.size, c.write-at.ensures.end, c.self.invariant.1)

pub returns-clause-within : goal.returns-clause-within
returns-clause-within c = omega (arith, c.write_seconds.ensures.end, c.write-at.ensures.end, c.self.invariant.1)

pub returns-clause-text : goal.returns-clause-text
returns-clause-text c =
    let old = take c.args.at c.args.row.now in
    let front = c.self.inside.text in
    let seconds = seconds_text (c.args.time % 60) in
    let low : c.args.time < 2 ^ 32 = omega (arith, c.ranges.time.fits) in
    let minute = c.requires.minute ∙ ap (λ (f : ℕ × ℕ). f.1) (sym c.self.view_is) in
    c.write_seconds.ensures.text ∙ ap (λ t. t ++ seconds) c.write-at.ensures.text ∙ append_assoc old front seconds
    ∙ ap (λ t. old ++ t) (sym (c.self.invariant.0 c.args.time low minute))
    ∙ ap (λ (f : ℕ × ℕ). old ++ (decimal f.0 ++ (44 ∷ instant_text c.args.time))) c.self.view_is
