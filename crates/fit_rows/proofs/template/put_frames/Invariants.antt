use Rattle.fit_rows.proofs.Common.{◌≤◌, HasItems, and_sheet, values_text}
use Rattle.fit_shown.proofs.FieldWalks.{Taken, shape}
use Rattle.fit_rows.proofs.template.put_frames.Given as goal

abbrev pub invariant-loop-frame : goal.invariant-loop-frame
invariant-loop-frame l =
    (l.at ≤ 1024)
    × Taken shape (λ fs is. values_text fs l.end is) HasItems l.frames l.initial.items l.items
    (and_sheet l.initial.text.items l.initial.sheet l.initial.at) (and_sheet l.text.items l.sheet l.at) l.frame-index
