use Rattle.fit_show.proofs.Common.{◌+◌, ◌≤◌, HasItems, and_sheet, keys_text}
use Rattle.fit_shown.proofs.FieldWalks.{Taken}
use Rattle.fit_show.proofs.ShownLines.{key_shape}
use Rattle.fit_show.proofs.template.put_fields.Given as goal

abbrev pub invariant-loop-field : goal.invariant-loop-field
invariant-loop-field l =
    (l.at + 32 ≤ 1024)
    × Taken key_shape keys_text HasItems l.fields l.initial.items l.items
    (and_sheet l.initial.text.items l.initial.sheet l.initial.at) (and_sheet l.text.items l.sheet l.at) l.field-index
