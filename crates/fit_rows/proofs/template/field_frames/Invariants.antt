use Rattle.fit_rows.proofs.Common.{◌≡◌, [], map, take, end_of, field_key, frames_of}
use Rattle.fit_rows.proofs.template.field_frames.Given as goal

abbrev pub invariant-loop-field : goal.invariant-loop-field
invariant-loop-field l =
    (l.frames.items ≡ frames_of [] (map (field_key l.global) (take l.field-index l.fields)))
    × (l.end.items ≡ end_of [] (map (field_key l.global) (take l.field-index l.fields)))
