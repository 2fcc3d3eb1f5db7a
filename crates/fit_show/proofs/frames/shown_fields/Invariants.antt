use Rattle.fit_show.proofs.Common.{◌≡◌, map, take, field_part, shown_keys}
use Rattle.fit_show.proofs.frames.shown_fields.Given as goal

abbrev pub invariant-loop-place : goal.invariant-loop-place
invariant-loop-place l = l.shown.items ≡ take l.place (shown_keys 0 (map (field_part l.global) l.fields) l.end)
