use Rattle.fit_show.proofs.Common.{◌≡◌, ◌++◌, map, take, dev_field_part, shown_keys}
use Rattle.std.specs.Prelude.{codes}
use Rattle.fit_show.proofs.frames.push_devs.Given as goal

abbrev pub invariant-loop-place : goal.invariant-loop-place
invariant-loop-place l =
    l.shown.items ≡ l.initial.shown.items ++ take l.place (shown_keys l.before (map dev_field_part l.devs) (codes "\n"))
