use Rattle.fit_rows.proofs.Common.{◌≡◌, ◌++◌, map, take, dev_frame_key, end_of, frames_of}
use Rattle.fit_rows.proofs.template.push_devs.Given as goal

abbrev pub invariant-loop-dev : goal.invariant-loop-dev
invariant-loop-dev l =
    (l.frames.items ≡ l.initial.frames.items ++ frames_of l.initial.end.items (map dev_frame_key (take l.dev-index l.devs)))
    × (l.end.items ≡ end_of l.initial.end.items (map dev_frame_key (take l.dev-index l.devs)))
