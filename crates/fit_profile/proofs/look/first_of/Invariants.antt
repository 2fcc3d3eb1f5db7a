use Rattle.fit_profile.proofs.Common.{◌≡◌, drop, first_field}
use Rattle.fit_profile.proofs.look.first_of.Given as goal

abbrev pub invariant-loop-i : goal.invariant-loop-i
invariant-loop-i g l = first_field l.fn.fields l.fn.items l.number ≡ first_field (drop l.i l.fn.fields) (drop l.i l.fn.items) l.number
