use Rattle.std.proofs.Common.{◌≡◌, ◌∷◌, ◌++◌, drop}
use Rattle.fit_writer.proofs.forms.with_first.Given as goal

-- with the others it is all
abbrev pub invariant-loop-other : goal.invariant-loop-other
invariant-loop-other g l = l.all ++ drop l.other-index l.others ≡ l.fn.first ∷ l.others
