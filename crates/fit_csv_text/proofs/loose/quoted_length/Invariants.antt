use Rattle.std.proofs.Common.{◌++◌, ℕ, List, take, true}
use Rattle.fit_csv_text.specs.inner.Loose.{Closes}
use Rattle.fit_csv_text.proofs.loose.quoted_length.Given as goal

abbrev pub invariant-loop-i : goal.invariant-loop-i
invariant-loop-i l = (more : List ℕ) → Closes l.is_open more → Closes true (take l.i l.text ++ more)
