use Rattle.std.proofs.Common.{◌≡◌, ◌↔◌}
use Rattle.fit_texts.proofs.kept.fields.are_all_same.Given as goal

abbrev pub invariant-loop : goal.invariant-loop
invariant-loop l = (l.a ≡ l.b) ↔ (l.left ≡ l.other)
