use Rattle.fit_text_report.proofs.Common.{◌≡◌, length, slice_get}
use Rattle.std.proofs.Common.{ℕ, Some}
use Rattle.fit_text_report.proofs.found.make_places.Given as goal

abbrev pub invariant-loop : goal.invariant-loop
invariant-loop g l =
    (length l.items.items ≡ l.counter)
    × ((other : ℕ) (t : _) → slice_get l.fn.items.items other ≡ Some (Some t) → slice_get l.items.items other ≡ Some (Some t))
