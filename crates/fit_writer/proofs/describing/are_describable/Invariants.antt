use Rattle.std.proofs.Common.{◌≡◌, ◌-◌, drop, length, true}
use Rattle.std.specs.Prelude.{◌↔◌, ◌⊎◌}
use Rattle.std.specs.List.{AllByRecursion, list_all}
use Rattle.fit_from_messages.specs.Parts.{entries_of, entry_stands}
use Rattle.fit_writer.specs.Describing.{CanBeSaid, IsAlike, IsDescribedField}
use Rattle.fit_writer.specs.inner.Describing.{entry_fields, listed_fields}
use Rattle.fit_writer.proofs.describing.are_describable.Given as goal

-- the fields so far are so: all are if those are that are left
abbrev pub invariant-loop-place : goal.invariant-loop-place
invariant-loop-place l = record {
  stand : list_all (entry_stands 1) (entries_of (length l.all.fields.now - l.place) l.rest) ≡ true;
  left : AllByRecursion (λ x. (IsDescribedField l.stream x ⊎ CanBeSaid x.1) × AllByRecursion (IsAlike x) (listed_fields l.all)) (listed_fields l.all)
      ↔ AllByRecursion (λ x. (IsDescribedField l.stream x ⊎ CanBeSaid x.1) × AllByRecursion (IsAlike x) (listed_fields l.all)) (entry_fields
      (drop l.place l.all.fields.now) (drop l.place l.all.codes.now)
      (entries_of (length l.all.fields.now - l.place) l.rest));
}
