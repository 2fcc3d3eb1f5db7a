use Rattle.std.proofs.Common.{◌≡◌, ◌-◌, ◌++◌, List, drop, length, true}
use Rattle.std.specs.List.{list_all}
use Rattle.fit_from_messages.specs.Parts.{entries_of, entry_stands}
use Rattle.fit_writer.specs.Describing.{DescribesEach, DevField}
use Rattle.fit_writer.specs.inner.Describing.{entry_fields, listed_fields}
use Rattle.fit_writer.specs.inner.OpenFiles.{IsGoodOpenFile, current_of, current_with}
use Rattle.fit_writer.proofs.describing.describe_each.Given as goal

-- the fields so far are described, and then come those that are left
abbrev pub invariant-loop-place : goal.invariant-loop-place
invariant-loop-place l = record {
  stand : list_all (entry_stands 1) (entries_of (length l.all.fields.now - l.place) l.rest) ≡ true;
  good : IsGoodOpenFile l.file;
  same : current_of l.file ≡ current_with l.initial.file l.file.stream;
  done : (done : List DevField) × (listed_fields l.all ≡ done ++ entry_fields (drop l.place l.all.fields.now) (drop l.place l.all.codes.now)
      (entries_of (length l.all.fields.now - l.place) l.rest)) × DescribesEach l.initial.file.stream l.file.stream done;
}
