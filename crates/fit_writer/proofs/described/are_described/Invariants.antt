use Rattle.std.proofs.Common.{◌≡◌, ◌-◌, drop, length, true}
use Rattle.std.specs.Prelude.{◌↔◌, map}
use Rattle.std.specs.List.{list_all}
use Rattle.fit_from_messages.specs.Parts.{entries_of, entry_stands}
use Rattle.fit_writer.specs.Reading.{entry_naming}
use Rattle.fit_writer.specs.Written.{AreDescribed}
use Rattle.fit_writer.proofs.described.are_described.Given as goal

-- the fields so far are described so: all are if those are that are left
abbrev pub invariant-loop-place : goal.invariant-loop-place
invariant-loop-place l = record {
  stand : list_all (entry_stands 1) (entries_of (length l.fields - l.place) l.rest) ≡ true;
  left : AreDescribed l.stream l.fields l.codes (map entry_naming (entries_of (length l.fields) l.entries))
      ↔ AreDescribed l.stream (drop l.place l.fields) (drop l.place l.codes) (map entry_naming (entries_of (length l.fields - l.place) l.rest));
}
