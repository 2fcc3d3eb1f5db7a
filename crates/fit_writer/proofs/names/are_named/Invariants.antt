use Rattle.std.proofs.Common.{◌≡◌, ◌-◌, drop, take, true}
use Rattle.std.specs.Prelude.{map}
use Rattle.std.specs.List.{list_all}
use Rattle.fit_profile.specs.Described.{namings_at}
use Rattle.fit_from_messages.specs.Parts.{entries_of, entry_stands}
use Rattle.fit_writer.specs.Reading.{entry_naming}
use Rattle.fit_writer.proofs.names.are_named.Given as goal

-- the namings so far are those of the entries, and the others are left
abbrev pub invariant-loop-place : goal.invariant-loop-place
invariant-loop-place l = record {
  left : drop l.place (entries_of l.count l.entries) ≡ entries_of (l.count - l.place) l.rest;
  stand : list_all (entry_stands 1) (entries_of (l.count - l.place) l.rest) ≡ true;
  first : take l.place (namings_at l.stream l.local) ≡ take l.place (map entry_naming (entries_of l.count l.entries));
}
