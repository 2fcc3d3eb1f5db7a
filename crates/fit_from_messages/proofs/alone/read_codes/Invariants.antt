use Rattle.std.proofs.Common.{◌≡◌, ◌-◌, ◌++◌, true}
use Rattle.std.specs.Prelude.{map}
use Rattle.std.specs.List.{list_all}
use Rattle.fit_from_messages.specs.Parts.{byte_at, entries_of, entry_stands, size_fits}
use Rattle.fit_from_messages.proofs.alone.read_codes.Given as goal

-- with what the other entries say it is what all say
abbrev pub invariant-loop : goal.invariant-loop
invariant-loop l = record {
  stand : list_all (entry_stands 1) (entries_of (l.count - l.counter) l.rest) ≡ true;
  codes : map (byte_at 7) (entries_of l.count l.bytes) ≡ l.codes ++ map (byte_at 7) (entries_of (l.count - l.counter) l.rest);
  fit : list_all (λ entry. size_fits (byte_at 7 entry) entry) (entries_of l.count l.bytes)
      ≡ list_all (λ entry. size_fits (byte_at 7 entry) entry) (entries_of (l.count - l.counter) l.rest);
}
