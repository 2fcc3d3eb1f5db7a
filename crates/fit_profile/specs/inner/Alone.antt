-- Messages of which nothing but times is told. No public contract names this definition.
use Rattle.std.specs.Prelude.{ℕ, Option, None}
use Rattle.fit_profile.specs.declared.told.Told.{Told}

-- what is told of a message with these times, of its own and of its header, and without accumulated values
abbrev pub times_alone : Option ℕ → Option ℕ → Told
times_alone time header_time = record {
  time = time;
  header_time = header_time;
  speed = None;
  distance = None;
  total_cycles = None;
  accumulated_power = None;
}
