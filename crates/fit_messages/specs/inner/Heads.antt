-- What stands before the items of a message. No public contract names these.
use Rattle.std.specs.Prelude.{◌≡◌, ℕ, ◌+◌, if◌then◌else◌, false, List, [], ◌++◌, unwrap_or}
use Rattle.std.specs.Global.{Global}
use Rattle.fit_record.specs.declared.environment.Defined.{Defined}
use Rattle.fit_record.specs.declared.message.Record.{Record}
use Rattle.fit_record.specs.declared.message.Values.{Values}
use Rattle.fit_profile.specs.Told.{told}
use Rattle.fit_messages.specs.Blocks.{amounts, counts, flag, front, low, told_bits}
use Rattle.fit_messages.specs.declared.message.Head.{Head}

-- up to the amounts or else the items
abbrev pub opening_bytes : Head → List ℕ
opening_bytes h =
    front 3 (told_bits h.told) h.local (unwrap_or h.offset 0xFF) h.place.file (unwrap_or h.told.time 0xFFFFFFFF) h.place.place
    ++ low 8 h.number ++ low 8 (unwrap_or h.told.header_time 0xFFFFFFFF)

-- up to the items
abbrev pub head_bytes : Head → List ℕ
head_bytes h = opening_bytes h ++ (if h.counts then amounts h.told else [])

-- without amounts it tells nothing but times
abbrev pub TellsTimesAlone : Head → Type 0
TellsTimesAlone h = h.counts ≡ false → told_bits h.told ≡ flag 1 h.told.time + flag 2 h.told.header_time

-- This stands before the items of a message of this definition after these records.
pub record IsHeadOf (before : List (Record Global)) (v : Values Global) (p : Defined Global) (h : Head) : Type 0 where
  pub local : h.local ≡ v.local
  pub offset : h.offset ≡ v.offset
  pub counts : h.counts ≡ counts p.definition
  pub told : h.told ≡ told before v
