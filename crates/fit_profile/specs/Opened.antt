-- Data messages that are opened in their bytes.
use Rattle.std.specs.Prelude.{◌≡◌, IfSome, List, Some, length}
use Rattle.std.specs.Global.{Global}
use Rattle.fit_record.specs.Environment.{defined_at}
use Rattle.fit_record.specs.MessageBytes.{message_in}
use Rattle.fit_record.specs.Records.{Fits, message_size}
use Rattle.fit_record.specs.Sound.{IsSound}
use Rattle.fit_record.specs.declared.message.Record.{Record}
use Rattle.fit_record.specs.declared.message.Record.TheVariants.{Values as Data}
use Rattle.fit_record.specs.declared.message.Values.{Values}
use Rattle.fit_record.specs.declared.message_bytes.MessageBytes.{MessageBytes}
use Rattle.fit_profile.specs.Accumulated.{tells_more}
use Rattle.fit_profile.specs.Looks.{known}
use Rattle.fit_profile.specs.Times.{time}
use Rattle.fit_profile.specs.declared.message_bytes.Tells.{Tells}

-- The message may come next after these records, and is read by the definition of its local message type.
pub record IsOpened (before : List (Record Global)) (m : MessageBytes Global) : Type 0 where
  pub defined : defined_at (known before) m.local ≡ Some m.defined.now
  pub sound : IsSound m.defined.now
  pub size : length m.body.now ≡ message_size m.defined.now
  pub fits : Fits (known before) (Data (message_in m))

-- A data message after these records tells this of those after it: its time, and whether it may tell more, as field descriptions and
-- messages with counters do.
pub record TellsNext (before : List (Record Global)) (v : Values Global) (tells : Tells) : Type 0 where
  pub time : tells.time ≡ time before (Data v)
  pub more : IfSome (defined_at (known before) v.local) (λ p. tells.more ≡ tells_more p.definition)
