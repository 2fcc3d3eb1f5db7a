-- A record that is whole in a piece.
use Rattle.std.specs.Prelude.{◌≡◌, ℕ, ◌+◌, ◌-◌, ◌<◌, ◌≤◌, List, length, take, Option, None}
use Rattle.fit_record.specs.declared.message.Record.{Record}
use Rattle.fit_record.specs.declared.message.Record.TheVariants.{Values as Data}
use Rattle.fit_record.specs.declared.message_bytes.MessageBytes.{MessageBytes}
use Rattle.fit_record.specs.Environment.{Environment, learn}
use Rattle.fit_record.specs.Files.{CanFill}
use Rattle.fit_record.specs.MessageBytes.{message_in}
use Rattle.fit_record.specs.Records.{IsRecord, message_size}
use Rattle.fit_record.specs.Sound.{IsSound}
use Rattle.fit_step.specs.Skipping.{HasMessage}

-- That many bytes at the front of the piece are those of the record, and more records can fill what is left of the room.
pub record StandsWhole {A : Type 0} (e : Environment A) (room : ℕ) (piece : List ℕ) (r : Record A) (used : ℕ) : Type 0 where
  pub some : 0 < used
  pub within : used ≤ length piece
  pub enough : used ≤ room
  pub spelled : IsRecord e r (take used piece)
  pub fills : length e.places ≡ 16 → CanFill (learn e r) (room - used)

-- This data message begins the piece, where no byte of a record has come, and all of it stands there. Six bytes or more of the room are to
-- come after it, and nothing is learned of it.
pub record IsPlain {A : Type 0} (e : Environment A) (room : ℕ) (in_progress : Option (Record A)) (piece : List ℕ) (m : MessageBytes A) : Type 0 where
  pub idle : in_progress ≡ None
  pub sound : IsSound m.defined.now
  pub size : length m.body.now ≡ message_size m.defined.now
  pub stands : StandsWhole e room piece (Data (message_in m)) (1 + length m.body.now)
  pub left : 1 + length m.body.now + 6 ≤ room
  pub message : HasMessage e piece (1 + length m.body.now)
  pub learned : learn e (Data (message_in m)) ≡ e
