-- What holds of messages that are looked at ahead. No public contract names it.
use Rattle.std.specs.Prelude.{◌≡◌, ℕ, ◌+◌, ◌-◌, ◌<◌, List, [], None, length}
use Rattle.fit_base.specs.Numbers.{IsBytes}
use Rattle.fit_frame.specs.declared.header.Header.{Header}
use Rattle.fit_record.specs.declared.file.FitFile.{FitFile}
use Rattle.fit_record.specs.declared.message.Record.{Record}
use Rattle.fit_record.specs.Environment.{empty_environment}
use Rattle.fit_record.specs.Records.{records_bytes}
use Rattle.fit_chain.specs.Progress.{at_data, HasCome}
use Rattle.fit_decode.specs.Answers.{Seen, MessagesFollow}

-- Where no byte was refused, and whole records of a data section have come, the room is what is to come of it after the bytes used; and
-- only there it is more than 0.
pub record RoomAhead (A : Type 0) (seen : Seen) (used room : ℕ) : Type 0 where
  pub left : seen.refusal ≡ None → (fs : List (FitFile A)) (h : Header) (n : ℕ) (before : List (Record A)) → HasCome fs (at_data h n before []) seen.bytes
      → room + used ≡ n - length (records_bytes empty_environment before)
  pub here : 0 < room → (seen.refusal ≡ None) × (fs : List (FitFile A)) × (h : Header) × (n : ℕ) × (before : List (Record A))
      × HasCome fs (at_data h n before []) seen.bytes

-- Messages have the bytes used of a piece, and this is the room after them.
pub record IsAhead (A : Type 0) (seen : Seen) (piece : List ℕ) (used room : ℕ) : Type 0 where
  pub are : IsBytes piece
  pub records : List (Record A)
  pub follow : MessagesFollow A seen piece used records
  pub room_is : RoomAhead A seen used room
