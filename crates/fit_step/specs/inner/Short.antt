-- Data messages that a piece cuts. No public contract names these.
use Rattle.std.specs.Prelude.{◌≡◌, ℕ, ◌+◌, ◌<◌, ◌≤◌, false, List, ◌∷◌, length, Option, Some}
use Rattle.fit_record.specs.declared.environment.Defined.{Defined}
use Rattle.fit_record.specs.declared.message.Record.{Record}
use Rattle.fit_record.specs.declared.message.Record.TheVariants.{Values as Data}
use Rattle.fit_record.specs.declared.message.Values.{Values}
use Rattle.fit_record.specs.Environment.{Environment, defined_at}
use Rattle.fit_record.specs.HeaderByte.{has_reserved_bit, is_definition, local_type}
use Rattle.fit_record.specs.Records.{message_size}
use Rattle.fit_step.specs.declared.phase.Phase.TheVariants.{RecordHeader}
use Rattle.fit_step.specs.declared.position.Position.{Position}

-- The bytes are the first of a data message of this size, and some are missing.
pub record IsCutMessage {A : Type 0} (e : Environment A) (bytes : List ℕ) (size : ℕ) : Type 0 where
  pub header : ℕ
  pub body : List ℕ
  pub begins : bytes ≡ header ∷ body
  pub clean : has_reserved_bit header ≡ false
  pub kind : is_definition header ≡ false
  pub place : Defined A
  pub known : defined_at e (local_type header) ≡ Some place
  pub long : size ≡ 1 + message_size place
  pub short : length bytes < size

-- That many bytes are missing of a data message of which the bytes are kept as they came. It has at most eight, and at least six bytes of
-- the room are to come after it.
pub record IsMissing {A : Type 0} (e : Environment A) (p : Position) (in_progress : Option (Record A)) (missing : ℕ) : Type 0 where
  pub phase : p.phase ≡ RecordHeader
  pub message : Values A
  pub is : in_progress ≡ Some (Data message)
  pub place : Defined A
  pub known : defined_at e message.local ≡ Some place
  pub all : length p.partial + missing ≡ 1 + message_size place
  pub some : 0 < missing
  pub short : 1 + message_size place ≤ 8
  pub large : missing + 6 ≤ p.room
