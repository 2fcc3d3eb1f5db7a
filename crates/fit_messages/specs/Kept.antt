-- What a report keeps of the events of a chain that it has heard: the block of the next event depends on nothing else of them.
use Rattle.std.specs.Prelude.{ℕ, ◌%◌, ◌^◌, List}
use Rattle.std.specs.Global.{Global}
use Rattle.fit_record.specs.declared.message.Record.{Record}
use Rattle.fit_chain.specs.Events.{Event}
use Rattle.fit_report.specs.Heard.{latest_records}
use Rattle.fit_messages.specs.Blocks.{bytes_heard, definitions_heard, begun_files, numbers_heard}

-- the records of the file that was begun last, the latest first; how many files have begun, and how many definitions have come; for
-- each local message type, how many had come before its own; and how many bytes there were, of which eight bytes are kept
pub record KeptHeard : Type 0 where
  pub records : List (Record Global)
  pub files : ℕ
  pub definitions : ℕ
  pub numbers : List ℕ
  pub place : ℕ

-- of these events, the latest first
abbrev pub kept_heard : List (Event Global) → KeptHeard
kept_heard heard = record {
  records = latest_records heard;
  files = begun_files heard;
  definitions = definitions_heard heard;
  numbers = numbers_heard heard;
  place = bytes_heard heard % 2 ^ 64;
}
