-- What the reporter does with an event, by what it keeps of those before it. No public contract names these.
use Rattle.std.specs.Prelude.{ℕ, ◌+◌, ◌%◌, ◌^◌, List, [], ◌∷◌, length, slice_index_or, slice_set}
use Rattle.std.specs.Global.{Global}
use Rattle.fit_record.specs.declared.message.Record.{Record}
use Rattle.fit_record.specs.declared.message.Record.TheVariants.{Define, Values as Data}
use Rattle.fit_record.specs.Environment.{defined_by}
use Rattle.fit_record.specs.Records.{Fits, record_bytes}
use Rattle.fit_chain.specs.Events.{Event, header, item, file_end}
use Rattle.fit_chain.specs.declared.event.Event.{Event as Answer}
use Rattle.fit_chain.specs.declared.event.Event.TheVariants as answers
use Rattle.fit_profile.specs.Described.{namings_at}
use Rattle.fit_profile.specs.Looks.{known}
use Rattle.fit_messages.specs.Blocks.{definition_block, end_block, header_block, message_after}
use Rattle.fit_messages.specs.Kept.{KeptHeard}

-- the record of an answer fits after these records
abbrev pub AnswerFits : {A : Type 0} → List (Record A) → Answer A → Type 0
AnswerFits before (answers.Item r) = Fits (known before) r
AnswerFits before other = Unit {0}

-- a place after that many bytes more
abbrev pub later : ℕ → ℕ → ℕ
later place n = (place + n) % 2 ^ 64

-- what is kept after an event
abbrev pub kept_next : KeptHeard → Event Global → KeptHeard
kept_next k (header h n) = record k { records = []; files = k.files + 1; place = later k.place h.size }
kept_next k (item (Define d)) = record k {
  records = Define d ∷ k.records;
  definitions = k.definitions + 1;
  numbers = slice_set k.numbers d.local k.definitions;
  place = later k.place (length (record_bytes (known k.records) (Define d)));
}
kept_next k (item (Data v)) = record k {
  records = Data v ∷ k.records;
  place = later k.place (length (record_bytes (known k.records) (Data v)));
}
kept_next k file_end = record k { place = later k.place 2 }

-- the block of an event by what is kept
abbrev pub block_next : KeptHeard → Event Global → List ℕ
block_next k (header h n) = header_block (k.files + 1) k.place h n
block_next k (item (Define d)) =
    definition_block k.files k.place k.definitions (defined_by (known k.records) d) (namings_at (Define d ∷ k.records) d.local)
block_next k (item (Data v)) = message_after k.records k.files k.place (slice_index_or k.numbers v.local 0) v
block_next k file_end = end_block k.files k.place
