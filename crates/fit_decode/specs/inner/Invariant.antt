-- The invariant of a decoder, and what a caller sees of one. No public contract names these.
use Rattle.std.specs.Prelude.{◌≡◌, length}
use Rattle.fit_base.specs.Numbers.{IsBytes}
use Rattle.fit_record.specs.Files.{chain_limit, IsViable}
use Rattle.fit_decode.specs.declared.decoder.Decoder.TheInside.{Inside}
use Rattle.fit_decode.specs.Answers.{Seen}
use Rattle.fit_decode.specs.inner.Kept.{Fields, Holds, refusal_of}

abbrev pub fields_inside : {A : Type 0} → Inside A → Fields A
fields_inside d = record { stage = d.stage; reader = d.reader; sum = d.sum; env = d.env; position = d.position; in_progress = d.in_progress }

abbrev pub seen_in : {A : Type 0} → Inside A → Seen
seen_in d = record { bytes = d.history.items; refusal = refusal_of d.stage.section }

pub record IsSoundDecoder {A : Type 0} (d : Inside A) : Type 0 where
  pub viable : IsViable A chain_limit d.history.items
  pub are : IsBytes d.history.items
  pub counted : d.count ≡ length d.history.items
  pub holds : Holds (fields_inside d) d.history.items
