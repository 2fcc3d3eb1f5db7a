-- What is noted of an event. No public contract names this.
use Rattle.std.specs.Prelude.{List, [], ◌∷◌}
use Rattle.fit_record.specs.declared.message.Record.{Record}
use Rattle.fit_chain.specs.declared.event.Event.{Event as Answer}
use Rattle.fit_chain.specs.declared.event.Event.TheVariants as answers
use Rattle.fit_examples.specs.declared.moments.Moment.{Moment}
use Rattle.fit_examples.specs.HeartRates.{record_moments}

-- the records of the file that was begun last, latest first
abbrev pub records_after_event : {A : Type 0} → List (Record A) → Answer A → List (Record A)
records_after_event before answers.More = before
records_after_event before (answers.Header h n) = []
records_after_event before (answers.Item r) = r ∷ before
records_after_event before answers.FileEnd = before

abbrev pub event_moments : {A : Type 0} → List (Record A) → Answer A → List Moment
event_moments before (answers.Item r) = record_moments before r
event_moments before other = []
