-- A record that is whole in the piece is told; where there is none nothing has changed.
use Rattle.fit_decode.proofs.Common.{◌≡◌, ◌∙◌, ◌++◌, refl, arith, Ok, take, layout, slice_is_bytes, fields_inside}
use Rattle.fit_decode.specs.contracts.decoder.Decoder.{the_row}
use Rattle.fit_decode.specs.contracts.decoder.Decoder.feed.{A-row}
use Rattle.fit_record.specs.declared.message.Record.TheVariants.{Values as Message}
use Rattle.fit_chain.specs.declared.event.Event.TheVariants.{Item}
use Rattle.fit_record.proofs.Sizes.{field_is_within}
use Rattle.fit_decode.proofs.Advancing.{data_reading}
use Rattle.fit_decode.proofs.Feeding.{Took, within, few_bytes, still_kept, feeds_event}
use Rattle.fit_decode.proofs.Items.{record_taken}
use Rattle.fit_decode.proofs.decoder.Decoder.feed.Given as given
use Rattle.fit_decode.proofs.decoder.Decoder.feed.Goals as goal
use Rattle.fit_decode.proofs.decoder.Decoder.feed.Goals.{In-Ok-Some, Joined-read_message, In-Ok-Some-read_whole_definition, Joined-self, in-Ok-None, in-Err}
use Rattle.fit_decode.proofs.decoder.Decoder.feed.Goals.{in-Data+in-Ok-None-read_whole_definition, in-Data+in-Err-read_whole_definition, in_default}

-- a data message
message : (g : given.Over) (c : In-Ok-Some g)
    → Took c.self.inside (record c.self.inside { position = c.read_message.new.position; sum = c.self.inside.sum ++ take c.in-Ok-Some.used c.args.piece.now })
    c.args.piece.now c.in-Ok-Some.used (Ok (Item (Message c.in-Ok-Some.values)))
message g c =
    let told = rw c.in-Ok-Some.field-0-is at c.in-Ok-Some.ensures in
    record_taken c.self.inside c.self.invariant c.in-Data.is c.args.piece.now (slice_is_bytes c.args.piece.now c.type_inv.piece)
    c.self.inside.env c.read_message.new.position c.in-Ok-Some.used (Message c.in-Ok-Some.values) told.reads (omega (arith, told.left))

-- where there is none the position stays
unread : (g : given.Over) (c : Joined-read_message g) → c.read_message.new.position ≡ c.self.inside.position
unread g c =
    elim c.match-read_message.branch [
      | in-Ok-None w ↦ let told = rw w.in-Ok-None.field-0-is at w.in-Ok-None.ensures in told.none
      | in-Err w ↦ w.in-Err.ensures.err
    ]

-- a definition message
definition : (g : given.Over) (c : In-Ok-Some-read_whole_definition g) → c.read_message.new.position ≡ c.self.inside.position
    → Took c.self.inside (record c.self.inside {
      env = c.read_whole_definition.new.env;
      position = c.read_whole_definition.new.position;
      sum = c.self.inside.sum ++ take c.in-Ok-Some-read_whole_definition.used c.args.piece.now;
    }) c.args.piece.now c.in-Ok-Some-read_whole_definition.used (Ok (Item c.in-Ok-Some-read_whole_definition.record))
definition g c same =
    let told = rw c.in-Ok-Some-read_whole_definition.field-0-is at c.in-Ok-Some-read_whole_definition.ensures in
    let reads = rw same at told.reads in
    record_taken c.self.inside c.self.invariant c.in-Data.is c.args.piece.now (slice_is_bytes c.args.piece.now c.type_inv.piece)
    c.read_whole_definition.new.env c.read_whole_definition.new.position c.in-Ok-Some-read_whole_definition.used
    c.in-Ok-Some-read_whole_definition.record reads (omega (arith, told.left))

-- where no record was read what a caller sees stays
stays : (g : given.Over) (c : Joined-self g) → c.match-self.self ≡ c.args.self.now
stays g c =
    elim c.match-self.branch [
      | in-Data+in-Ok-None-read_whole_definition w ↦ w.self-is ∙ c.self.view_is
      | in-Data+in-Err-read_whole_definition w ↦ w.self-is ∙ c.self.view_is
      | in_default w ↦ let is = w.self-is in let seen = c.self.view_is in cc
    ]

pub read_message-requires : goal.read_message-requires
read_message-requires g c = (
  field_is_within 3 (layout (the_row (A-row g.row.A) g.A.Allocator)) _ assumption,
  data_reading c.self.invariant c.in-Data.is,
)

pub cover-requires : goal.cover-requires
cover-requires g c = within (message g (goal.at.cover-requires g c).In-Ok-Some)

pub count_fed-requires-clause-within : goal.count_fed-requires-clause-within
count_fed-requires-clause-within g c = within (message g (goal.at.count_fed-requires-clause-within g c).In-Ok-Some)

pub count_fed-requires-clause-fits : goal.count_fed-requires-clause-fits
count_fed-requires-clause-fits g c = few_bytes (message g (goal.at.count_fed-requires-clause-fits g c).In-Ok-Some)

pub invariant_of-self : goal.invariant_of-self
invariant_of-self g c =
    still_kept (message g (goal.at.invariant_of-self g c).In-Ok-Some) _ c.count_fed.ensures.noted c.count_fed.ensures.counted
    (λ i. record (fields_inside c.self.inside) { position = c.read_message.new.position; sum = c.cover.ensures i }) tt

pub returns-in-Ok-Some : goal.returns-in-Ok-Some
returns-in-Ok-Some g c =
    let told = feeds_event (message g (goal.at.returns-in-Ok-Some g c).In-Ok-Some) c.self.view_is c.count_fed.new.history.items
    c.count_fed.ensures.noted (Item (Message c.in-Ok-Some.values)) refl in
    record {
      latched = told.latched;
      used = told.used;
      more = told.more;
      event = told.event;
      refused = told.refused;
      memory = told.memory;
      others = told.others;
      viable = (invariant_of-self g c).viable;
    }

pub read_whole_definition-requires : goal.read_whole_definition-requires
read_whole_definition-requires g c = (
  field_is_within 3 (layout (the_row (A-row g.row.A) g.A.Allocator)) _ assumption,
  rw (unread g (goal.at.read_whole_definition-requires g c).Joined-read_message) (data_reading c.self.invariant c.in-Data.is),
)

pub cover-requires-in-Ok-Some-read_whole_definition : goal.cover-requires-in-Ok-Some-read_whole_definition
cover-requires-in-Ok-Some-read_whole_definition g c =
    let here = goal.at.cover-requires-in-Ok-Some-read_whole_definition g c in
    within (definition g here.In-Ok-Some-read_whole_definition (unread g here.Joined-read_message))

pub count_fed-requires-in-Ok-Some-read_whole_definition-clause-within : goal.count_fed-requires-in-Ok-Some-read_whole_definition-clause-within
count_fed-requires-in-Ok-Some-read_whole_definition-clause-within g c =
    let here = goal.at.count_fed-requires-in-Ok-Some-read_whole_definition-clause-within g c in
    within (definition g here.In-Ok-Some-read_whole_definition (unread g here.Joined-read_message))

pub count_fed-requires-in-Ok-Some-read_whole_definition-clause-fits : goal.count_fed-requires-in-Ok-Some-read_whole_definition-clause-fits
count_fed-requires-in-Ok-Some-read_whole_definition-clause-fits g c =
    let here = goal.at.count_fed-requires-in-Ok-Some-read_whole_definition-clause-fits g c in
    few_bytes (definition g here.In-Ok-Some-read_whole_definition (unread g here.Joined-read_message))

pub invariant_of-self-in-Ok-Some-read_whole_definition : goal.invariant_of-self-in-Ok-Some-read_whole_definition
invariant_of-self-in-Ok-Some-read_whole_definition g c =
    let here = goal.at.invariant_of-self-in-Ok-Some-read_whole_definition g c in
    still_kept (definition g here.In-Ok-Some-read_whole_definition (unread g here.Joined-read_message)) _
    c.count_fed-in-Ok-Some-read_whole_definition.ensures.noted c.count_fed-in-Ok-Some-read_whole_definition.ensures.counted
    (λ i. record (fields_inside c.self.inside) {
      env = c.read_whole_definition.new.env;
      position = c.read_whole_definition.new.position;
      sum = c.cover-in-Ok-Some-read_whole_definition.ensures i;
    }) tt

pub returns-in-Ok-Some-read_whole_definition : goal.returns-in-Ok-Some-read_whole_definition
returns-in-Ok-Some-read_whole_definition g c =
    let here = goal.at.returns-in-Ok-Some-read_whole_definition g c in
    let told = feeds_event (definition g here.In-Ok-Some-read_whole_definition (unread g here.Joined-read_message)) c.self.view_is
    c.count_fed-in-Ok-Some-read_whole_definition.new.history.items c.count_fed-in-Ok-Some-read_whole_definition.ensures.noted
    (Item c.in-Ok-Some-read_whole_definition.record) refl in
    record {
      latched = told.latched;
      used = told.used;
      more = told.more;
      event = told.event;
      refused = told.refused;
      memory = told.memory;
      others = told.others;
      viable = (invariant_of-self-in-Ok-Some-read_whole_definition g c).viable;
    }

pub invariant_of-self-in-Ok-None-read_whole_definition : goal.invariant_of-self-in-Ok-None-read_whole_definition
invariant_of-self-in-Ok-None-read_whole_definition g c =
    let told = rw c.in-Ok-None-read_whole_definition.field-0-is at c.in-Ok-None-read_whole_definition.ensures in
    rw (told.none.0, told.none.1, unread g (goal.at.invariant_of-self-in-Ok-None-read_whole_definition g c).Joined-read_message) c.self.invariant

pub invariant_of-self-in-Err-read_whole_definition : goal.invariant_of-self-in-Err-read_whole_definition
invariant_of-self-in-Err-read_whole_definition g c =
    let told = c.in-Err-read_whole_definition.ensures.err in
    rw (told.0, told.1, unread g (goal.at.invariant_of-self-in-Err-read_whole_definition g c).Joined-read_message) c.self.invariant

pub returns : goal.returns
returns g c =
    let told = rw (stays g (goal.at.returns g c).Joined-self) at c.feed_part.ensures.feeds in
    record {
      latched = told.latched;
      used = told.used;
      more = told.more;
      event = told.event;
      refused = told.refused;
      memory = told.memory;
      others = told.others;
      viable = c.feed_part.ensures.viable;
    }

pub feed_part-requires : goal.feed_part-requires
feed_part-requires g c = assumption
