use Rattle.fit_decode.proofs.Common.{◌≡◌, None, Ok, Err, refl, sym, ap, ◌∙◌, layout, slice_is_bytes, fields_inside, refusal_of}
use Rattle.fit_decode.specs.contracts.decoder.Decoder.{the_row}
use Rattle.fit_decode.specs.contracts.decoder.Decoder.feed_part.{A-row}
use Rattle.fit_step.specs.declared.stop.Stop.TheVariants as stops
use Rattle.fit_chain.specs.declared.event.Event.TheVariants as events
use Rattle.fit_decode.specs.declared.section.Part.TheVariants as parts
use Rattle.fit_record.proofs.Sizes.{field_is_within}
use Rattle.fit_decode.proofs.Advancing.{at_section, header_fresh, header_open, data_reading, sum_few}
use Rattle.fit_decode.proofs.Sections.{header_fed, data_fed}
use Rattle.fit_decode.proofs.ClosingSums.{sum_fed}
use Rattle.fit_decode.specs.inner.Sections.{as_event, left_by}
use Rattle.fit_decode.proofs.Placed.{left_idle}
use Rattle.fit_decode.proofs.Feeding.{Took, takes, within, few_bytes, still_kept, refused_kept, not_refused, not_for_memory, was_viable}
use Rattle.fit_decode.proofs.Feeding.{feeds_latched, feeds_event, feeds_refusal, feeds_want}
use Rattle.fit_decode.proofs.decoder.Decoder.feed_part.Given as given
use Rattle.fit_decode.proofs.decoder.Decoder.feed_part.Goals as goal
use Rattle.fit_decode.proofs.decoder.Decoder.feed_part.Goals.{Joined-self, in-Header, in-Data, in-ClosingSum}
use Rattle.fit_decode.proofs.decoder.Decoder.feed_part.Goals.{In-Ok-More, After-take_event-event, In-Err-Refused, In-Err-NoMemory}

-- where the sections meet
took : (g : given.Over) (c : Joined-self g)
    → Took c.self.inside (record c.match-self.self-inside { in_progress = left_by c.match-self.self-inside.in_progress c.match-self.used.1 })
    c.args.piece.now c.match-self.used.0 (as_event c.match-self.self-inside.in_progress c.match-self.head
    c.match-self.used.1)
took g c =
    let k = c.self.invariant in
    let low = slice_is_bytes c.args.piece.now c.type_inv.piece in
    let d = fields_inside c.self.inside in
    elim c.match-self.branch [
      | in-Header w ↦
          let f = w.feed_header in
          rw (w.used-is, w.self-inside-is, w.head-is, left_idle d.in_progress f.result.1 (at_section k w.in-Header.is).idle)
          (takes k (ap refusal_of w.in-Header.is) low
          (header_fed d w.in-Header.is c.self.inside.history.items c.args.piece.now (at_section k w.in-Header.is) k.are low
          f.new.self f.new.reader f.new.position f.new.sum f.new.head f.result.0 f.result.1 f.ensures) refl refl)
      | in-Data w ↦
          let f = w.feed_data in
          rw (w.used-is, w.self-inside-is, w.head-is) (takes k (ap refusal_of w.in-Data.is) low
          (data_fed d w.in-Data.is c.self.inside.history.items c.args.piece.now (at_section k w.in-Data.is) k.are low
          f.new.self f.new.env f.new.position (left_by f.new.in_progress f.result.1) f.new.sum f.result.0
          (as_event f.new.in_progress None f.result.1)
          (f.ensures None))
          refl refl)
      | in-ClosingSum w ↦
          let f = w.feed_sum in
          rw (w.used-is, w.self-inside-is, w.head-is, left_idle d.in_progress f.result.1 (at_section k w.in-ClosingSum.is).idle)
          (takes k (ap refusal_of w.in-ClosingSum.is) low
          (sum_fed d w.in-ClosingSum.is c.self.inside.history.items c.args.piece.now (at_section k w.in-ClosingSum.is) k.are low
          f.new.self f.new.env f.new.sum f.result.0 (as_event d.in_progress None f.result.1)
          (f.ensures d.in_progress None)) refl refl)
    ]

-- what was answered, by the arm
more : (g : given.Over) (c : In-Ok-More g) → c.match-self.used.1 ≡ Ok parts.More
more g c = c.in-Ok-More.is ∙ ap Ok (rw c.in-Ok-More.is at c.in-Ok-More.field-0-is)

refused : (g : given.Over) (c : In-Err-Refused g) → c.match-self.used.1 ≡ Err (stops.Refused c.in-Err-Refused.reason)
refused g c = c.in-Err-Refused.is ∙ ap Err (rw c.in-Err-Refused.is at c.in-Err-Refused.field-0-is)

no_memory : (g : given.Over) (c : In-Err-NoMemory g) → c.match-self.used.1 ≡ Err stops.NoMemory
no_memory g c = c.in-Err-NoMemory.is ∙ ap Err (rw c.in-Err-NoMemory.is at c.in-Err-NoMemory.field-0-is)

-- what it tells
event_told : (g : given.Over) (c : After-take_event-event g)
    → as_event c.match-self.self-inside.in_progress c.match-self.head c.match-self.used.1 ≡ Ok c.take_event-event.result
event_told g c = ap (as_event c.match-self.self-inside.in_progress c.match-self.head) c.in-Ok.is ∙ sym c.take_event-event.ensures.event

pub returns-in-Latched : goal.returns-in-Latched
returns-in-Latched g c = record {
  feeds = rw c.refused_at.ensures
      (feeds_latched c.self.inside c.self.invariant c.args.self.now c.self.view_is c.args.piece.now c.in-Latched.reason c.in-Latched.is);
  viable = was_viable c.self.inside c.self.invariant c.args.self.now c.self.view_is;
}

pub feed_header-requires-clause-fresh : goal.feed_header-requires-clause-fresh
feed_header-requires-clause-fresh g c = header_fresh c.self.invariant c.in-Header.is

pub feed_header-requires-clause-begun : goal.feed_header-requires-clause-begun
feed_header-requires-clause-begun g c = header_open c.self.invariant c.in-Header.is

pub feed_data-requires : goal.feed_data-requires
feed_data-requires g c = (
  field_is_within 3 (layout (the_row (A-row g.row.A) g.A.Allocator)) _ assumption,
  data_reading c.self.invariant c.in-Data.is,
)

pub feed_sum-requires : goal.feed_sum-requires
feed_sum-requires g c = (
  field_is_within 3 (layout (the_row (A-row g.row.A) g.A.Allocator)) _ assumption,
  sum_few c.self.invariant c.in-ClosingSum.is,
)

pub let_go-requires : goal.let_go-requires
let_go-requires g c = field_is_within 3 (layout (the_row (A-row g.row.A) g.A.Allocator)) _ assumption

pub count_fed-requires-clause-within : goal.count_fed-requires-clause-within
count_fed-requires-clause-within g c = within (took g (goal.at.count_fed-requires-clause-within g c).Joined-self)

pub count_fed-requires-clause-fits : goal.count_fed-requires-clause-fits
count_fed-requires-clause-fits g c = few_bytes (took g (goal.at.count_fed-requires-clause-fits g c).Joined-self)

pub invariant_of-self : goal.invariant_of-self
invariant_of-self g c =
    let same = more g (goal.at.invariant_of-self g c).In-Ok-More in
    still_kept (took g (goal.at.invariant_of-self g c).Joined-self) _
    c.count_fed.ensures.noted c.count_fed.ensures.counted
    (λ i. record (fields_inside c.match-self.self-inside) { in_progress = ap (left_by c.match-self.self-inside.in_progress) (sym same) i })
    (not_refused (ap (as_event c.match-self.self-inside.in_progress c.match-self.head) same))

pub invariant_of-self-in-Ok : goal.invariant_of-self-in-Ok
invariant_of-self-in-Ok g c =
    still_kept (took g (goal.at.invariant_of-self-in-Ok g c).Joined-self) _
    c.count_fed.ensures.noted c.count_fed.ensures.counted
    (λ i. record (fields_inside c.match-self.self-inside) {
      in_progress = (c.take_event-event.ensures.left ∙ ap (left_by c.match-self.self-inside.in_progress) (sym c.in-Ok.is)) i;
    })
    (not_refused (event_told g (goal.at.invariant_of-self-in-Ok g c).After-take_event-event))

pub invariant_of-self-in-Err-Refused : goal.invariant_of-self-in-Err-Refused
invariant_of-self-in-Err-Refused g c =
    refused_kept (took g (goal.at.invariant_of-self-in-Err-Refused g c).Joined-self) _
    c.count_fed.ensures.noted c.count_fed.ensures.counted c.in-Err-Refused.reason refl c.let_go.ensures.known
    c.let_go.ensures.idle

pub invariant_of-self-in-Err-NoMemory : goal.invariant_of-self-in-Err-NoMemory
invariant_of-self-in-Err-NoMemory g c =
    let same = no_memory g (goal.at.invariant_of-self-in-Err-NoMemory g c).In-Err-NoMemory in
    still_kept (took g (goal.at.invariant_of-self-in-Err-NoMemory g c).Joined-self) _
    c.count_fed.ensures.noted c.count_fed.ensures.counted
    (λ i. record (fields_inside c.match-self.self-inside) { in_progress = ap (left_by c.match-self.self-inside.in_progress) (sym same) i })
    (not_for_memory (ap (as_event c.match-self.self-inside.in_progress c.match-self.head) same))

pub returns-in-Ok-More : goal.returns-in-Ok-More
returns-in-Ok-More g c =
    let same = more g (goal.at.returns-in-Ok-More g c).In-Ok-More in
    record {
      feeds = feeds_event (took g (goal.at.returns-in-Ok-More g c).Joined-self) c.self.view_is c.count_fed.new.history.items
          c.count_fed.ensures.noted events.More (ap (as_event c.match-self.self-inside.in_progress c.match-self.head) same);
      viable = (invariant_of-self g c).viable;
    }

pub returns-in-Ok : goal.returns-in-Ok
returns-in-Ok g c = record {
  feeds = feeds_event (took g (goal.at.returns-in-Ok g c).Joined-self) c.self.view_is c.count_fed.new.history.items
      c.count_fed.ensures.noted c.take_event-event.result (event_told g (goal.at.returns-in-Ok g c).After-take_event-event);
  viable = (invariant_of-self-in-Ok g c).viable;
}

pub returns-in-Err-Refused : goal.returns-in-Err-Refused
returns-in-Err-Refused g c =
    let same = refused g (goal.at.returns-in-Err-Refused g c).In-Err-Refused in
    record {
      feeds = rw c.refused_at-in-Err-Refused.ensures (feeds_refusal (took g (goal.at.returns-in-Err-Refused g c).Joined-self) c.self.view_is
          c.count_fed.new.history.items c.count_fed.ensures.noted c.in-Err-Refused.reason
          (ap (as_event c.match-self.self-inside.in_progress c.match-self.head) same) c.count_fed.new.count c.count_fed.ensures.counted);
      viable = (invariant_of-self-in-Err-Refused g c).viable;
    }

pub returns-in-Err-NoMemory : goal.returns-in-Err-NoMemory
returns-in-Err-NoMemory g c =
    let same = no_memory g (goal.at.returns-in-Err-NoMemory g c).In-Err-NoMemory in
    record {
      feeds = feeds_want (took g (goal.at.returns-in-Err-NoMemory g c).Joined-self) c.self.view_is c.count_fed.new.history.items
          c.count_fed.ensures.noted (ap (as_event c.match-self.self-inside.in_progress c.match-self.head) same);
      viable = (invariant_of-self-in-Err-NoMemory g c).viable;
    }
