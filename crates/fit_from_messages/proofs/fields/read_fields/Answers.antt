use Rattle.std.proofs.Common.{rules, arith, ◌≡◌, ◌+◌, ◌-◌, ◌∷◌, ◌≤◌, length, refl}
use Rattle.fit_from_messages.specs.Parts.{byte_at, entries_of, field_in, size_fits, slot_in}
use Rattle.fit_from_messages.proofs.CutEntries.{fails_at, first_stands, long_entry, one_more, others_stand, pushed, tested}
use Rattle.fit_from_messages.proofs.fields.read_fields.Goals as goal
use Rattle.fit_from_messages.proofs.fields.read_fields.Goals.{After-split_entry}

more : (c : After-split_entry) → entries_of (c.args.count - c.loop.counter) c.loop.rest.now
    ≡ c.split_entry.result.0.now ∷ entries_of (c.args.count - (c.loop.counter + 1)) c.split_entry.result.1.now
more c =
    one_more _ _ c.loop.rest.now c.split_entry.result.0.now c.split_entry.result.1.now (omega (arith, c.loop-test.true)) c.split_entry.ensures.entry
    c.split_entry.ensures.rest

long : (c : After-split_entry) → 32 ≤ length c.split_entry.result.0.now
long c = long_entry 0 _ (first_stands 0 _ _ c.split_entry.result.0.now c.loop.invariant.stand (more c))

pub field_in-requires : goal.field_in-requires
field_in-requires c = long (goal.at.field_in-requires c).After-split_entry

pub slot_in-requires : goal.slot_in-requires
slot_in-requires c = long (goal.at.slot_in-requires c).After-split_entry

pub returns-in_default-clause-err : goal.returns-in_default-clause-err
returns-in_default-clause-err c =
    let next = more (goal.at.returns-in_default-clause-err c).After-split_entry in
    (refl, fails_at (λ e. size_fits (byte_at 7 e) e) _ _ _ c.split_entry.result.0.now c.loop.invariant.fit next (search rules))

pub loop-preserved : goal.loop-preserved
loop-preserved c =
    let next = more (goal.at.loop-preserved c).After-split_entry in record {
      stand = others_stand 0 _ _ c.split_entry.result.0.now c.loop.invariant.stand next;
      fields = pushed field_in _ c.loop.fields c.push.new.self c.in-Some.field _ _ c.split_entry.result.0.now c.loop.invariant.fields next
          (search rules) (search rules);
      slots = pushed slot_in _ c.loop.slots c.push-else-is_err.new.self c.slot_in.result _ _ c.split_entry.result.0.now c.loop.invariant.slots next
          (search rules) (search rules);
      fit = tested (λ e. size_fits (byte_at 7 e) e) _ _ _ c.split_entry.result.0.now c.loop.invariant.fit next (search rules);
    }
