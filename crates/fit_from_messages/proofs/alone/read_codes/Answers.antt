use Rattle.std.proofs.Common.{rules, arith, ◌≡◌, ◌+◌, ◌-◌, ◌∷◌, ◌≤◌, length, refl}
use Rattle.fit_from_messages.specs.Parts.{byte_at, entries_of, size_fits}
use Rattle.fit_from_messages.proofs.CutEntries.{fails_at, first_stands, long_entry, one_more, others_stand, pushed, tested}
use Rattle.fit_from_messages.proofs.alone.read_codes.Goals as goal
use Rattle.fit_from_messages.proofs.alone.read_codes.Goals.{After-split_entry}

more : (c : After-split_entry) → entries_of (c.args.count - c.loop.counter) c.loop.rest.now
    ≡ c.split_entry.result.0.now ∷ entries_of (c.args.count - (c.loop.counter + 1)) c.split_entry.result.1.now
more c =
    one_more _ _ c.loop.rest.now c.split_entry.result.0.now c.split_entry.result.1.now (omega (arith, c.loop-test.true)) c.split_entry.ensures.entry
    c.split_entry.ensures.rest

pub code_in-requires : goal.code_in-requires
code_in-requires c =
    long_entry 1 _ (first_stands 1 _ _ c.split_entry.result.0.now c.loop.invariant.stand (more (goal.at.code_in-requires c).After-split_entry))

pub returns-in_default-clause-err : goal.returns-in_default-clause-err
returns-in_default-clause-err c =
    let next = more (goal.at.returns-in_default-clause-err c).After-split_entry in
    (refl, fails_at (λ e. size_fits (byte_at 7 e) e) _ _ _ c.split_entry.result.0.now c.loop.invariant.fit next (search rules))

pub loop-preserved : goal.loop-preserved
loop-preserved c =
    let next = more (goal.at.loop-preserved c).After-split_entry in record {
      stand = others_stand 1 _ _ c.split_entry.result.0.now c.loop.invariant.stand next;
      codes = pushed (byte_at 7) _ c.loop.codes c.push.new.self c.in-Some.code _ _ c.split_entry.result.0.now c.loop.invariant.codes next
          (search rules) (search rules);
      fit = tested (λ e. size_fits (byte_at 7 e) e) _ _ _ c.split_entry.result.0.now c.loop.invariant.fit next (search rules);
    }
