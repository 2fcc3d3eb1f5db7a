use Rattle.std.proofs.Common.{arith, ◌≡◌, ◌∙◌, ◌+◌, ◌-◌, ◌∷◌, refl, take, drop}
use Rattle.fit_profile.specs.Described.{namings_at}
use Rattle.fit_from_messages.proofs.CutEntries.{first_stands, long_bytes, long_entry, one_more, others_stand}
use Rattle.fit_from_messages.specs.Parts.{entries_of, number_read}
use Rattle.fit_writer.proofs.Namings.{all_named, drop_next, many_entries, named_next, not_named}
use Rattle.fit_writer.proofs.names.are_named.Goals as goal
use Rattle.fit_writer.proofs.names.are_named.Goals.{After-split_entry}

pub split_entry-requires : goal.split_entry-requires
split_entry-requires c =
    let rest = c.loop-place.rest.now in
    let first = one_more (c.args.count - c.loop-place.place) (c.args.count - (c.loop-place.place + 1)) rest (take (number_read 2 0 rest) rest)
    (drop (number_read 2 0 rest) rest) (omega (arith, c.loop-place-test.true)) refl refl in
    omega (arith, long_bytes 1 (number_read 2 0 rest) rest (first_stands 1 _ _ _ c.loop-place.invariant.stand first))

more : (c : After-split_entry) → entries_of (c.args.count - c.loop-place.place) c.loop-place.rest.now
    ≡ c.split_entry.result.0.now ∷ entries_of (c.args.count - (c.loop-place.place + 1)) c.split_entry.result.1.now
more c =
    one_more _ _ c.loop-place.rest.now c.split_entry.result.0.now c.split_entry.result.1.now (omega (arith, c.loop-place-test.true))
    c.split_entry.ensures.entry c.split_entry.ensures.rest

pub is_named-requires : goal.is_named-requires
is_named-requires c =
    long_entry 1 _ (first_stands 1 _ _ c.split_entry.result.0.now c.loop-place.invariant.stand (more (goal.at.is_named-requires c).After-split_entry))

pub returns-then-not-is_named-clause-no : goal.returns-then-not-is_named-clause-no
returns-then-not-is_named-clause-no c = λ _ same.
    not_named (namings_at c.args.stream.now c.args.local) (entries_of c.args.count c.args.entries.now) _ c.loop-place.place c.split_entry.result.0.now
    (c.loop-place.invariant.left ∙ more (goal.at.returns-then-not-is_named-clause-no c).After-split_entry) (c.is_named.ensures.no c.if-not-is_named.true) same

pub loop-place-preserved : goal.loop-place-preserved
loop-place-preserved c =
    let next = more (goal.at.loop-place-preserved c).After-split_entry in
    let all = entries_of c.args.count c.args.entries.now in
    let here = c.loop-place.invariant.left ∙ next in record {
      left = drop_next c.loop-place.place all _ c.split_entry.result.0.now here;
      stand = others_stand 1 _ _ c.split_entry.result.0.now c.loop-place.invariant.stand next;
      first = named_next (namings_at c.args.stream.now c.args.local) all _ c.loop-place.place c.split_entry.result.0.now
          (omega (arith, c.requires.many, c.loop-place-test.true)) here c.loop-place.invariant.first (c.is_named.ensures.yes c.if-not-is_named.false);
    }

pub returns-clause-yes : goal.returns-clause-yes
returns-clause-yes c = λ _.
    let all = entries_of c.args.count c.args.entries.now in
    all_named (namings_at c.args.stream.now c.args.local) all c.loop-place.place
    (omega (arith, c.requires.many, c.loop-place-test.false, c.loop-place.auto.place-end))
    (omega (arith, many_entries c.args.count c.args.entries.now, c.loop-place-test.false, c.loop-place.auto.place-end)) c.loop-place.invariant.first
