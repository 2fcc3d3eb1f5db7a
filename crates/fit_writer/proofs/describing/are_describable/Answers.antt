use Rattle.std.proofs.Common.{arith, ◌≡◌, ◌+◌, ◌-◌, ◌<◌, ◌∷◌, refl, drop, length, take}
use Rattle.std.specs.Prelude.{◌⊎◌}
use Rattle.std.specs.List.{AllByRecursion}
use Rattle.fit_from_messages.proofs.CutEntries.{first_stands, long_bytes, long_entry, one_more, others_stand}
use Rattle.fit_from_messages.specs.Parts.{entries_of, number_read}
use Rattle.fit_writer.proofs.ListedFields.{first_listed, listed_at, put_first, taken_first}
use Rattle.fit_writer.specs.Describing.{DevField, CanBeSaid, IsAlike, IsDescribedField}
use Rattle.fit_writer.specs.inner.Describing.{entry_fields, listed_fields}
use Rattle.fit_writer.proofs.describing.are_describable.Goals as goal
use Rattle.fit_writer.proofs.describing.are_describable.Goals.{After-split_entry}

pub split_entry-requires : goal.split_entry-requires
split_entry-requires c =
    let rest = c.loop-place.rest.now in
    let count = length c.args.all.now.fields.now in
    let first = one_more (count - c.loop-place.place) (count - (c.loop-place.place + 1)) rest (take (number_read 2 0 rest) rest)
    (drop (number_read 2 0 rest) rest) (omega (arith, c.loop-place-test.true)) refl refl in
    omega (arith, long_bytes 1 (number_read 2 0 rest) rest (first_stands 1 _ _ _ c.loop-place.invariant.stand first))

more : (c : After-split_entry) → entries_of (length c.args.all.now.fields.now - c.loop-place.place) c.loop-place.rest.now
    ≡ c.split_entry.result.0.now ∷ entries_of (length c.args.all.now.fields.now - (c.loop-place.place + 1)) c.split_entry.result.1.now
more c =
    one_more _ _ c.loop-place.rest.now c.split_entry.result.0.now c.split_entry.result.1.now (omega (arith, c.loop-place-test.true))
    c.split_entry.ensures.entry c.split_entry.ensures.rest

code_there : (c : After-split_entry) → c.loop-place.place < length c.args.all.now.codes.now
code_there c = omega (arith, c.loop-place-test.true, c.requires.listed_fields.many)

first : (c : After-split_entry)
    → entry_fields (drop c.loop-place.place c.args.all.now.fields.now) (drop c.loop-place.place c.args.all.now.codes.now)
    (entries_of (length c.args.all.now.fields.now - c.loop-place.place) c.loop-place.rest.now)
    ≡ listed_at c.args.all.now.fields.now c.args.all.now.codes.now c.loop-place.place c.split_entry.result.0.now
    ∷ entry_fields (drop (c.loop-place.place + 1) c.args.all.now.fields.now) (drop (c.loop-place.place + 1) c.args.all.now.codes.now)
    (entries_of (length c.args.all.now.fields.now - (c.loop-place.place + 1)) c.split_entry.result.1.now)
first c =
    first_listed c.args.all.now.fields.now c.args.all.now.codes.now c.loop-place.place _ _ c.split_entry.result.0.now c.loop-place-test.true
    (code_there c) (more c)

pub bounds-all-place : goal.bounds-all-place
bounds-all-place c = omega (arith, c.loop-place-test.true, c.requires.listed_fields.many)

pub is_describable-requires-clause-first : goal.is_describable-requires-clause-first
is_describable-requires-clause-first c =
    long_entry 1 _
    (first_stands 1 _ _ c.split_entry.result.0.now c.loop-place.invariant.stand (more (goal.at.is_describable-requires-clause-first c).After-split_entry))

-- what is asked of each
abbrev holds : After-split_entry → DevField → Type 0
holds c = λ x. (IsDescribedField c.args.stream.now x ⊎ CanBeSaid x.1) × AllByRecursion (IsAlike x) (listed_fields c.args.all.now)

pub returns-then-not-is_describable-clause-no : goal.returns-then-not-is_describable-clause-no
returns-then-not-is_describable-clause-no c = λ _ all.
    let a = (goal.at.returns-then-not-is_describable-clause-no c).After-split_entry in
    c.is_describable.ensures.no c.if-not-is_describable.true (taken_first (holds a) _ _ _ (first a) (c.loop-place.invariant.left.0 all)).0

pub loop-place-preserved : goal.loop-place-preserved
loop-place-preserved c =
    let a = (goal.at.loop-place-preserved c).After-split_entry in record {
      stand = others_stand 1 _ _ c.split_entry.result.0.now c.loop-place.invariant.stand (more a);
      left = (
        λ all. (taken_first (holds a) _ _ _ (first a) (c.loop-place.invariant.left.0 all)).1,
        λ rest. c.loop-place.invariant.left.1 (put_first (holds a) _ _ _ (first a) (c.is_describable.ensures.yes c.if-not-is_describable.false) rest),
      );
    }
