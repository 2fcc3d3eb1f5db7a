use Rattle.std.proofs.Common.{arith, ◌≡◌, ◌+◌, ◌-◌, ◌<◌, ◌∷◌, refl, drop, length, take}
use Rattle.fit_from_messages.proofs.CutEntries.{first_stands, long_bytes, long_entry, one_more, others_stand}
use Rattle.fit_from_messages.specs.Parts.{entries_of, number_read}
use Rattle.fit_writer.proofs.DescribedNow.{first_left, left_first}
use Rattle.fit_writer.proofs.described.are_described.Goals as goal
use Rattle.fit_writer.proofs.described.are_described.Goals.{After-split_entry}

pub split_entry-requires : goal.split_entry-requires
split_entry-requires c =
    let rest = c.loop-place.rest.now in
    let count = length c.args.fields.now in
    let first = one_more (count - c.loop-place.place) (count - (c.loop-place.place + 1)) rest (take (number_read 2 0 rest) rest)
    (drop (number_read 2 0 rest) rest) (omega (arith, c.loop-place-test.true)) refl refl in
    omega (arith, long_bytes 1 (number_read 2 0 rest) rest (first_stands 1 _ _ _ c.loop-place.invariant.stand first))

more : (c : After-split_entry) → entries_of (length c.args.fields.now - c.loop-place.place) c.loop-place.rest.now
    ≡ c.split_entry.result.0.now ∷ entries_of (length c.args.fields.now - (c.loop-place.place + 1)) c.split_entry.result.1.now
more c =
    one_more _ _ c.loop-place.rest.now c.split_entry.result.0.now c.split_entry.result.1.now (omega (arith, c.loop-place-test.true))
    c.split_entry.ensures.entry c.split_entry.ensures.rest

pub is_described-requires : goal.is_described-requires
is_described-requires c =
    long_entry 1 _
    (first_stands 1 _ _ c.split_entry.result.0.now c.loop-place.invariant.stand (more (goal.at.is_described-requires c).After-split_entry))

code_there : (c : After-split_entry) → c.loop-place.place < length c.args.codes.now
code_there c = omega (arith, c.loop-place-test.true, c.requires.many)

pub returns-then-not-is_described-clause-no : goal.returns-then-not-is_described-clause-no
returns-then-not-is_described-clause-no c = λ _ all.
    let a = (goal.at.returns-then-not-is_described-clause-no c).After-split_entry in
    c.is_described.ensures.no c.if-not-is_described.true
    (first_left c.args.stream.now c.args.fields.now c.args.codes.now c.loop-place.place _ _ c.split_entry.result.0.now c.loop-place-test.true
    (code_there a) (more a) (c.loop-place.invariant.left.0 all)).0

pub loop-place-preserved : goal.loop-place-preserved
loop-place-preserved c =
    let a = (goal.at.loop-place-preserved c).After-split_entry in
    let s = c.args.stream.now in
    let fields = c.args.fields.now in
    let codes = c.args.codes.now in
    let place = c.loop-place.place in
    let entry = c.split_entry.result.0.now in record {
      stand = others_stand 1 _ _ entry c.loop-place.invariant.stand (more a);
      left = (
        λ all. (first_left s fields codes place _ _ entry c.loop-place-test.true (code_there a) (more a) (c.loop-place.invariant.left.0 all)).1,
        λ rest. c.loop-place.invariant.left.1 (left_first s fields codes place _ _ entry c.loop-place-test.true (code_there a) (more a)
            (c.is_described.ensures.yes c.if-not-is_described.false) rest),
      );
    }
