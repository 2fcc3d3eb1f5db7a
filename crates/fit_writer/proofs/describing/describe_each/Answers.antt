use Rattle.std.proofs.Common.{arith, ◌≡◌, ◌∙◌, ◌+◌, ◌-◌, ◌<◌, ◌∷◌, ◌++◌, [], List, refl, sym, ap, subst, drop, length, take}
use Rattle.std.proofs.lemmas.Result.{err_from_is_err_and}
use Rattle.fit_from_messages.proofs.CutEntries.{first_stands, long_bytes, long_entry, one_more, others_stand}
use Rattle.fit_from_messages.specs.Parts.{entries_of, number_read}
use Rattle.fit_writer.proofs.EachDescribed.{each_more, next_can, some_more}
use Rattle.fit_writer.proofs.HalfDescribed.{becomes_stream, half_from, same_header}
use Rattle.fit_writer.proofs.ListedFields.{all_done, done_more, first_listed, listed_at, none_listed}
use Rattle.fit_writer.specs.Describing.{DescribesEach, DescribesField, DescribesSome, DevField}
use Rattle.fit_writer.specs.inner.Describing.{entry_fields, listed_fields}
use Rattle.fit_writer.proofs.describing.describe_each.Goals as goal
use Rattle.fit_writer.proofs.describing.describe_each.Goals.{After-split_entry}

pub split_entry-requires : goal.split_entry-requires
split_entry-requires c =
    let rest = c.loop-place.rest.now in
    let count = length c.args.all.now.fields.now in
    let first = one_more (count - c.loop-place.place) (count - (c.loop-place.place + 1)) rest (take (number_read 2 0 rest) rest)
    (drop (number_read 2 0 rest) rest) (omega (arith, c.loop-place-test.true)) refl refl in
    omega (arith, long_bytes 1 (number_read 2 0 rest) rest (first_stands 1 _ _ _ c.loop-place.invariant.stand first))

more : (c : After-split_entry) → entries_of (length c.args.all.now.fields.now - c.loop-place.place) c.loop-place.rest.now
    ≡ c.split_entry.result.0.now ∷ entries_of (length c.args.all.now.fields.now - (c.loop-place.place + 1)) c.split_entry.result.1.now
more c =
    one_more _ _ c.loop-place.rest.now c.split_entry.result.0.now c.split_entry.result.1.now (omega (arith, c.loop-place-test.true))
    c.split_entry.ensures.entry c.split_entry.ensures.rest

code_there : (c : After-split_entry) → c.loop-place.place < length c.args.all.now.codes.now
code_there c = omega (arith, c.loop-place-test.true, c.requires.listed_fields.many)

-- the developer field that comes next, and those after it
abbrev next : After-split_entry → DevField
next c = listed_at c.args.all.now.fields.now c.args.all.now.codes.now c.loop-place.place c.split_entry.result.0.now

abbrev left : After-split_entry → List DevField
left c =
    entry_fields (drop (c.loop-place.place + 1) c.args.all.now.fields.now) (drop (c.loop-place.place + 1) c.args.all.now.codes.now)
    (entries_of (length c.args.all.now.fields.now - (c.loop-place.place + 1)) c.split_entry.result.1.now)

first : (c : After-split_entry)
    → entry_fields (drop c.loop-place.place c.args.all.now.fields.now) (drop c.loop-place.place c.args.all.now.codes.now)
    (entries_of (length c.args.all.now.fields.now - c.loop-place.place) c.loop-place.rest.now)
    ≡ next c ∷ left c
first c =
    first_listed c.args.all.now.fields.now c.args.all.now.codes.now c.loop-place.place _ _ c.split_entry.result.0.now c.loop-place-test.true
    (code_there c) (more c)

whole : (c : After-split_entry) → listed_fields c.args.all.now ≡ c.loop-place.invariant.done.0 ++ next c ∷ left c
whole c = c.loop-place.invariant.done.1 ∙ ap (λ (xs : List DevField). c.loop-place.invariant.done.0 ++ xs) (first c)

pub bounds-all-place : goal.bounds-all-place
bounds-all-place c = omega (arith, c.loop-place-test.true, c.requires.listed_fields.many)

pub describe_field-requires-clause-entry : goal.describe_field-requires-clause-entry
describe_field-requires-clause-entry c =
    long_entry 1 _
    (first_stands 1 _ _ c.split_entry.result.0.now c.loop-place.invariant.stand (more (goal.at.describe_field-requires-clause-entry c).After-split_entry))

pub describe_field-requires-clause-said : goal.describe_field-requires-clause-said
describe_field-requires-clause-said c =
    let a = (goal.at.describe_field-requires-clause-said c).After-split_entry in
    next_can c.args.file.now.stream c.loop-place.file.stream (listed_fields c.args.all.now) c.loop-place.invariant.done.0 (left a) (next a)
    c.requires.can (whole a) c.loop-place.invariant.done.2

pub loop-place-preserved : goal.loop-place-preserved
loop-place-preserved c =
    let a = (goal.at.loop-place-preserved c).After-split_entry in
    let cur = c.loop-place.file in
    let done = c.loop-place.invariant.done.0 in
    let now = becomes_stream cur c.describe_field.new.file (λ before after. DescribesField before after (next a)) c.in_ok-describe_field.ensures.ok in record {
      stand = others_stand 1 _ _ c.split_entry.result.0.now c.loop-place.invariant.stand (more a);
      good = c.describe_field.ensures.good;
      same = now.1 ∙ same_header c.args.file.now cur c.describe_field.new.file.stream c.loop-place.invariant.same;
      done = (
        done ++ next a ∷ [],
        done_more (listed_fields c.args.all.now) done _ (left a) (next a) c.loop-place.invariant.done.1 (first a),
        each_more c.args.file.now.stream cur.stream c.describe_field.new.file.stream done (next a) c.loop-place.invariant.done.2 now.0,
      );
    }

pub returns-clause-ok : goal.returns-clause-ok
returns-clause-ok c =
    let over = none_listed c.args.all.now.fields.now c.args.all.now.codes.now c.loop-place.place
    (entries_of (length c.args.all.now.fields.now - c.loop-place.place) c.loop-place.rest.now) (omega (arith, c.loop-place-test.false)) in
    let all = all_done (listed_fields c.args.all.now) c.loop-place.invariant.done.0 _ c.loop-place.invariant.done.1 over in (
      c.loop-place.file.stream,
      subst (λ (xs : List DevField). DescribesEach c.args.file.now.stream c.loop-place.file.stream xs) (sym all) c.loop-place.invariant.done.2,
      c.loop-place.invariant.same,
    )

pub returns-in_err-describe_field-clause-err : goal.returns-in_err-describe_field-clause-err
returns-in_err-describe_field-clause-err c =
    let a = (goal.at.returns-in_err-describe_field-clause-err c).After-split_entry in
    let p = err_from_is_err_and c.from_residual.result c.from_residual.ensures.1 in
    let old = c.args.file.now in
    let cur = c.loop-place.file in
    rw (p.1, p.2)
    (half_from old cur c.describe_field.new.file (λ before after. DescribesSome before after (next a ∷ []))
    (λ before after. DescribesSome before after (listed_fields c.args.all.now)) c.in_err-describe_field.field-0.0 c.loop-place.invariant.same
    (λ after some. subst (DescribesSome old.stream after) (sym (whole a))
    (some_more old.stream cur.stream after c.loop-place.invariant.done.0 (left a) (next a) c.loop-place.invariant.done.2 some))
    c.in_err-describe_field.ensures.err)
