use Rattle.std.proofs.Common.{refl, sym, subst}
use Rattle.fit_writer.proofs.HalfDescribed.{err_form, ok_form}
use Rattle.fit_writer.proofs.ListedFields.{form_described, is_listed, listed_is}
use Rattle.fit_writer.specs.declared.describing.Listed.{Listed}
use Rattle.fit_writer.specs.inner.Describing.{AreDescribable}
use Rattle.fit_writer.specs.inner.Places.{form_of}
use Rattle.fit_writer.proofs.describing.describe.Goals as goal

pub are_describable-requires : goal.are_describable-requires
are_describable-requires c =
    let all : Listed = record { fields = c.devs.result; codes = c.as_slice.result; entries = c.args.lone.now.dev } in
    record { listed_fields = is_listed c.args.lone.now all c.requires.lone c.devs.ensures c.as_slice.ensures refl }

pub describe_each-requires-clause-listed_fields : goal.describe_each-requires-clause-listed_fields
describe_each-requires-clause-listed_fields c =
    let all : Listed = record { fields = c.devs.result; codes = c.as_slice.result; entries = c.args.lone.now.dev } in
    is_listed c.args.lone.now all c.requires.lone c.devs.ensures c.as_slice.ensures refl

pub returns-then-not-are_describable-clause-err : goal.returns-then-not-are_describable-clause-err
returns-then-not-are_describable-clause-err c =
    let all : Listed = record { fields = c.devs.result; codes = c.as_slice.result; entries = c.args.lone.now.dev } in
    let same = listed_is c.args.lone.now all c.requires.lone c.devs.ensures c.as_slice.ensures refl in (
      λ can. c.are_describable.ensures.no c.if-not-are_describable.true (subst (AreDescribable c.args.file.now.stream) (sym same) can),
      refl,
    )

pub returns-clause-ok : goal.returns-clause-ok
returns-clause-ok c =
    let f = form_of c.args.lone.now in
    let all : Listed = record { fields = c.devs.result; codes = c.as_slice.result; entries = c.args.lone.now.dev } in
    let same = listed_is c.args.lone.now all c.requires.lone c.devs.ensures c.as_slice.ensures refl in
    ok_form c.args.file.now c.describe_each.new.file f _ c.describe_each.result same
    (λ after does. form_described c.args.file.now.stream after c.args.lone.now c.requires.lone
    (subst (AreDescribable c.args.file.now.stream) same (c.are_describable.ensures.yes c.if-not-are_describable.false)) does)
    c.describe_each.ensures.ok

pub returns-clause-err : goal.returns-clause-err
returns-clause-err c =
    let all : Listed = record { fields = c.devs.result; codes = c.as_slice.result; entries = c.args.lone.now.dev } in
    err_form c.args.file.now c.describe_each.new.file (form_of c.args.lone.now) _ c.describe_each.result
    (listed_is c.args.lone.now all c.requires.lone c.devs.ensures c.as_slice.ensures refl) c.describe_each.ensures.err
