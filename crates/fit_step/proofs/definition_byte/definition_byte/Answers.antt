use Rattle.fit_step.proofs.Common.{[], refl, subst, tests_of, Definition, TakesNone}
use Rattle.std.proofs.lemmas.Result.{on_err_weaker}
use Rattle.fit_step.proofs.definition_byte.definition_byte.Goals as goal

pub returns-in-Reserved : goal.returns-in-Reserved
returns-in-Reserved g c = record { made = rw c.in-Reserved.is (c.at_reserved.ensures (tests_of c.args.env.now)); err = tt; free = λ _. tt }

pub returns-in-Architecture : goal.returns-in-Architecture
returns-in-Architecture g c =
    let told = c.at_architecture.ensures in
    record { made = rw c.in-Architecture.is (told.made (tests_of c.args.env.now)); err = told.err; free = λ _. told.free }

pub returns-in-GlobalFirst : goal.returns-in-GlobalFirst
returns-in-GlobalFirst g c = record { made = rw c.in-GlobalFirst.is (c.at_global_first.ensures (tests_of c.args.env.now)); err = tt; free = λ _. tt }

pub returns-in-GlobalSecond : goal.returns-in-GlobalSecond
returns-in-GlobalSecond g c = record { made = rw c.in-GlobalSecond.is (c.at_global_second.ensures (tests_of c.args.env.now)); err = tt; free = λ _. tt }

pub returns-in-FieldCount : goal.returns-in-FieldCount
returns-in-FieldCount g c =
    let told = c.at_field_count.ensures in
    record {
      made = rw c.in-FieldCount.is (told.made (tests_of c.args.env.now));
      err = on_err_weaker c.at_field_count.result (λ same. (same.0, same.1, refl)) told.err;
      free = λ _. told.free;
    }

pub returns-in-FieldNumber : goal.returns-in-FieldNumber
returns-in-FieldNumber g c = record { made = rw c.in-FieldNumber.is (c.at_field_number.ensures (tests_of c.args.env.now)); err = tt; free = λ _. tt }

pub at_field_size-requires : goal.at_field_size-requires
at_field_size-requires g c =
    let d = rw c.in-FieldSize.is at c.requires.defining in
    (assumption, (c.requires.room, (d.1, d.0)))

pub returns-in-FieldSize : goal.returns-in-FieldSize
returns-in-FieldSize g c =
    let told = c.at_field_size.ensures in
    record {
      made = rw c.in-FieldSize.is told.made;
      err = on_err_weaker c.at_field_size.result (λ same. (same.0, same.1, refl)) told.err;
      free = λ _. told.free;
    }

pub at_field_code-requires-clause-left : goal.at_field_code-requires-clause-left
at_field_code-requires-clause-left g c = (rw c.in-FieldCode.is at c.requires.defining).1

pub returns-in-FieldCode : goal.returns-in-FieldCode
returns-in-FieldCode g c =
    let told = c.at_field_code.ensures in
    record {
      made = rw c.in-FieldCode.is (told.made (tests_of c.args.env.now));
      err = told.err;
      free = λ none. absurd (subst (λ k. TakesNone c.args.env.now (Definition k) [] c.args.byte) c.in-FieldCode.is none);
    }

pub at_dev_count-requires : goal.at_dev_count-requires
at_dev_count-requires g c = (assumption, (c.requires.room, (rw c.in-DevCount.is at c.requires.defining).0))

pub returns-in-DevCount : goal.returns-in-DevCount
returns-in-DevCount g c =
    let told = c.at_dev_count.ensures in
    record {
      made = rw c.in-DevCount.is told.made;
      err = on_err_weaker c.at_dev_count.result (λ same. (same.0, same.1, refl)) told.err;
      free = λ _. told.free;
    }

pub returns-in-DevNumber : goal.returns-in-DevNumber
returns-in-DevNumber g c = record { made = rw c.in-DevNumber.is (c.at_dev_number.ensures (tests_of c.args.env.now)); err = tt; free = λ _. tt }

pub at_dev_size-requires : goal.at_dev_size-requires
at_dev_size-requires g c =
    let d = rw c.in-DevSize.is at c.requires.defining in
    (assumption, (c.requires.room, (d.1, d.0)))

pub returns-in-DevSize : goal.returns-in-DevSize
returns-in-DevSize g c =
    let told = c.at_dev_size.ensures in
    record {
      made = rw c.in-DevSize.is told.made;
      err = on_err_weaker c.at_dev_size.result (λ same. (same.0, same.1, refl)) told.err;
      free = λ _. told.free;
    }

pub at_dev_index-requires-clause-left : goal.at_dev_index-requires-clause-left
at_dev_index-requires-clause-left g c = (rw c.in-DevIndex.is at c.requires.defining).1

pub at_dev_index-requires-clause-dev : goal.at_dev_index-requires-clause-dev
at_dev_index-requires-clause-dev g c = (rw c.in-DevIndex.is at c.requires.defining).2

pub returns-in-DevIndex : goal.returns-in-DevIndex
returns-in-DevIndex g c =
    let told = c.at_dev_index.ensures in
    record {
      made = rw c.in-DevIndex.is (told.made (tests_of c.args.env.now));
      err = told.err;
      free = λ none. absurd (subst (λ k. TakesNone c.args.env.now (Definition k) [] c.args.byte) c.in-DevIndex.is none);
    }
