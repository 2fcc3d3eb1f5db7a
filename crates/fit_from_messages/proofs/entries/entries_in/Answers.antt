use Rattle.std.proofs.Common.{rules}
use Rattle.fit_from_messages.proofs.CutEntries.{Begins, all_stand, dev_as, fields_as, no_dev, no_fields}
use Rattle.fit_from_messages.proofs.entries.entries_in.Goals as goal
use Rattle.fit_from_messages.proofs.entries.entries_in.Goals.{After-split_at}

begins : (c : After-split_at) → Begins c.args.block.now c.in_ok-begin.begin c.in_ok-field_count.field_count c.in_ok-field_count.dev_count
    c.split_at.result.1.now
begins c = record {
  place = search rules;
  within = search rules;
  counts = search rules;
  few = search rules;
  few_dev = search rules;
  from = search rules;
}

pub returns-in_err-dev-clause-none : goal.returns-in_err-dev-clause-none
returns-in_err-dev-clause-none c = λ _. no_fields _ _ _ _ _ (begins (goal.at.returns-in_err-dev-clause-none c).After-split_at) (search rules)

pub returns-in_err-rest-clause-none : goal.returns-in_err-rest-clause-none
returns-in_err-rest-clause-none c = λ _.
    no_dev _ _ _ _ _ c.in_ok-dev.dev.now (begins (goal.at.returns-in_err-rest-clause-none c).After-split_at) (search rules) (search rules) (search rules)

pub returns-then-not-is_empty-clause-none : goal.returns-then-not-is_empty-clause-none
returns-then-not-is_empty-clause-none c = λ _.
    all_stand _ _ _ _ _ c.in_ok-dev.dev.now c.in_ok-rest.rest.now _ (begins (goal.at.returns-then-not-is_empty-clause-none c).After-split_at)
    (search rules) (search rules) (search rules) (search rules) (search rules)

pub returns-clause-stand : goal.returns-clause-stand
returns-clause-stand c =
    all_stand _ _ _ _ _ c.in_ok-dev.dev.now c.in_ok-rest.rest.now _ (begins (goal.at.returns-clause-stand c).After-split_at)
    (search rules) (search rules) (search rules) (search rules) (search rules)

pub returns-clause-fields : goal.returns-clause-fields
returns-clause-fields c = fields_as _ _ _ _ _ (begins (goal.at.returns-clause-fields c).After-split_at)

pub returns-clause-dev : goal.returns-clause-dev
returns-clause-dev c = dev_as _ _ _ _ _ c.in_ok-dev.dev.now (begins (goal.at.returns-clause-dev c).After-split_at) (search rules)
