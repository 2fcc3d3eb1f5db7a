use Rattle.std.specs.Prelude.{◌≡◌}
use Rattle.fit_record.specs.Environment.{empty_environment, learn_all}
use Rattle.test_suite.proofs.kept.keep.Given as goal

abbrev pub invariant-loop-r : goal.invariant-loop-r
invariant-loop-r l = l.env ≡ learn_all empty_environment l.kept
