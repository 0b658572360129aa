-- the first of all is the first of those that are left
use Rattle.std.proofs.Common.{◌≡◌, drop}
use Rattle.std.specs.List.{filter_map}
use Rattle.sql_plan.specs.Plans.{first_test}
use Rattle.sql_plan.specs.inner.Borrowed.{said_by, test_of}
use Rattle.sql_plan.proofs.tests.find_test.Given as goal

abbrev pub invariant-loop-test : goal.invariant-loop-test
invariant-loop-test l =
    first_test (said_by l.kind) (filter_map (test_of l.first l.count) (drop l.test-index l.safe)) l.column
    ≡ first_test (said_by l.kind) (filter_map (test_of l.first l.count) l.safe) l.column
