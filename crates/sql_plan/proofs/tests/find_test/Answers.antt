use Rattle.sql_plan.proofs.Collected.{found_first}
use Rattle.sql_plan.proofs.tests.find_test.Goals as goal
use Rattle.sql_plan.specs.inner.Borrowed.{said_by, test_of}

pub returns-in-Some : goal.returns-in-Some
returns-in-Some c =
    found_first (said_by c.args.kind) c.args.column (test_of c.args.first c.args.count) c.args.safe.now c.loop-test.test-index c.test-item.result _
    c.loop-test-test.true c.test-item.is c.in-Some.ensures c.loop-test.invariant
