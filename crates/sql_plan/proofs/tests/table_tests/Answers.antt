use Rattle.sql_plan.proofs.Collected.{usable_are}
use Rattle.sql_plan.proofs.Whole.{whole_of}
use Rattle.sql_plan.proofs.tests.table_tests.Goals as goal

pub returns-clause-tests : goal.returns-clause-tests
returns-clause-tests c = usable_are _ c.args.tests.now c.safe_tests.ensures

pub returns-clause-whole : goal.returns-clause-whole
returns-clause-whole c = whole_of c.args.first c.args.count c.args.tests.now _ (usable_are _ c.args.tests.now c.safe_tests.ensures)
