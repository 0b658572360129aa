use Rattle.sql_plan.specs.inner.Borrowed.{usable}
use Rattle.sql_plan.proofs.Chosen.{fixed_chosen, index_chosen}
use Rattle.sql_plan.proofs.access.index_choice.Goals as goal

pub returns-in-Some-clause-place : goal.returns-in-Some-clause-place
returns-in-Some-clause-place c = fixed_chosen c.args.table.now (usable c.args.tests.now) c.items-indexes.result.now c.in-Some.place c.items-indexes.ensures c.in-Some.ensures.place

pub returns-in-None-clause-place : goal.returns-in-None-clause-place
returns-in-None-clause-place c =
    index_chosen c.args.table.now (usable c.args.tests.now) c.items-indexes.result.now c.bounded_index.result c.items-indexes.ensures c.in-None.ensures.place c.bounded_index.ensures.place
