use Rattle.std.proofs.Common.{ap}
use Rattle.std.specs.Option.{option_map}
use Rattle.sql_plan.specs.Tests as tests
use Rattle.sql_plan.proofs.ranges.equal_cell.Goals as goal

pub returns-in-Some : goal.returns-in-Some
returns-in-Some c = ap (option_map (λ (t : tests.ColumnTest). t.literal)) c.in-Some.ensures

pub returns-in-None : goal.returns-in-None
returns-in-None c = ap (option_map (λ (t : tests.ColumnTest). t.literal)) c.in-None.ensures
