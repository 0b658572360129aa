use Rattle.std.proofs.Common.{◌≡◌, length, arith}
use Rattle.sql_plan.specs.Plans.{fixed_cells}
use Rattle.sql_plan.specs.inner.Borrowed.{usable}
use Rattle.sql_plan.proofs.Whole.{fixed_fault}
use Rattle.sql_plan.proofs.access.access_of.Goals as goal

pub point-requires : goal.point-requires
point-requires c =
    let count : length (fixed_cells (usable c.args.tests.now) c.items-key.result.now) ≡ length c.items-key.result.now = omega arith in
    fixed_fault c.args.table.now (usable c.args.tests.now) c.requires.whole c.requires.rules c.items-key.result.now c.items-key.ensures count
