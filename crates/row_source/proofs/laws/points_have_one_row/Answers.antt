use Rattle.std.proofs.Common.{◌≤◌, map, sym, subst}
use Rattle.row_source.proofs.Names.{at_most_one}
use Rattle.row_source.proofs.laws.points_have_one_row.Goals as goal
use Rattle.row_source.specs.Bounds.{reached}
use Rattle.row_source.specs.Handing.{part_cell, row_named}
use Rattle.row_source.specs.declared.plan.Access.{Access}

pub returns-clause-rows : goal.returns-clause-rows
returns-clause-rows c tables number key rows rises = at_most_one rows (row_named number key) rises

pub returns-clause-steps : goal.returns-clause-steps
returns-clause-steps c tables number plan key rows rises is =
    subst (λ (way : Access). reached tables number way rows ≤ 1) (sym is) (at_most_one rows (row_named number key) rises)

pub returns-clause-joined : goal.returns-clause-joined
returns-clause-joined c tables number way parts left rows rises = at_most_one rows (row_named number (map (part_cell left) parts)) rises
