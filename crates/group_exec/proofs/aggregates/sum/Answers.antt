use Rattle.std.proofs.Common.{rules, sym, ◌∙◌}
use Rattle.std.specs.Prelude.{FitsSigned}
use Rattle.std.specs.Int.{w128}
use Rattle.std.proofs.lemmas.Int.{to_z-of_z}
use Rattle.group_exec.proofs.Numbers.{sum_fits}
use Rattle.group_exec.proofs.aggregates.sum.Goals as goal

pub returns-in-Ok : goal.returns-in-Ok
returns-in-Ok c =
    let fits : FitsSigned w128 c.whole_sum.result = search rules in
    sum_fits c.args.cells.now _ c.in-Ok.number (sym c.is_empty.ensures ∙ c.if-is_empty.false) (to_z-of_z w128 c.whole_sum.result fits ∙ c.whole_sum.ensures) c.in-Ok.ensures
