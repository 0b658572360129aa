use Rattle.std.proofs.Common.{◌≡◌, false, rules}
use Rattle.std.specs.Prelude.{FitsSigned}
use Rattle.std.specs.Int.{w64}
use Rattle.std.proofs.lemmas.Int.{to_z-of_z}
use Rattle.sql_expr.specs.Values as values
use Rattle.sql_expr.proofs.Numbers.{calculated_fits}
use Rattle.sql_expr.proofs.arithmetic.calculated.Goals as goal

pub returns-in-Some : goal.returns-in-Some
returns-in-Some c =
    let d : values.divides_by_zero c.args.op c.args.y ≡ false = search rules in
    let x : FitsSigned w64 c.args.x = c.ranges.x in
    let y : FitsSigned w64 c.args.y = c.ranges.y in
    calculated_fits c.args.op c.args.x c.args.y c.in-Some.number d (simp to_z-of_z at c.in-Some.ensures)
