use Rattle.std.proofs.Common.{take, sym, subst, arith}
use Rattle.std.specs.List.{All}
use Rattle.std.proofs.lemmas.List.{take_all}
use Rattle.std.proofs.lemmas.List.Elements.{All-push}
use Rattle.geo_schema.specs.laws.Steps.{take_at}
use Rattle.set_codec.specs.Fits.{HasCells}
use Rattle.region_core.proofs.cells.see_changes.Goals as goal

pub loop-row-preserved : goal.loop-row-preserved
loop-row-preserved c =
    subst (All HasCells) (sym (take_at c.args.changes.now c.loop-row.row-index c.loop-row-item.result c.loop-row-test.true c.loop-row-item.is))
    (All-push HasCells (take c.loop-row.row-index c.args.changes.now) c.loop-row-item.result c.loop-row.invariant c.see_change.ensures)

pub returns : goal.returns
returns c = subst (All HasCells) (take_all c.loop-row.row-index c.args.changes.now (omega arith)) c.loop-row.invariant
