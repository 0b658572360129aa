use Rattle.std.proofs.Common.{◌+◌, ap, arith}
use Rattle.snap_view.proofs.Compared.{cell_decides, others_decide}
use Rattle.snap_view.proofs.indexed.beside.Goals as goal

pub returns-then-not-is_eq : goal.returns-then-not-is_eq
returns-then-not-is_eq c =
    cell_decides c.args.row.now c.args.places.now c.args.cells.now c.loop-cell.at c.loop-cell.cell-index c.cell-item.result c.cell_beside-order.result _
    c.loop-cell.invariant.place (omega (arith, c.loop-cell.invariant.within, c.if-at-places.false)) c.loop-cell-test.true c.cell-item.is
    c.cell_beside-order.ensures c.loop-cell.invariant.rest c.is_eq.result c.is_eq.ensures c.if-not-is_eq.true

pub loop-cell-preserved : goal.loop-cell-preserved
loop-cell-preserved c = record {
  place = ap (λ n. n + 1) c.loop-cell.invariant.place;
  within = omega (arith, c.loop-cell.invariant.within, c.if-at-places.false);
  rest =
      others_decide c.args.row.now c.args.places.now c.args.cells.now c.loop-cell.at c.loop-cell.cell-index c.cell-item.result c.cell_beside-order.result _
      c.loop-cell.invariant.place (omega (arith, c.loop-cell.invariant.within, c.if-at-places.false)) c.loop-cell-test.true c.cell-item.is
      c.cell_beside-order.ensures c.loop-cell.invariant.rest c.is_eq.result c.is_eq.ensures c.if-not-is_eq.false;
}
