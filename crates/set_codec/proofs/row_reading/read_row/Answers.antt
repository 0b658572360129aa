use Rattle.std.proofs.Common.{◌+◌, ◌<◌, ◌≤◌, List, length, subst}
use Rattle.std.proofs.lemmas.Result.{err_from_is_err_and}
use Rattle.geo_schema.specs.declared.column.ColumnDef.{ColumnDef}
use Rattle.row_codec.specs.laws.Things.{goes_on, fails, is_done}
use Rattle.set_codec.specs.inner.Reading.{next_cell_at}
use Rattle.set_codec.proofs.Loops.{one_more}
use Rattle.set_codec.proofs.row_reading.read_row.Goals as goal

pub returns-in_err-cell-clause-exact : goal.returns-in_err-cell-clause-exact
returns-in_err-cell-clause-exact c =
    let p = err_from_is_err_and c.from_residual-in_err-cell.result c.from_residual-in_err-cell.ensures.1 in
    let lt = subst (λ (cs : List ColumnDef). c.loop-place.place < length cs) c.items-count.ensures c.loop-place-test.true in
    rw (p.1, p.2) (fails (next_cell_at c.args.table.now c.args.key.now) (λ i _. i + 1) c.args.bytes.now (length c.args.table.now.columns) c.loop-place.place c.loop-place.place c.loop-place.row.items c.loop-place.next _ _ _ lt c.in_err-cell.ensures.exact c.loop-place.invariant.so_far)

pub loop-place-preserved : goal.loop-place-preserved
loop-place-preserved c =
    let lt = subst (λ (cs : List ColumnDef). c.loop-place.place < length cs) c.items-count.ensures c.loop-place-test.true in
    record {
      within = c.in_ok-cell.ensures.within;
      len = rw c.in_ok-push.ensures.items (one_more c.loop-place.row.items c.in_ok-cell.cell c.loop-place.place c.loop-place.invariant.len);
      so_far = rw c.in_ok-push.ensures.items (goes_on (next_cell_at c.args.table.now c.args.key.now) (λ i _. i + 1) c.args.bytes.now (length c.args.table.now.columns) c.loop-place.place c.loop-place.place c.loop-place.row.items c.loop-place.next _ c.in_ok-cell.cell c.in_ok-cell.behind lt c.in_ok-cell.ensures.exact c.loop-place.invariant.so_far);
    }

pub returns-clause-exact : goal.returns-clause-exact
returns-clause-exact c =
    let end = subst (λ (cs : List ColumnDef). length cs ≤ c.loop-place.place) c.items-count.ensures c.loop-place-test.false in
    is_done (next_cell_at c.args.table.now c.args.key.now) (λ i _. i + 1) c.args.bytes.now (length c.args.table.now.columns) c.loop-place.place c.loop-place.place c.loop-place.row.items c.loop-place.next _ end c.loop-place.invariant.so_far
