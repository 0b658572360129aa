use Rattle.std.proofs.lemmas.Result.{err_from_is_err_and}
use Rattle.set_codec.proofs.Loops.{key_goes_on, key_fails, key_done, one_more}
use Rattle.set_codec.proofs.row_reading.read_key_cells.Goals as goal

pub returns-in_err-cell-clause-exact : goal.returns-in_err-cell-clause-exact
returns-in_err-cell-clause-exact c =
    let p = err_from_is_err_and c.from_residual-in_err-cell.result c.from_residual-in_err-cell.ensures.1 in
    rw (p.1, p.2) (key_fails c.args.table.now c.items-key.result.now c.items-key.ensures c.args.bytes.now c.loop-place.place-index c.loop-place.cells.items c.loop-place.next _ _ _ c.loop-place-test.true c.in_err-cell.ensures.exact c.loop-place.invariant.so_far)

pub loop-place-preserved : goal.loop-place-preserved
loop-place-preserved c =
    record {
      within = c.in_ok-cell.ensures.within;
      len = rw c.in_ok-push.ensures.items (one_more c.loop-place.cells.items c.in_ok-cell.cell c.loop-place.place-index c.loop-place.invariant.len);
      so_far = rw c.in_ok-push.ensures.items (key_goes_on c.args.table.now c.items-key.result.now c.items-key.ensures c.args.bytes.now c.loop-place.place-index c.loop-place.cells.items c.loop-place.next _ c.in_ok-cell.cell c.in_ok-cell.behind c.loop-place-test.true c.in_ok-cell.ensures.exact c.loop-place.invariant.so_far);
    }

pub returns-clause-exact : goal.returns-clause-exact
returns-clause-exact c = key_done c.args.table.now c.items-key.result.now c.items-key.ensures c.args.bytes.now c.loop-place.place-index c.loop-place.cells.items c.loop-place.next _ c.loop-place-test.false c.loop-place.invariant.so_far
