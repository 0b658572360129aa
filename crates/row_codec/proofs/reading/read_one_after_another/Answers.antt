use Rattle.std.proofs.lemmas.Result.{err_from_is_err_and}
use Rattle.row_codec.specs.inner.Reading.{cell_at}
use Rattle.row_codec.specs.laws.Things.{goes_on, fails, is_done}
use Rattle.row_codec.proofs.reading.read_one_after_another.Goals as goal

pub returns-in_err-cell-clause-exact : goal.returns-in_err-cell-clause-exact
returns-in_err-cell-clause-exact c =
    let p = err_from_is_err_and c.from_residual.result c.from_residual.ensures.1 in
    rw (p.1, p.2) (fails (λ _. cell_at) (λ state _. state) c.args.bytes.now c.args.count c.loop.counter (tt {0}) c.loop.cells.items c.loop.next _ _ c.in_err-cell.field-0.0 c.loop-test.true c.in_err-cell.ensures.exact c.loop.invariant.so_far)

pub loop-preserved : goal.loop-preserved
loop-preserved c =
    record {
      within = c.in_ok-cell.ensures.within;
      so_far = rw c.in_ok-push.ensures.items (goes_on (λ _. cell_at) (λ state _. state) c.args.bytes.now c.args.count c.loop.counter (tt {0}) c.loop.cells.items c.loop.next _ c.in_ok-cell.cell c.in_ok-cell.behind c.loop-test.true c.in_ok-cell.ensures.exact c.loop.invariant.so_far);
    }

pub returns-clause-exact : goal.returns-clause-exact
returns-clause-exact c = is_done (λ _. cell_at) (λ state _. state) c.args.bytes.now c.args.count c.loop.counter (tt {0}) c.loop.cells.items c.loop.next _ c.loop-test.false c.loop.invariant.so_far
