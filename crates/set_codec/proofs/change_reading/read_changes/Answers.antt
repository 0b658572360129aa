use Rattle.std.proofs.Common.{ap, ◌∙◌}
use Rattle.std.specs.Option.{option_copied}
use Rattle.std.proofs.lemmas.Result.{err_from_is_err_and}
use Rattle.row_codec.specs.laws.Things.{goes_on, fails, is_done}
use Rattle.set_codec.specs.inner.Reading.{change_at, row_behind, last_row}
use Rattle.set_codec.proofs.Rows.{last_pushed, read_behind, fails_behind}
use Rattle.set_codec.proofs.change_reading.read_changes.Goals as goal

pub returns-in_err-change-clause-exact : goal.returns-in_err-change-clause-exact
returns-in_err-change-clause-exact c =
    let p = err_from_is_err_and c.from_residual.result c.from_residual.ensures.1 in
    rw (p.1, p.2) (fails (change_at c.args.format c.args.schema.now) row_behind c.args.bytes.now c.args.count c.loop.counter (last_row c.loop.changes.items) c.loop.changes.items c.loop.next _ _ _ c.loop-test.true
    (fails_behind c.args.format c.args.schema.now c.args.bytes.now c.loop.next (option_copied c.last_row-last.result) c.loop.changes.items _ _ (c.last_row-last.ensures ∙ ap last_row c.as_slice.ensures.value) c.in_err-change.ensures.exact) c.loop.invariant.so_far)

pub loop-preserved : goal.loop-preserved
loop-preserved c =
    record {
      within = c.in_ok-change.ensures.within;
      so_far = rw (c.in_ok-push.ensures.items, last_pushed c.loop.changes.items c.in_ok-change.change)
          (goes_on (change_at c.args.format c.args.schema.now) row_behind c.args.bytes.now c.args.count c.loop.counter (last_row c.loop.changes.items) c.loop.changes.items c.loop.next _ c.in_ok-change.change c.in_ok-change.behind c.loop-test.true
          (read_behind c.args.format c.args.schema.now c.args.bytes.now c.loop.next (option_copied c.last_row-last.result) c.loop.changes.items _ (c.last_row-last.ensures ∙ ap last_row c.as_slice.ensures.value) c.in_ok-change.ensures.exact) c.loop.invariant.so_far);
    }

pub returns-clause-exact : goal.returns-clause-exact
returns-clause-exact c = is_done (change_at c.args.format c.args.schema.now) row_behind c.args.bytes.now c.args.count c.loop.counter (last_row c.loop.changes.items) c.loop.changes.items c.loop.next _ c.loop-test.false c.loop.invariant.so_far
