use Rattle.std.proofs.lemmas.Result.{err_from_is_err_and}
use Rattle.row_codec.specs.laws.Things.{goes_on, fails, is_done}
use Rattle.set_codec.specs.inner.Reading.{candidate_at, candidates_at}
use Rattle.set_codec.proofs.batch_reading.read_candidates.Goals as goal

pub returns-in_err-item-clause-exact : goal.returns-in_err-item-clause-exact
unfolding candidates_at
returns-in_err-item-clause-exact c =
    let p = err_from_is_err_and c.from_residual.result c.from_residual.ensures.1 in
    rw (p.1, p.2) (fails (λ _. candidate_at c.args.format c.args.schema.now c.args.epoch) (λ state _. state) c.args.bytes.now c.args.count c.loop.counter (tt {0}) c.loop.items.items c.loop.next _ _ _ c.loop-test.true c.in_err-item.ensures.exact c.loop.invariant.so_far)

pub loop-preserved : goal.loop-preserved
unfolding candidates_at
loop-preserved c =
    record {
      within = c.in_ok-item.ensures.within;
      so_far = rw c.in_ok-push.ensures.items (goes_on (λ _. candidate_at c.args.format c.args.schema.now c.args.epoch) (λ state _. state) c.args.bytes.now c.args.count c.loop.counter (tt {0}) c.loop.items.items c.loop.next _ c.in_ok-item.item c.in_ok-item.behind c.loop-test.true c.in_ok-item.ensures.exact c.loop.invariant.so_far);
    }

pub returns-clause-exact : goal.returns-clause-exact
unfolding candidates_at
returns-clause-exact c = is_done (λ _. candidate_at c.args.format c.args.schema.now c.args.epoch) (λ state _. state) c.args.bytes.now c.args.count c.loop.counter (tt {0}) c.loop.items.items c.loop.next _ c.loop-test.false c.loop.invariant.so_far
