use Rattle.std.proofs.Common.{arith, ◌+◌, List, sym, ◌∙◌, subst}
use Rattle.std.proofs.lemmas.Result.{err_from_is_err_and}
use Rattle.write_set.specs.declared.batch.Batch.{Batch}
use Rattle.own_log.proofs.Loaded.{HasLoaded, loaded_more, loaded_fault}
use Rattle.own_log.proofs.loading.load_entries.Goals as goal

pub returns-in_err-batch-clause-fault : goal.returns-in_err-batch-clause-fault
returns-in_err-batch-clause-fault g c =
    let p = err_from_is_err_and c.from_residual-in_err-batch.result c.from_residual-in_err-batch.ensures.1 in
    rw (p.1, p.2) (loaded_fault c.args.schema.now c.args.regions c.args.region (g.L.Keepers.lists c.args.logs.now) c.in_ok-count.count c.loop-place.place c.loop-place.batches.items c.in_err-batch.field-0.0
    c.loop-place.invariant.loaded c.loop-place-test.true (rw c.loop-place.invariant.lists at c.in_err-batch.ensures.fault))

pub loop-place-preserved : goal.loop-place-preserved
loop-place-preserved g c = record {
  loaded = subst (λ (l : List Batch). HasLoaded c.args.schema.now c.args.regions c.args.region (g.L.Keepers.lists c.args.logs.now) c.in_ok-count.count (c.loop-place.place + 1) l) (sym c.in_ok-push.ensures.items)
      (loaded_more c.args.schema.now c.args.regions c.args.region (g.L.Keepers.lists c.args.logs.now) c.in_ok-count.count c.loop-place.place c.loop-place.batches.items c.in_ok-batch.batch
      c.loop-place.invariant.loaded c.loop-place-test.true (rw c.loop-place.invariant.lists at c.in_ok-batch.ensures.entry) c.in_ok-batch.ensures.of_log);
  lists = c.load_entry.ensures.lists ∙ c.loop-place.invariant.lists;
  width = c.load_entry.ensures.width ∙ c.loop-place.invariant.width;
  later = omega (arith, c.load_entry.ensures.cause.later, c.loop-place.invariant.later);
}

pub returns-in_err-batch-clause-no_want : goal.returns-in_err-batch-clause-no_want
returns-in_err-batch-clause-no_want g c =
    let p = err_from_is_err_and c.from_residual-in_err-batch.result c.from_residual-in_err-batch.ensures.1 in
    rw (p.1, p.2) c.in_err-batch.ensures.no_want
