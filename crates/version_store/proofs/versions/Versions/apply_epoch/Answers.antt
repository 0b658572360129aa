use Rattle.std.proofs.Common.{[], ◌∷◌, ◌++◌, map, ap, ◌∙◌, subst, arith}
use Rattle.write_set.specs.Journal.{candidates_of}
use Rattle.write_set.specs.inner.LastChanges.{rows_altered}
use Rattle.write_set.specs.Merge.{committed_among}
use Rattle.version_store.specs.History.{Kept, IsApplied}
use Rattle.version_store.specs.laws.Growing.{applied_next}
use Rattle.version_store.specs.inner.Noting.{Note}
use Rattle.version_store.specs.inner.Writing.{all_written}
use Rattle.version_store.proofs.Applying.{applied_by, applied_whole}
use Rattle.version_store.proofs.versions.Versions.apply_epoch.Goals as goal

pub invariant_of-self-2 : goal.invariant_of-self-2
invariant_of-self-2 c =
    applied_whole (record { horizon = c.self.inside.horizon; applied = c.self.inside.applied; rows = c.self.inside.rows })
    c.self.invariant.0 c.self.inside.notes.items c.self.invariant.1 c.args.epoch (map (λ c. c.now) c.in_ok-changes.changes.items) c.write_all.new.rows
    (omega (arith, c.requires.next, ap (λ (k : Kept). k.applied) c.self.view_is))
    (c.in_ok-write_all.ensures
    ∙ ap (λ changes. all_written c.args.epoch (map (λ c. c.now) changes) c.in_ok-rows.rows) c.as_slice.ensures.value
    ∙ ap (all_written c.args.epoch (map (λ c. c.now) c.in_ok-changes.changes.items)) c.in_ok-rows.ensures)
    c.push.new.self.items
    (c.in_ok-push.ensures.items
    ∙ ap (λ (n : Note). c.self.inside.notes.items ++ (n ∷ []))
    (c.in_ok-note.ensures ∙ ap (λ changes. record { epoch = c.args.epoch; rows = rows_altered (map (λ c. c.now) changes) }) c.as_slice-2.ensures.value))

pub returns-clause-applied : goal.returns-clause-applied
returns-clause-applied c =
    subst
    (λ (k : Kept).
    IsApplied (committed_among (candidates_of (map (λ b. b.now) c.args.batches.now)) c.args.outcomes.now) k
    (record { horizon = c.self.inside.horizon; applied = c.args.epoch; rows = c.write_all.new.rows }))
    c.self.view_is
    (applied_by (record { horizon = c.self.inside.horizon; applied = c.self.inside.applied; rows = c.self.inside.rows })
    c.self.invariant.0 (committed_among (candidates_of (map (λ b. b.now) c.args.batches.now)) c.args.outcomes.now) c.args.epoch
    (map (λ c. c.now) c.in_ok-changes.changes.items) c.write_all.new.rows
    (omega (arith, c.requires.next, ap (λ (k : Kept). k.applied) c.self.view_is))
    c.in_ok-changes.ensures
    (c.in_ok-write_all.ensures
    ∙ ap (λ changes. all_written c.args.epoch (map (λ c. c.now) changes) c.in_ok-rows.rows) c.as_slice.ensures.value
    ∙ ap (all_written c.args.epoch (map (λ c. c.now) c.in_ok-changes.changes.items)) c.in_ok-rows.ensures))

pub returns-clause-history : goal.returns-clause-history
returns-clause-history c journal history next =
    applied_next journal c.args.self.now _ (map (λ b. b.now) c.args.batches.now) c.args.outcomes.now history next (returns-clause-applied c)
