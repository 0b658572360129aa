use Rattle.std.proofs.Common.{map, ap, ◌∙◌}
use Rattle.index_store.proofs.Applied.{apply_call}
use Rattle.index_store.proofs.store.IndexStore.apply.Goals as goal

pub returns-clause-applied : goal.returns-clause-applied
returns-clause-applied g c kept store next =
    apply_call c.args.schema.now _ kept _ _ c.args.self.now _ c.applied-epoch.result (map (λ x. x.now) c.as_slice.result.now) _ _ _ _ store next c.self.view_is
    c.applied-epoch.ensures (ap (map (λ x. x.now)) c.as_slice.ensures.value ∙ c.in_ok-changes.ensures) c.in_ok-moves.ensures.lost c.in_ok-moves.ensures.gained
    c.in_ok-entries.ensures c.in_ok-add_all.ensures c.in_ok-loss.ensures c.in_ok-push.ensures.items
