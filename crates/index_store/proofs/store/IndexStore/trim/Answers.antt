use Rattle.index_store.proofs.Trimmed.{trim_call}
use Rattle.index_store.proofs.store.IndexStore.trim.Goals as goal

pub returns-clause-trimmed : goal.returns-clause-trimmed
returns-clause-trimmed g c tables kept store rest =
    trim_call tables kept _ _ _ _ _ _ _ _ store rest c.self.view_is c.horizon-horizon.ensures.epoch c.in_ok-entries.ensures c.as_slice.ensures.value c.as_slice-2.ensures.value
    c.in_ok-drop_lost.ensures c.in_ok-losses.ensures
