use Rattle.index_store.proofs.RisingKeys.{rising_of}
use Rattle.index_store.proofs.keys.rising_keys.Goals as goal

pub returns : goal.returns
returns c = rising_of _ _ _ _ c.in_ok-keys.ensures c.sort_unstable.ensures.permutation c.sort_unstable.ensures.sorted c.dedup.ensures.filtered
