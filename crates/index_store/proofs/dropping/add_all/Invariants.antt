use Rattle.std.proofs.Common.{◌≡◌}
use Rattle.std.specs.Vec.Iter.{into_iter_items}
use Rattle.index_store.specs.inner.Following.{all_added}
use Rattle.index_store.proofs.dropping.add_all.Given as goal

-- what is added from here on comes to the whole
abbrev pub invariant-loop-pair : goal.invariant-loop-pair
invariant-loop-pair l = all_added l.epoch (into_iter_items l.pair-iterator) l.entries ≡ all_added l.epoch l.fn.pairs.items l.initial.entries
