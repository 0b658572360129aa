use Rattle.std.proofs.Common.{◌≡◌, drop}
use Rattle.index_store.specs.inner.Dropping.{all_dropped}
use Rattle.index_store.proofs.dropping.drop_all.Given as goal

-- what is dropped from here on comes to the whole
abbrev pub invariant-loop-pair : goal.invariant-loop-pair
invariant-loop-pair l = all_dropped l.epoch (drop l.pair-index l.pairs) l.entries ≡ all_dropped l.epoch l.pairs l.initial.entries
