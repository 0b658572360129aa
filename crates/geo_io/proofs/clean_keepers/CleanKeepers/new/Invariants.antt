use Rattle.std.proofs.Common.{◌≡◌, [], length, ◌+◌, ◌-◌, ◌≤◌, ◌++◌, take, drop}
use Rattle.std.specs.Vec.Iter.{into_iter_items}
use Rattle.std.specs.Prelude.{replicate}
use Rattle.geo_io.proofs.clean_keepers.CleanKeepers.new.Given as goal

abbrev pub invariant-loop-list : goal.invariant-loop-list
invariant-loop-list l = record {
  eight : length l.all ≡ 8;
  few : l.region + length (into_iter_items l.list-iterator) ≤ 8;
  given : take l.region l.all ++ into_iter_items l.list-iterator ≡ l.fn.lists.items;
  empty : drop l.region l.all ≡ replicate (8 - l.region) [];
}
