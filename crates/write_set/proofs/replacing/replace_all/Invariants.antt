use Rattle.std.proofs.Common.{◌≡◌, ◌+◌, ◌≤◌, length, vec_len}
use Rattle.std.specs.Vec.{vec_capacity}
use Rattle.std.specs.Vec.Iter.{into_iter_items}
use Rattle.write_set.specs.inner.Nets.{all_replaced}
use Rattle.write_set.specs.Sets.{Rises}
use Rattle.write_set.proofs.replacing.replace_all.Given as goal

-- what is left of the rows so far is in its place, and there is room for the others
abbrev pub invariant-loop-row : goal.invariant-loop-row
invariant-loop-row l = record {
  items : all_replaced l.entries.items (into_iter_items l.row-iterator) ≡ all_replaced l.initial.entries.items (into_iter_items l.initial.row-iterator);
  rising : Rises l.entries.items;
  room : vec_len l.entries + length (into_iter_items l.row-iterator) ≤ vec_capacity l.entries;
}
