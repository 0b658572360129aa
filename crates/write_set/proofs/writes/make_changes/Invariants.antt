use Rattle.std.proofs.Common.{◌≡◌, ◌+◌, ◌≤◌, length, vec_len}
use Rattle.std.specs.Vec.{vec_capacity}
use Rattle.std.specs.Vec.Iter.{into_iter_items}
use Rattle.write_set.specs.Overlay.{overlay}
use Rattle.write_set.specs.Sets.{Rises}
use Rattle.write_set.proofs.writes.make_changes.Given as goal

-- the changes so far are made, and there is room for the others
abbrev pub invariant-loop-row : goal.invariant-loop-row
invariant-loop-row l = record {
  items : overlay l.rows.items (into_iter_items l.row-iterator) ≡ overlay l.initial.rows.items (into_iter_items l.initial.row-iterator);
  rising : Rises l.rows.items;
  room : vec_len l.rows + length (into_iter_items l.row-iterator) ≤ vec_capacity l.rows;
}
