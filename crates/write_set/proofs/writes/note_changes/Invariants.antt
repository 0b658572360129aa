use Rattle.std.proofs.Common.{◌≡◌, ◌+◌, ◌≤◌, length, vec_len}
use Rattle.std.specs.Vec.{vec_capacity}
use Rattle.std.specs.Vec.Iter.{into_iter_items}
use Rattle.write_set.specs.inner.LastChanges.{noted}
use Rattle.write_set.specs.Sets.{Rises}
use Rattle.write_set.proofs.writes.note_changes.Given as goal

-- the rows so far have the epoch, and there is room for the others
abbrev pub invariant-loop-row : goal.invariant-loop-row
invariant-loop-row l = record {
  items : noted l.epoch l.changes.items (into_iter_items l.row-iterator) ≡ noted l.epoch l.initial.changes.items (into_iter_items l.initial.row-iterator);
  rising : Rises l.changes.items;
  room : vec_len l.changes + length (into_iter_items l.row-iterator) ≤ vec_capacity l.changes;
}
