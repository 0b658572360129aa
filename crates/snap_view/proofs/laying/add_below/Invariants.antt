use Rattle.std.proofs.Common.{◌≡◌, ◌≤◌, ◌++◌, ◌-◌, List, length, map, drop}
use Rattle.row_source.specs.Sources.{images}
use Rattle.write_set.specs.Overlay.{overlay}
use Rattle.write_set.specs.Sets.{ChangeOfRow}
use Rattle.snap_view.specs.inner.Laying.{AreFrom}
use Rattle.snap_view.proofs.laying.add_below.Given as goal

-- what was found, and what writes from the row on make of the rows that are left, are what they make of all
abbrev pub invariant-loop-next : goal.invariant-loop-next
invariant-loop-next l = record {
  within : l.next ≤ length l.rows;
  rest : (own : List ChangeOfRow) → AreFrom l.row own →
      map (λ image. image.now) l.found.items ++ images (overlay (drop l.next (map (λ p. (p.0.now, p.1.now)) l.rows)) own)
      ≡ map (λ image. image.now) l.fn.found.items ++ images (overlay (drop l.fn.place (map (λ p. (p.0.now, p.1.now)) l.rows)) own);
}

abbrev pub decreases-loop-next : goal.decreases-loop-next
decreases-loop-next l = length l.rows - l.next
