use Rattle.std.proofs.Common.{◌≡◌, ◌≤◌, ◌++◌, length, map, drop}
use Rattle.std.specs.Option.{option_copied}
use Rattle.row_source.specs.Sources.{images}
use Rattle.write_set.specs.Overlay.{overlay}
use Rattle.snap_view.specs.inner.Laying.{leaving}
use Rattle.snap_view.proofs.laying.laid_over.Given as goal

-- what was found, and what the writes from here on make of the rows that are left, are what all writes make of all rows
abbrev pub invariant-loop-write : goal.invariant-loop-write
invariant-loop-write l = record {
  within : l.place ≤ length l.rows;
  all : map (λ image. image.now) l.found.items
      ++ images (overlay (drop l.place (map (λ p. (p.0.now, p.1.now)) l.rows)) (drop l.write-index (map (λ p. (p.0.now, leaving (option_copied p.1))) l.left)))
      ≡ images (overlay (map (λ p. (p.0.now, p.1.now)) l.rows) (map (λ p. (p.0.now, leaving (option_copied p.1))) l.left));
}
