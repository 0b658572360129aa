use Rattle.std.proofs.Common.{◌≡◌, ◌++◌, map, take}
use Rattle.row_source.specs.Sources.{images}
use Rattle.snap_view.proofs.laying.add_rest.Given as goal

-- the rows so far are added
abbrev pub invariant-loop-row : goal.invariant-loop-row
invariant-loop-row l = map (λ image. image.now) l.found.items ≡ map (λ image. image.now) l.fn.found.items ++ images (map (λ p. (p.0.now, p.1.now)) (take l.row-index l.row-items))
