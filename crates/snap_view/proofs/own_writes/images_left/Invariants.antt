use Rattle.std.proofs.Common.{◌≡◌, map, take}
use Rattle.std.specs.Option.{option_copied}
use Rattle.snap_view.specs.inner.Laying.{alterations, leaving}
use Rattle.snap_view.proofs.own_writes.images_left.Given as goal

-- what the writes so far leave
abbrev pub invariant-loop-write : goal.invariant-loop-write
invariant-loop-write l = map (λ p. (p.0.now, leaving (option_copied p.1))) l.left.items ≡ alterations (take l.write-index l.own)
