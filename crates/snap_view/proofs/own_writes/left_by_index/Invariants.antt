use Rattle.std.proofs.Common.{◌≡◌, map, take}
use Rattle.std.specs.Option.{option_copied}
use Rattle.snap_view.specs.inner.Laying.{all_within, leaving}
use Rattle.snap_view.proofs.own_writes.left_by_index.Given as goal

-- what the writes so far leave in the range
abbrev pub invariant-loop-write : goal.invariant-loop-write
invariant-loop-write l =
    map (λ p. (p.0.now, leaving (option_copied p.1))) l.found.items ≡ all_within l.index l.range (map (λ p. (p.0.now, leaving (option_copied p.1))) (take l.write-index l.left))
