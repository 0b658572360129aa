use Rattle.std.proofs.Common.{◌≡◌, take, map}
use Rattle.std.specs.Arc.{arc_value}
use Rattle.page_map.proofs.sharing.share.Given as goal

-- the chunks so far are shared
abbrev pub invariant-loop-chunk : goal.invariant-loop-chunk
invariant-loop-chunk g l = map arc_value l.more.items ≡ map arc_value (take l.chunk-index l.chunks)
