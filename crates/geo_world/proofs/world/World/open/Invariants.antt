use Rattle.std.proofs.Common.{◌≡◌, All, vec_len}
use Rattle.geo_world.specs.inner.Regions.{IsNew}
use Rattle.geo_world.proofs.world.World.open.Given as goal

-- so many regions are there, all of them new
abbrev pub invariant-loop-made : goal.invariant-loop-made
invariant-loop-made l = record { count : vec_len l.all ≡ l._made; new : All (IsNew l.regions) l.all.items }
