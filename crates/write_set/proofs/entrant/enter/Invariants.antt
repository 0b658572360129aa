use Rattle.std.proofs.Common.{◌≡◌, ◌++◌, map, take}
use Rattle.write_set.specs.inner.Entrants.{placed}
use Rattle.write_set.specs.Journal.{placed_from}
use Rattle.write_set.proofs.entrant.enter.Given as goal

-- the candidates so far are added
abbrev pub invariant-loop-place : goal.invariant-loop-place
invariant-loop-place l = map placed l.all.items ≡ map placed l.initial.all.items ++ placed_from l.batch.region 0 (take l.place l.batch.items)
