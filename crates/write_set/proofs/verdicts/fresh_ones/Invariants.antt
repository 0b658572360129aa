use Rattle.std.proofs.Common.{◌≡◌, map, take}
use Rattle.write_set.specs.inner.Entrants.{placed, fresh_of}
use Rattle.write_set.specs.Plain.{last_in}
use Rattle.write_set.proofs.verdicts.fresh_ones.Given as goal

-- the fresh ones so far are kept
abbrev pub invariant-loop-c : goal.invariant-loop-c
invariant-loop-c l = map placed l.fresh.items ≡ fresh_of (last_in l.changes) (map placed (take l.c-index l.all))
