use Rattle.std.proofs.Common.{◌≡◌, map, take}
use Rattle.write_set.specs.inner.Entrants.{placed, outcome_of, writes_of}
use Rattle.write_set.specs.Plain.{last_in}
use Rattle.write_set.proofs.verdicts.judge.Given as goal

-- the candidates so far are judged
abbrev pub invariant-loop-c : goal.invariant-loop-c
invariant-loop-c l = record {
  outcomes : l.outcomes.items ≡ map (outcome_of (last_in l.changes) l.epoch l.fresh) (map placed (take l.c-index l.all));
  writes : l.writes.items ≡ writes_of (outcome_of (last_in l.changes) l.epoch l.fresh) (map placed (take l.c-index l.all));
}
