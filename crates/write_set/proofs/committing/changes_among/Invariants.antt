use Rattle.std.proofs.Common.{◌≡◌, map, take}
use Rattle.write_set.specs.inner.Gathering.{changes_among}
use Rattle.write_set.proofs.committing.changes_among.Given as goal

-- the changes of the candidates so far are gathered
abbrev pub invariant-loop-place : goal.invariant-loop-place
invariant-loop-place l = map (λ c. c.now) l.changes.items ≡ changes_among (map (λ c. c.now) (take l.place l.candidates)) l.outcomes
