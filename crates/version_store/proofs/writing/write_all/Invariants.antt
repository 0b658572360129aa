use Rattle.std.proofs.Common.{◌≡◌, map, drop}
use Rattle.version_store.specs.inner.Writing.{all_written}
use Rattle.version_store.proofs.writing.write_all.Given as goal

-- the changes from here on come to the whole
abbrev pub invariant-loop-change : goal.invariant-loop-change
invariant-loop-change l = all_written l.epoch (map (λ c. c.now) (drop l.change-index l.changes)) l.rows ≡ all_written l.epoch (map (λ c. c.now) l.changes) l.initial.rows
