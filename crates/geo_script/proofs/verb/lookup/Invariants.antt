use Rattle.std.proofs.Common.{◌≡◌, length, map}
use Rattle.geo_script.specs.inner.Verbs.{verb_in}
use Rattle.geo_script.proofs.verb.lookup.Given as goal

abbrev pub invariant-loop-table : goal.invariant-loop-table
invariant-loop-table l = verb_in (map (λ entry. (entry.0.now, entry.1)) l.table) l.word ≡ verb_in (map (λ entry. (entry.0.now, entry.1)) l.initial.table) l.word

abbrev pub decreases-loop-table : goal.decreases-loop-table
decreases-loop-table l = length l.table
