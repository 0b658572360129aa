-- Inner: the changes of an epoch's committed candidates, as the code gathers them.
use Rattle.std.specs.Prelude.{List, [], ◌∷◌, ◌++◌, if◌then◌else◌}
use Rattle.std.specs.List.{flat_map}
use Rattle.geo_base.specs.declared.outcome.Outcome.{Outcome}
use Rattle.write_set.specs.declared.batch.Batch.{Batch}
use Rattle.write_set.specs.declared.candidate.Candidate.{Candidate}
use Rattle.write_set.specs.Sets.{ChangeOfRow}
use Rattle.write_set.specs.Merge.{is_committed}

-- the candidates of the batches
abbrev pub all_items : List Batch → List Candidate
all_items batches = flat_map (λ b. b.items) batches

-- the changes of those candidates whose outcome is that they commit
abbrev pub changes_among : List Candidate → List Outcome → List ChangeOfRow
changes_among [] outcomes = []
changes_among (c ∷ more) [] = []
changes_among (c ∷ more) (outcome ∷ outcomes) = if is_committed outcome then c.set ++ changes_among more outcomes else changes_among more outcomes
