use Rattle.write_set.specs.Journal.{candidates_of}
use Rattle.merge_round.specs.Rounds.{plan_by}
use Rattle.merge_round.proofs.round.MergeRound.new.Given as goal

abbrev pub ghosts-table_for : goal.ghosts-table_for
ghosts-table_for g a = record { plan = plan_by (g.C.Changes.last a._input.now.before) (candidates_of a._input.now.batches) }
