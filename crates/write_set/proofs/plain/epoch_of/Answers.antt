use Rattle.std.proofs.Common.{◌≡◌, ℕ, ◌≤◌, List, [], ◌∷◌, length, get_or, arith}
use Rattle.write_set.specs.declared.batch.Batch.{Batch}
use Rattle.write_set.specs.Journal.{AreBatches}
use Rattle.write_set.proofs.plain.epoch_of.Goals as goal

first_epoch : (bs : List Batch) (d : Batch) (region epoch : ℕ) → 1 ≤ length bs → AreBatches region epoch bs → (get_or bs 0 d).epoch ≡ epoch
first_epoch [] d region epoch some lawful = absurd (omega arith)
first_epoch (b ∷ bs) d region epoch some lawful = lawful.0.epoch

pub returns : goal.returns
returns c region epoch lawful =
    first_epoch c.args.batches.now c.index-batches-0.result region epoch c.requires lawful
