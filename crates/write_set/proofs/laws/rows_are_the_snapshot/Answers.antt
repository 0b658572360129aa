use Rattle.write_set.specs.laws.Tables.{rises_snap, image_snap}
use Rattle.write_set.proofs.laws.rows_are_the_snapshot.Goals as goal

pub returns-clause-rising : goal.returns-clause-rising
returns-clause-rising c = rises_snap

pub returns-clause-images : goal.returns-clause-images
returns-clause-images c = image_snap
