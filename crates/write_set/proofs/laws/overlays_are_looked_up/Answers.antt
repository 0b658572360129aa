use Rattle.write_set.specs.laws.Tables.{rises_overlay, image_laid_over}
use Rattle.write_set.proofs.laws.overlays_are_looked_up.Goals as goal

pub returns-clause-rising : goal.returns-clause-rising
returns-clause-rising c = rises_overlay

pub returns-clause-images : goal.returns-clause-images
returns-clause-images c = image_laid_over
