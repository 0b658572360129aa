use Rattle.version_store.specs.laws.Growing.{images, change_after, change_told, change_upto}
use Rattle.version_store.proofs.laws.versions_answer_as_snapshots.Goals as goal

pub returns-clause-images : goal.returns-clause-images
returns-clause-images c = images

pub returns-clause-changes : goal.returns-clause-changes
returns-clause-changes c = change_told

pub returns-clause-after : goal.returns-clause-after
returns-clause-after c = change_after

pub returns-clause-upto : goal.returns-clause-upto
returns-clause-upto c = change_upto
