use Rattle.snap_view.specs.laws.Following.{no_images, next_images, rest_images}
use Rattle.snap_view.proofs.laws.indexes_follow_versions.Goals as goal

pub returns-clause-begins : goal.returns-clause-begins
returns-clause-begins c = no_images

pub returns-clause-applied : goal.returns-clause-applied
returns-clause-applied c = next_images

pub returns-clause-trimmed : goal.returns-clause-trimmed
returns-clause-trimmed c = rest_images
