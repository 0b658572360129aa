use Rattle.std.proofs.Common.{◌+◌, ◌<◌, arith}
use Rattle.version_store.specs.History.{chain_of}
use Rattle.version_store.specs.laws.Keeping.{falls_of, whole_of, version_is_read, read_is_version, grown_images}
use Rattle.version_store.proofs.laws.kept_images_are_read.Goals as goal

pub returns-clause-versions : goal.returns-clause-versions
returns-clause-versions c kept row version lawful among =
    let before : kept.horizon < kept.applied + 1 = omega (arith, lawful.within) in
    let found = version_is_read kept.horizon (kept.applied + 1) (chain_of kept row) version before (falls_of kept lawful row) (whole_of kept lawful row) among in
    (found.0, found.1, omega (arith, found.2), found.3)

pub returns-clause-images : goal.returns-clause-images
returns-clause-images c = read_is_version

pub returns-clause-grown : goal.returns-clause-grown
returns-clause-grown c = grown_images
