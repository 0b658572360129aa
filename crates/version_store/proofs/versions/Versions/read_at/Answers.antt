use Rattle.std.proofs.Common.{◌∙◌}
use Rattle.version_store.specs.laws.Growing.{images}
use Rattle.version_store.proofs.versions.Versions.read_at.Goals as goal

pub returns-clause-snapshot : goal.returns-clause-snapshot
returns-clause-snapshot c journal history =
    c.image_of.ensures ∙ images journal c.args.self.now c.args.row.now c.args.epoch history c.requires.from c.requires.upto
