use Rattle.region_core.proofs.Insides.{view_of}
use Rattle.region_core.proofs.Read.{snapshot_of}
use Rattle.region_core.proofs.region.Region.snapshot.Goals as goal

pub returns : goal.returns
returns c =
    snapshot_of c.self.inside.size c.self.inside.inbox c.self.inside.index (view_of c.self.inside) c.args.self.now c.in_ok-versions.versions c.in_ok-index.index c.args.epoch c.new.result
    c.self.invariant c.self.view_is c.requires.from c.requires.upto c.in_ok-versions.ensures c.in_ok-index.ensures c.new.ensures.held
