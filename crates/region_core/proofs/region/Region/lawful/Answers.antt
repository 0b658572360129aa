use Rattle.std.proofs.Common.{subst}
use Rattle.region_core.specs.Lawful.{IsRegion}
use Rattle.region_core.proofs.region.Region.lawful.Goals as goal

pub returns : goal.returns
returns c = subst IsRegion c.self.view_is c.self.invariant.lawful
