use Rattle.region_core.specs.laws.Regions.{makes_region}
use Rattle.region_core.proofs.laws.entries_make_regions.Goals as goal

pub returns : goal.returns
returns c = makes_region
