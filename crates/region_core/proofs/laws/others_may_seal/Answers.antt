use Rattle.region_core.specs.laws.Journals as laws
use Rattle.region_core.proofs.laws.others_may_seal.Goals as goal

pub returns : goal.returns
returns c = laws.others_may_seal
