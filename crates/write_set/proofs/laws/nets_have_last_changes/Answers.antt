use Rattle.write_set.proofs.Nets.{net_is}
use Rattle.write_set.proofs.laws.nets_have_last_changes.Goals as goal

pub returns : goal.returns
returns c = net_is
