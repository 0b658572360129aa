use Rattle.world_script.proofs.TextLaws.{one_fault}
use Rattle.world_script.proofs.laws.a_fault_is_one_line.Goals as goal

pub returns : goal.returns
returns c = one_fault
