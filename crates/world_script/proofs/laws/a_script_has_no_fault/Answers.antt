use Rattle.world_script.proofs.TextLaws.{no_fault}
use Rattle.world_script.proofs.laws.a_script_has_no_fault.Goals as goal

pub returns : goal.returns
returns c = no_fault
