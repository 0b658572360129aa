use Rattle.geo_script.proofs.FirstBad.{fault_is, fault_read}
use Rattle.geo_script.proofs.laws.faults_are_first_bad_lines.Goals as goal

pub returns : goal.returns
returns c = λ form bytes fault. (fault_is form bytes fault, fault_read form bytes fault)
