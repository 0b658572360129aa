use Rattle.geo_script.proofs.OneAnswer.{script_or_fault, never_both, one_script, one_fault}
use Rattle.geo_script.proofs.laws.a_text_is_of_one_script_or_has_one_fault.Goals as goal

pub returns-clause-either : goal.returns-clause-either
returns-clause-either c = script_or_fault

pub returns-clause-never : goal.returns-clause-never
returns-clause-never c = never_both

pub returns-clause-script : goal.returns-clause-script
returns-clause-script c = one_script

pub returns-clause-fault : goal.returns-clause-fault
returns-clause-fault c = one_fault
