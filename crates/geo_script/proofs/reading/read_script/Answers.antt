use Rattle.geo_script.proofs.Answered.{spelled, only, faulty, only_faults}
use Rattle.geo_script.proofs.reading.read_script.Goals as goal

pub returns-clause-spelled : goal.returns-clause-spelled
returns-clause-spelled c = spelled c.args.form c.args.bytes.now c.read_text.result c.read_text.ensures

pub returns-clause-only : goal.returns-clause-only
returns-clause-only c = only c.args.form c.args.bytes.now c.read_text.result c.read_text.ensures

pub returns-clause-fault : goal.returns-clause-fault
returns-clause-fault c = faulty c.args.form c.args.bytes.now c.read_text.result c.read_text.ensures

pub returns-clause-only_faults : goal.returns-clause-only_faults
returns-clause-only_faults c = only_faults c.args.form c.args.bytes.now c.read_text.result c.read_text.ensures
