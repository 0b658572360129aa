use Rattle.write_set.specs.laws.Isolating.{commit_once}
use Rattle.write_set.proofs.laws.committed_share_no_row.Goals as goal

pub returns : goal.returns
returns c = commit_once
