use Rattle.std.proofs.Common.{arith, rules}
use Rattle.group_exec.proofs.Answers.{few_lines}
use Rattle.group_exec.proofs.grouping.within_limit.Goals as goal

pub returns : goal.returns
returns c = few_lines c.args.lines.items c.new.result (omega arith) (search rules)
