use Rattle.group_exec.specs.laws.Orders.{by_all_total, less_is_weak}
use Rattle.group_exec.proofs.laws.the_order_of_lines_is_total.Goals as goal

pub returns-clause-total : goal.returns-clause-total
returns-clause-total c = by_all_total

pub returns-clause-weak : goal.returns-clause-weak
returns-clause-weak c = less_is_weak
