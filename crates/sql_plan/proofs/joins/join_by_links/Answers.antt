use Rattle.sql_plan.proofs.Chosen.{first_link, no_link}
use Rattle.sql_plan.proofs.joins.join_by_links.Goals as goal

pub returns-in-Some : goal.returns-in-Some
returns-in-Some c = first_link c.args.links.now _ c.in-Some.ensures.value

pub returns-in-None : goal.returns-in-None
returns-in-None c = no_link c.args.links.now c.in-None.ensures.value
