use Rattle.sql_exec.proofs.netting.make.Goals as goal
use Rattle.sql_exec.specs.laws.OwnNets.{removals_of}

pub returns-in-Ok-clause-net : goal.returns-in-Ok-clause-net
returns-in-Ok-clause-net c = record {
  is_net = c.in-Ok.ensures.net;
  touches = c.in-Ok.ensures.touches;
  removals = removals_of c.args.own.now c.args.changes.items c.apply.new.self c.in-Ok.ensures.net;
  within = c.in-Ok.ensures.within;
}
