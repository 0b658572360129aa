use Rattle.std.proofs.Common.{refl}
use Rattle.region_core.proofs.Arrived.{come_in}
use Rattle.region_core.proofs.Insides.{view_of}
use Rattle.region_core.proofs.region.Region.arrive.Goals as goal

pub invariant_of-self-2 : goal.invariant_of-self-2
invariant_of-self-2 c =
    come_in c.self.inside.size c.published-published.result c.self.inside.inbox c.put.new.self c.self.inside.index (view_of c.self.inside) c.args.self.now c.args.batch c.in_ok-put.field-0
    c.self.invariant c.self.view_is refl c.published-published.ensures c.if-not-self.false c.requires c.in_ok-put.ensures.arrival c.in_ok-put.ensures.held
