use Rattle.std.proofs.Common.{◌+◌, ◌≤◌, arith}
use Rattle.geo_base.specs.declared.limits.TheConstants.{LAST_EPOCH}
use Rattle.region_core.proofs.Gathered.{gathered, next_short}
use Rattle.region_core.proofs.Insides.{view_of}
use Rattle.region_core.proofs.region.Region.round.Goals as goal

pub overflow_add-epoch : goal.overflow_add-epoch
overflow_add-epoch c =
    let short : c.published-epoch.result + 1 ≤ LAST_EPOCH = next_short (view_of c.self.inside) c.args.self.now c.self.invariant.lawful c.self.view_is c.published-epoch.result c.published-epoch.ensures in
    omega (arith, short)

pub returns-clause-few : goal.returns-clause-few
returns-clause-few c =
    (gathered (view_of c.self.inside) c.args.self.now c.self.invariant.lawful c.self.view_is c.published-epoch.result c.published-epoch.ensures
    c.have-have.result c.in_ok-batches_of.field-0.items c.new.result c.have-have.ensures c.if-have-self.false c.in_ok-batches_of.ensures c.new.ensures).few

pub returns-clause-lawful : goal.returns-clause-lawful
returns-clause-lawful c =
    (gathered (view_of c.self.inside) c.args.self.now c.self.invariant.lawful c.self.view_is c.published-epoch.result c.published-epoch.ensures
    c.have-have.result c.in_ok-batches_of.field-0.items c.new.result c.have-have.ensures c.if-have-self.false c.in_ok-batches_of.ensures c.new.ensures).lawful
