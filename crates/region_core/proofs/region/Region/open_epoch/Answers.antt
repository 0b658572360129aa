use Rattle.std.proofs.Common.{◌<◌, length, arith}
use Rattle.geo_base.specs.declared.limits.TheConstants.{LAST_EPOCH}
use Rattle.region_core.proofs.Short.{log_short}
use Rattle.region_core.proofs.region.Region.open_epoch.Goals as goal

pub overflow_cast-result : goal.overflow_cast-result
overflow_cast-result c =
    let short : length c.self.inside.log.items < LAST_EPOCH = log_short c.self.inside.schema c.self.inside.regions c.self.inside.no c.self.inside.log.items c.self.invariant.lawful.stands.log in
    omega (arith, short)

pub overflow_add-result : goal.overflow_add-result
overflow_add-result c =
    let short : length c.self.inside.log.items < LAST_EPOCH = log_short c.self.inside.schema c.self.inside.regions c.self.inside.no c.self.inside.log.items c.self.invariant.lawful.stands.log in
    omega (arith, short)
