use Rattle.std.proofs.Common.{arith}
use Rattle.region_core.proofs.region.Region.is_full.Goals as goal

pub overflow_add-result : goal.overflow_add-result
overflow_add-result c = omega (arith, c.self.invariant.counted, c.self.invariant.lawful.stands.size, c.bytes_of.ensures.few)
