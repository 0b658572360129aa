use Rattle.region_core.proofs.Sealings.{sealed_keepers}
use Rattle.region_core.proofs.region.Region.seal.Goals as goal

pub returns-in-Ok-clause-keepers : goal.returns-in-Ok-clause-keepers
returns-in-Ok-clause-keepers g c =
    sealed_keepers c.args.self.now c.log_next.new.self (g.L.Keepers.lists c.args.logs.now) (g.L.Keepers.lists c.log_next.new.logs) c.in-Ok.bytes.items (g.L.Keepers.width c.args.logs.now)
    c.in-Ok.ensures.ok.0 c.in-Ok.ensures.ok.1 c.requires.width c.in-Ok.ensures.told c.in-Ok.ensures.log
