use Rattle.region_tests.proofs.Asked.{sealed}
use Rattle.region_tests.proofs.playing.Played.seal.Goals as goal

pub invariant_of-self : goal.invariant_of-self
invariant_of-self c =
    sealed c.self.inside.region c.seal.new.self c.self.inside.logs.lists c.self.inside.tickets.items c.self.invariant c.seal.new.logs.lists c.seal.result c.seal.ensures.seals c.seal.ensures.log
    c.seal.ensures.keepers
