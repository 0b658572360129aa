-- The rows that the session is answered are those of the region in the world.
use Rattle.std.proofs.lemmas.Result.{on_ok_weaker}
use Rattle.geo_world.proofs.Asking.{region-stands, select-makes}
use Rattle.geo_world.proofs.world.World.select.Goals as goal

pub returns : goal.returns
returns c = λ w s. on_ok_weaker c.print_answer.result
    (select-makes w c.args.self.now c.args.number c.args.session c.index.result.now _ _ s
    (region-stands w c.args.self.now c.args.number c.index.result.now s c.requires c.index.ensures))
    c.print_answer.ensures
