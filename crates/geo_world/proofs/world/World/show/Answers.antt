-- What the region shows is what stands in the world.
use Rattle.std.proofs.lemmas.Result.{on_ok_weaker}
use Rattle.geo_world.proofs.Asking.{region-stands, show-makes}
use Rattle.geo_world.proofs.world.World.show.Goals as goal

pub returns : goal.returns
returns c = λ w s. on_ok_weaker c.print_shown.result
    (show-makes w c.args.self.now c.args.number c.epoch.result c.index.result.now _ _ s
    (region-stands w c.args.self.now c.args.number c.index.result.now s c.requires c.index.ensures) c.epoch.ensures)
    c.print_shown.ensures
