use Rattle.std.proofs.Common.{ap, set, ◌∙◌}
use Rattle.page_map.proofs.Rooms.{halves_put}
use Rattle.page_map.proofs.making_room.put_halves.Goals as goal

pub returns-clause-ok : goal.returns-clause-ok
returns-clause-ok g c =
    ap (λ l. set l c.args.place c.args.first) c.in_ok-insert.ensures.items
    ∙ halves_put c.args.shelf.now.chunks.items c.args.place c.args.first c.args.last c.requires
