use Rattle.page_map.proofs.Shelves.{shared_right, whole_from}
use Rattle.page_map.proofs.parting.shelf_of.Goals as goal

pub returns-clause-pairs : goal.returns-clause-pairs
returns-clause-pairs g c =
    (shared_right g.C.Chunk.entries g.C.Chunk.sound c.args.chunks.now c.in_ok-shared.shared.items c.args.count c.in_ok-shared.ensures c.requires.chunks c.requires.counted c.requires.small).same

pub returns-clause-whole : goal.returns-clause-whole
returns-clause-whole g c =
    whole_from g.C.Chunk.entries g.C.Chunk.sound _ _ (shared_right g.C.Chunk.entries g.C.Chunk.sound c.args.chunks.now c.in_ok-shared.shared.items c.args.count c.in_ok-shared.ensures c.requires.chunks c.requires.counted c.requires.small)
