use Rattle.std.proofs.Common.{ap, sym, subst, ◌∙◌}
use Rattle.page_map.proofs.SharedChunks.{chunk_shared, halves_shared}
use Rattle.page_map.proofs.sharing.shared_halves.Goals as goal

pub returns-clause-pairs : goal.returns-clause-pairs
returns-clause-pairs g c =
    ap g.C.Chunk.entries (sym c.deref.ensures)
    ∙ halves_shared g.C.Chunk.entries c.in_ok-first-2.first c.in_ok-last.last c.in_ok-first-2.ensures.ok c.in_ok-last.ensures.ok c.in_ok-first.ensures.pairs

pub returns-clause-first : goal.returns-clause-first
returns-clause-first g c =
    chunk_shared g.C.Chunk.entries g.C.Chunk.sound c.in_ok-first-2.ensures.ok c.in_ok-first.ensures.whole.0 c.in_ok-first.ensures.some.0

pub returns-clause-last : goal.returns-clause-last
returns-clause-last g c =
    chunk_shared g.C.Chunk.entries g.C.Chunk.sound c.in_ok-last.ensures.ok c.in_ok-first.ensures.whole.1 c.in_ok-first.ensures.some.1

pub returns-clause-room : goal.returns-clause-room
returns-clause-room g c = (
  subst g.C.Chunk.room (sym c.in_ok-first-2.ensures.ok) c.in_ok-first.ensures.room.0,
  subst g.C.Chunk.room (sym c.in_ok-last.ensures.ok) c.in_ok-first.ensures.room.1,
)
