use Rattle.std.proofs.Common.{ap, sym, ◌∙◌, subst}
use Rattle.std.specs.Arc.{arc_value}
use Rattle.page_map.specs.Pairs.{IsRising, found_at, without}
use Rattle.page_map.specs.inner.Chunks.{root_entries, IsRoot}
use Rattle.page_map.specs.laws.Orders.{rising_without}
use Rattle.page_map.proofs.root.take_root.Goals as goal

pub returns-clause-rising : goal.returns-clause-rising
returns-clause-rising g c =
    subst (IsRising g.K.Ord.cmp) (sym c.in_ok-old-in-Some.ensures.new)
    (rising_without g.K.Ord.cmp g.met.K.Ord.total c.args.key.now (g.C.Chunk.entries (arc_value c.in-Some.top))
    (subst (λ r. IsRising g.K.Ord.cmp (root_entries g.C.Chunk.entries r)) c.in-Some.is c.requires.rising))

pub take_in-requires-clause-whole : goal.take_in-requires-clause-whole
take_in-requires-clause-whole g c = (subst (IsRoot g.C.Chunk.entries g.C.Chunk.sound) c.in-Some.is c.requires.whole).0

pub take_in-requires-clause-rising : goal.take_in-requires-clause-rising
take_in-requires-clause-rising g c = subst (λ r. IsRising g.K.Ord.cmp (root_entries g.C.Chunk.entries r)) c.in-Some.is c.requires.rising

pub take_in-requires-clause-some : goal.take_in-requires-clause-some
take_in-requires-clause-some g c = (subst (IsRoot g.C.Chunk.entries g.C.Chunk.sound) c.in-Some.is c.requires.whole).1

pub returns-clause-old : goal.returns-clause-old
returns-clause-old g c =
    c.in_ok-old-in-Some.ensures.old ∙ sym (ap (λ r. found_at g.K.Ord.cmp c.args.key.now (root_entries g.C.Chunk.entries r)) c.in-Some.is)

pub returns-clause-new : goal.returns-clause-new
returns-clause-new g c =
    c.in_ok-old-in-Some.ensures.new ∙ sym (ap (λ r. without g.K.Ord.cmp c.args.key.now (root_entries g.C.Chunk.entries r)) c.in-Some.is)
