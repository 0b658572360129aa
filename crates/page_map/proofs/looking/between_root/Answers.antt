use Rattle.std.proofs.Common.{◌≤◌, ◌-◌, ◌++◌, length, map, take, drop, ap, sym, ◌∙◌, subst, arith}
use Rattle.page_map.specs.inner.Chunks.{root_entries, IsRoot}
use Rattle.page_map.proofs.Listings.{range_empty, range_past, range_listed}
use Rattle.page_map.proofs.looking.between_root.Goals as goal

pub count-requires : goal.count-requires
count-requires g c = subst g.C.Chunk.sound (sym c.deref.ensures) (subst (IsRoot g.C.Chunk.entries g.C.Chunk.sound) c.in-Some.is c.requires).0

pub list-requires-clause-whole : goal.list-requires-clause-whole
list-requires-clause-whole g c = subst g.C.Chunk.sound (sym c.deref-2.ensures) (subst (IsRoot g.C.Chunk.entries g.C.Chunk.sound) c.in-Some.is c.requires).0

pub list-requires-clause-within : goal.list-requires-clause-within
list-requires-clause-within g c =
    omega (arith, c.count.ensures.pairs, ap (λ v. length (g.C.Chunk.entries v)) (c.deref.ensures ∙ sym c.deref-2.ensures))

pub returns-then-last-first : goal.returns-then-last-first
returns-then-last-first g c =
    range_empty _ (root_entries g.C.Chunk.entries c.args.root.now) c.args.first c.args.last c.new-found.result.items c.new-found.ensures.items c.if-last-first.true

pub returns-then-count-first : goal.returns-then-count-first
returns-then-count-first g c =
    let past : length (root_entries g.C.Chunk.entries c.args.root.now) ≤ c.args.first =
    omega (arith, c.count.ensures.pairs, ap (λ v. length (g.C.Chunk.entries v)) c.deref.ensures, ap (λ r. length (root_entries g.C.Chunk.entries r)) c.in-Some.is) in
    range_past _ (root_entries g.C.Chunk.entries c.args.root.now) c.args.first c.args.last c.new-found.result.items c.new-found.ensures.items past

pub returns : goal.returns
returns g c =
    range_listed _ (root_entries g.C.Chunk.entries c.args.root.now) c.args.first c.args.last c.new-found.result.items c.new-found.ensures.items c.list.new.found.items
    (c.in_ok-list.ensures
    ∙ ap (λ l. map (λ pair. (pair.0.now, pair.1.now)) c.new-found.result.items ++ take (c.args.last - c.args.first) (drop c.args.first l))
    (ap g.C.Chunk.entries c.deref-2.ensures ∙ sym (ap (root_entries g.C.Chunk.entries) c.in-Some.is)))
