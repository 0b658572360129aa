use Rattle.std.proofs.Common.{length, ap, sym, ◌∙◌, subst, arith}
use Rattle.std.specs.List.{slice_get}
use Rattle.page_map.specs.inner.Chunks.{root_entries, IsRoot}
use Rattle.page_map.proofs.looking.at_root.Goals as goal

pub count-requires : goal.count-requires
count-requires g c = subst g.C.Chunk.sound (sym c.deref.ensures) (subst (IsRoot g.C.Chunk.entries g.C.Chunk.sound) c.in-Some.is c.requires).0

pub at-requires-clause-whole : goal.at-requires-clause-whole
at-requires-clause-whole g c =
    subst g.C.Chunk.sound (sym c.deref-then-place-count.ensures) (subst (IsRoot g.C.Chunk.entries g.C.Chunk.sound) c.in-Some.is c.requires).0

pub at-requires-clause-within : goal.at-requires-clause-within
at-requires-clause-within g c =
    omega (arith, c.count.ensures.pairs, ap (λ v. length (g.C.Chunk.entries v)) (c.deref.ensures ∙ sym c.deref-then-place-count.ensures))

pub returns-then-place-count : goal.returns-then-place-count
returns-then-place-count g c =
    sym (ap (λ l. slice_get l c.args.place) (ap (root_entries g.C.Chunk.entries) c.in-Some.is ∙ ap g.C.Chunk.entries (sym c.deref-then-place-count.ensures)) ∙ c.at.ensures)
