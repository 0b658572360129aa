use Rattle.std.proofs.Common.{◌≡◌, ◌+◌, ◌-◌, ◌/◌, sym, ◌∙◌, subst, arith}
use Rattle.page_map.specs.inner.Cuts.{IsBorderedIn}
use Rattle.page_map.specs.inner.Chunks.{shared_entries}
use Rattle.page_map.proofs.Bordering.{bordered_in_up, bordered_in_down}
use Rattle.page_map.proofs.finding.border_chunk.Goals as goal

pub loop-low-preserved-then-begins_before : goal.loop-low-preserved-then-begins_before
loop-low-preserved-then-begins_before g c =
    let middle = c.loop-low.low + (c.loop-low.high - c.loop-low.low) / 2 in
    let first = c.begins_before.ensures in
    bordered_in_up (g.B.Border.before c.args.border.now) (shared_entries g.C.Chunk.entries) c.args.shelf.now.chunks.items c.loop-low.low c.loop-low.high middle c.index.result.now first.0 c.requires.parted c.loop-low.invariant (omega arith) c.index.ensures first.1 (sym first.2 ∙ c.if-begins_before.true)

pub loop-low-preserved : goal.loop-low-preserved
loop-low-preserved g c =
    let middle = c.loop-low.low + (c.loop-low.high - c.loop-low.low) / 2 in
    let first = c.begins_before.ensures in
    bordered_in_down (g.B.Border.before c.args.border.now) (shared_entries g.C.Chunk.entries) c.args.shelf.now.chunks.items c.loop-low.low c.loop-low.high middle c.index.result.now first.0 c.requires.parted c.loop-low.invariant (omega arith) (omega arith) c.index.ensures first.1 (sym first.2 ∙ c.if-begins_before.false)

pub returns : goal.returns
returns g c =
    let s = c.loop-low.invariant in
    let one : c.loop-low.high ≡ c.loop-low.low + 1 = omega (arith, s.ordered) in
    subst (λ n. IsBorderedIn (g.B.Border.before c.args.border.now) (shared_entries g.C.Chunk.entries) c.args.shelf.now.chunks.items c.loop-low.low n) one s
