use Rattle.std.proofs.Common.{◌+◌, ◌-◌, ◌/◌, sym, ◌∙◌, arith}
use Rattle.page_map.proofs.Bordering.{bordered_up, bordered_down, bordered_there}
use Rattle.page_map.proofs.page.border_of.Goals as goal

pub loop-low-preserved-then-comes_after : goal.loop-low-preserved-then-comes_after
loop-low-preserved-then-comes_after g c =
    let middle = c.loop-low.low + (c.loop-low.high - c.loop-low.low) / 2 in
    bordered_up (g.B.Border.before c.args.border.now) c.args.page.now.entries.items c.requires c.loop-low.low c.loop-low.high middle c.index.result.now c.loop-low.invariant (omega arith) c.index.ensures (sym c.comes_after.ensures ∙ c.if-comes_after.true)

pub loop-low-preserved : goal.loop-low-preserved
loop-low-preserved g c =
    let middle = c.loop-low.low + (c.loop-low.high - c.loop-low.low) / 2 in
    bordered_down (g.B.Border.before c.args.border.now) c.args.page.now.entries.items c.requires c.loop-low.low c.loop-low.high middle c.index.result.now c.loop-low.invariant (omega arith) (omega arith) c.index.ensures (sym c.comes_after.ensures ∙ c.if-comes_after.false)

pub returns : goal.returns
returns g c =
    bordered_there (g.B.Border.before c.args.border.now) c.args.page.now.entries.items c.loop-low.low c.loop-low.high c.loop-low.invariant c.loop-low-test.false
