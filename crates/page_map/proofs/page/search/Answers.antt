use Rattle.std.proofs.Common.{◌≡◌, ◌+◌, ◌-◌, ◌/◌, arith}
use Rattle.std.specs.declared.cmp.Ordering.TheVariants.{Less, Equal, Greater}
use Rattle.page_map.proofs.Steps.{searching_less, searching_greater, found_there}
use Rattle.page_map.proofs.page.search.Goals as goal

pub loop-low-preserved-in-Less : goal.loop-low-preserved-in-Less
loop-low-preserved-in-Less g c =
    let e : g.K.Ord.cmp c.index.result.now.0 c.args.key.now ≡ Less = cc in
    let s = c.loop-low.invariant in
    searching_less g.K.Ord.cmp g.met.K.Ord.total c.args.key.now c.args.page.now.entries.items c.requires c.loop-low.low c.loop-low.high (c.loop-low.low + (c.loop-low.high - c.loop-low.low) / 2) c.index.result.now s (omega arith) c.index.ensures e

pub loop-low-preserved : goal.loop-low-preserved
loop-low-preserved g c =
    let e : g.K.Ord.cmp c.index.result.now.0 c.args.key.now ≡ Greater = cc in
    let s = c.loop-low.invariant in
    let middle = c.loop-low.low + (c.loop-low.high - c.loop-low.low) / 2 in
    searching_greater g.K.Ord.cmp g.met.K.Ord.total c.args.key.now c.args.page.now.entries.items c.requires c.loop-low.low c.loop-low.high middle c.index.result.now s (omega arith) (omega arith) c.index.ensures e

pub returns-in-Equal-clause-found : goal.returns-in-Equal-clause-found
returns-in-Equal-clause-found g c =
    let e : g.K.Ord.cmp c.index.result.now.0 c.args.key.now ≡ Equal = cc in
    let s = c.loop-low.invariant in
    let middle = c.loop-low.low + (c.loop-low.high - c.loop-low.low) / 2 in
    found_there g.K.Ord.cmp g.met.K.Ord.total c.args.key.now c.args.page.now.entries.items c.requires middle c.index.result.now (omega (arith, s.within)) c.index.ensures e
