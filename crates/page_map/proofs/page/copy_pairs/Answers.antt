use Rattle.page_map.proofs.Listings.{copied_more}
use Rattle.page_map.proofs.page.copy_pairs.Goals as goal

pub loop-pair-preserved : goal.loop-pair-preserved
loop-pair-preserved g c =
    copied_more c.args.pairs.now c.loop-pair.pair-index c.pair-item.result c.loop-pair-test.true c.pair-item.is c.loop-pair.copies.items c.push.new.self.items _ c.loop-pair.invariant c.in_ok-copy_pair.ensures c.in_ok-push.ensures.items
