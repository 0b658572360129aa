use Rattle.std.proofs.Common.{refl}
use Rattle.page_map.proofs.Listings.{added_more}
use Rattle.page_map.proofs.listing.add_pairs.Goals as goal

pub loop-pair-preserved : goal.loop-pair-preserved
loop-pair-preserved g c =
    added_more _ c.args.pairs.now c.loop-pair.pair-index c.pair-item.result c.loop-pair-test.true c.pair-item.is _ c.loop-pair.found.items c.push.new.self.items _ c.loop-pair.invariant refl c.in_ok-push.ensures.items
