-- A packet's batch is known, or comes to its region.
use Rattle.std.proofs.Common.{◌≡◌, ℕ, ◌<◌, ◌||◌, false, List, refl, sym, subst, slice_get, get_or, Some, length, vec_len, nat_le, is_some}
use Rattle.std.proofs.lemmas.Result.{on_ok_weaker}
use Rattle.write_set.specs.declared.batch.Batch.{Batch}
use Rattle.geo_world.specs.declared.region.Region.{Region}
use Rattle.geo_world.specs.declared.world.World.{World as Kept}
use Rattle.geo_world.specs.declared.packet.Packet.{Packet as KeptPacket}
use Rattle.geo_world.specs.inner.Standing.{IsSomeWorld}
use Rattle.geo_world.specs.inner.Arrivals.{batch_in}
use Rattle.geo_world.specs.inner.Regions.{Receives}
use Rattle.geo_world.proofs.Asking.{region-stands, read-same}
use Rattle.geo_world.proofs.Delivering.{packet-there, somewhere, known-makes, new-makes}
use Rattle.geo_world.proofs.world.World.deliver_one.Goals as goal

-- the region that the packet is for is there
there : (k : Kept) (ps : List KeptPacket) (packet : ℕ) (p : KeptPacket) → IsSomeWorld k → ps ≡ k.packets.items → packet < length ps → p ≡ get_or ps packet p →
    p.to < vec_len k.regions
there k ps packet p some same h is = somewhere some.0 k packet p some.1 (packet-there k ps packet p same h is)

pub index-requires : goal.index-requires
index-requires c =
    there c.args.self.now c.deref.result.now c.args.packet c.in-Some.found.now c.requires c.deref.ensures.value c.in-Some.ensures.lookup.3.0 c.in-Some.ensures.lookup.1

pub index_mut-requires : goal.index_mut-requires
index_mut-requires c =
    there c.args.self.now c.deref.result.now c.args.packet c.in-Some.found.now c.requires c.deref.ensures.value c.in-Some.ensures.lookup.3.0 c.in-Some.ensures.lookup.1

pub returns-then-knows-clause-step : goal.returns-then-knows-clause-step
returns-then-knows-clause-step c = λ w s.
    let k = c.args.self.now in
    let p = c.in-Some.found.now in
    let at : slice_get k.packets.items c.args.packet ≡ Some p =
    packet-there k c.deref.result.now c.args.packet p c.deref.ensures.value c.in-Some.ensures.lookup.3.0 c.in-Some.ensures.lookup.1 in
    on_ok_weaker c.print_packet_known.result
    (known-makes w k c.args.packet p c.index.result.now _ _ s at
    (region-stands w k p.to c.index.result.now s (somewhere w k c.args.packet p s at) c.index.ensures) (sym c.if-knows.ensures))
    c.print_packet_known.ensures

pub returns-clause-step : goal.returns-clause-step
returns-clause-step c = λ w s.
    let k = c.args.self.now in
    let p = c.in-Some.found.now in
    let at : slice_get k.packets.items c.args.packet ≡ Some p =
    packet-there k c.deref.result.now c.args.packet p c.deref.ensures.value c.in-Some.ensures.lookup.3.0 c.in-Some.ensures.lookup.1 in
    let there = somewhere w k c.args.packet p s at in
    let old : c.index.result.now ≡ c.index_mut.result.now = read-same k p.to c.index.result.now c.index_mut.result.now there c.index.ensures c.index_mut.ensures.value in
    let unknown : (nat_le p.batch.epoch c.index_mut.result.now.plain.epoch || is_some (batch_in c.index_mut.result.now.inbox p.batch.region p.batch.epoch)) ≡ false =
    subst (λ (r : Region). (nat_le p.batch.epoch r.plain.epoch || is_some (batch_in r.inbox p.batch.region p.batch.epoch)) ≡ false) old (sym c.if-knows.ensures) in
    let receives : Receives p.batch c.index_mut.result.now c.receive.new.self =
    subst (λ (b : Batch). Receives b c.index_mut.result.now c.receive.new.self) c.in_ok-batch.ensures c.in_ok-receive.ensures in
    on_ok_weaker c.print_packet_new.result
    (new-makes w k _ c.args.packet p c.index_mut.result.now c.receive.new.self _ _ s at
    (region-stands w k p.to c.index_mut.result.now s there c.index_mut.ensures.value) unknown receives
    (record { schema = refl; last = refl; regions = refl; within = subst (λ n. p.to < n) k.regions.ok.0 there }) refl)
    c.print_packet_new.ensures
