-- The batch that is sealed goes to every other region.
use Rattle.std.proofs.Common.{◌≡◌, ◌-◌, ◌^◌, ◌<◌, ◌≤◌, refl, sym, ap, subst, ◌∙◌, length, ℕ, arith, string_bytes, vec_len}
use Rattle.geo_world.specs.declared.region.Region.{Region}
use Rattle.geo_world.specs.inner.Regions.{Seals}
use Rattle.geo_world.proofs.Asking.{region-read, region-stands, read-same}
use Rattle.geo_world.proofs.Standings.{regions-fit}
use Rattle.geo_world.proofs.SealingLemmas.{waiting-fits, log-some, last-batch, sealed-makes, on_ok_both}
use Rattle.geo_world.proofs.world.World.seal.Goals as goal

pub overflow_cast-count : goal.overflow_cast-count
overflow_cast-count c =
    let fits : vec_len c.index-region.result.now.waiting < 2 ^ 32 =
    waiting-fits c.requires.stands.0 c.args.self.now c.args.number c.index-region.result.now c.requires.stands.1 c.requires.region
    (region-stands c.requires.stands.0 c.args.self.now c.args.number c.index-region.result.now c.requires.stands.1 c.requires.region c.index-region.ensures) in
    omega arith

pub overflow_cast-regions : goal.overflow_cast-regions
overflow_cast-regions c =
    let fits : vec_len c.args.self.now.regions < 2 ^ 8 = regions-fit c.args.self.now c.requires.stands in
    omega arith

-- the region's log has the batch that it has sealed
sealed_some : (c : goal.After-len-last) → 1 ≤ vec_len c.index.result.now.log
sealed_some c =
    let within : c.args.number < length c.args.self.now.regions.items = subst (λ (n : ℕ). c.args.number < n) c.args.self.now.regions.ok.0 c.requires.region in
    log-some c.args.self.now.regions.items c.args.number c.index_mut.result.now c.seal.new.self c.index.result.now within c.index.ensures c.in_ok-seal.ensures

pub overflow_sub-last : goal.overflow_sub-last
overflow_sub-last c =
    let some : 1 ≤ vec_len c.index.result.now.log = sealed_some c in
    omega arith

pub index-batch-requires : goal.index-batch-requires
index-batch-requires c =
    let some : 1 ≤ vec_len c.index.result.now.log = sealed_some c in
    omega arith

pub returns-clause-step : goal.returns-clause-step
returns-clause-step c = λ w s.
    let k = c.args.self.now in
    let r = c.index-region.result.now in
    let same : c.index_mut.result.now ≡ r = read-same k c.args.number c.index_mut.result.now r c.requires.region c.index_mut.ensures.value c.index-region.ensures in
    let seals : Seals c.args.number r c.seal.new.self = subst (λ (x : Region). Seals c.args.number x c.seal.new.self) same c.in_ok-seal.ensures in
    let within : c.args.number < length k.regions.items = subst (λ (n : ℕ). c.args.number < n) k.regions.ok.0 c.requires.region in
    let is = last-batch k.regions.items c.args.number (c.len-last.result - 1) r c.seal.new.self c.index.result.now c.index-batch.result.now within c.index.ensures seals
    (ap (λ (n : ℕ). n - 1) c.len-last.ensures) c.index-batch.ensures in
    on_ok_both c.send_all.result
    (λ packets lines. sealed-makes w k _ c.args.number c.len-count.result c.len-regions.result r c.seal.new.self c.index-batch.result.now
    (string_bytes c.args.out.now) (string_bytes c.print_batch_sealed.new.out) _ s c.requires.region
    (region-read k c.args.number r c.requires.region c.index-region.ensures) c.if-epoch-self.false (sym c.if-is_ahead.ensures) seals
    (record { schema = refl; last = refl; regions = refl; within = within }) is (c.len-count.ensures ∙ r.waiting.ok.0) c.len-regions.ensures packets c.in_ok-print_batch_sealed.ensures lines)
    c.send_all.ensures.packets c.send_all.ensures.lines
