-- A region waits for the batches of its next epoch, or publishes it.
use Rattle.std.proofs.Common.{◌≡◌, ◌^◌, ◌<◌, ◌∷◌, refl, ap, subst, ◌∙◌, length, vec_len, ℕ, List, count_by, not, arith}
use Rattle.std.proofs.lemmas.Result.{on_ok_weaker}
use Rattle.geo_base.specs.declared.outcome.Outcome.{Outcome}
use Rattle.write_set.specs.Journal.{Epochs, candidates_of}
use Rattle.write_set.specs.Plain.{IsMergeOf}
use Rattle.write_set.specs.Merge.{verdicts, is_committed}
use Rattle.geo_world.specs.declared.region.Region.{Region}
use Rattle.geo_world.specs.inner.Regions.{Publishes, next_batches}
use Rattle.geo_world.proofs.Asking.{region-read, region-stands, read-same}
use Rattle.geo_world.proofs.Standings.{regions-fit}
use Rattle.geo_world.proofs.PublishingLemmas.{next-fits, read-ready, read-fits, region-waits-makes, published-makes}
use Rattle.geo_world.proofs.world.World.publish.Goals as goal

pub overflow_cast-regions : goal.overflow_cast-regions
overflow_cast-regions c =
    let fits : vec_len c.args.self.now.regions < 2 ^ 8 = regions-fit c.args.self.now c.requires.stands in
    omega arith

pub next_epoch-epoch-requires : goal.next_epoch-epoch-requires
next_epoch-epoch-requires c =
    next-fits c.requires.stands.0 c.args.self.now c.args.number c.index-region.result.now c.requires.stands.1 c.requires.region
    (region-stands c.requires.stands.0 c.args.self.now c.args.number c.index-region.result.now c.requires.stands.1 c.requires.region c.index-region.ensures)

pub publish-requires : goal.publish-requires
publish-requires c =
    read-ready c.args.self.now c.args.number c.next_epoch-epoch.result c.count_next-have.result c.len-regions.result c.index-region.result.now c.index_mut.result.now
    c.requires.stands c.requires.region c.index-region.ensures c.index_mut.ensures.value c.next_epoch-epoch.ensures c.count_next-have.ensures
    c.len-regions.ensures c.if-have-regions.false

pub overflow_cast-commits : goal.overflow_cast-commits
overflow_cast-commits c =
    let told : c.count_committed-commits.result ≡ count_by is_committed c.in_ok-outcomes.outcomes.items =
    c.count_committed-commits.ensures ∙ ap (λ (os : List Outcome). count_by is_committed os) c.as_slice.ensures.value in
    let fits : count_by is_committed c.in_ok-outcomes.outcomes.items < 2 ^ 32 =
    read-fits is_committed c.args.self.now c.args.number c.next_epoch-epoch.result c.len-regions.result c.index_mut.result.now c.in_ok-outcomes.outcomes.items
    c.requires.stands c.requires.region c.index_mut.ensures.value
    (read-ready c.args.self.now c.args.number c.next_epoch-epoch.result c.count_next-have.result c.len-regions.result c.index-region.result.now c.index_mut.result.now
    c.requires.stands c.requires.region c.index-region.ensures c.index_mut.ensures.value c.next_epoch-epoch.ensures c.count_next-have.ensures
    c.len-regions.ensures c.if-have-regions.false)
    c.in_ok-outcomes.ensures.verdicts in
    omega arith

pub overflow_cast-aborts : goal.overflow_cast-aborts
overflow_cast-aborts c =
    let told : c.count_aborted-aborts.result ≡ count_by (λ o. not (is_committed o)) c.in_ok-outcomes.outcomes.items =
    c.count_aborted-aborts.ensures ∙ ap (λ (os : List Outcome). count_by (λ o. not (is_committed o)) os) c.as_slice-2.ensures.value in
    let fits : count_by (λ o. not (is_committed o)) c.in_ok-outcomes.outcomes.items < 2 ^ 32 =
    read-fits (λ o. not (is_committed o)) c.args.self.now c.args.number c.next_epoch-epoch.result c.len-regions.result c.index_mut.result.now c.in_ok-outcomes.outcomes.items
    c.requires.stands c.requires.region c.index_mut.ensures.value
    (read-ready c.args.self.now c.args.number c.next_epoch-epoch.result c.count_next-have.result c.len-regions.result c.index-region.result.now c.index_mut.result.now
    c.requires.stands c.requires.region c.index-region.ensures c.index_mut.ensures.value c.next_epoch-epoch.ensures c.count_next-have.ensures
    c.len-regions.ensures c.if-have-regions.false)
    c.in_ok-outcomes.ensures.verdicts in
    omega arith

pub returns-then-have-regions-clause-step : goal.returns-then-have-regions-clause-step
returns-then-have-regions-clause-step c = λ w s. on_ok_weaker c.print_region_waits.result
    (region-waits-makes w c.args.self.now c.args.number c.next_epoch-epoch.result c.count_next-have.result c.len-regions.result
    c.index-region.result.now _ _ s c.requires.region (region-stands w c.args.self.now c.args.number c.index-region.result.now s c.requires.region c.index-region.ensures)
    c.next_epoch-epoch.ensures c.count_next-have.ensures c.len-regions.ensures c.if-have-regions.true)
    c.print_region_waits.ensures

pub returns-clause-step : goal.returns-clause-step
returns-clause-step c = λ w s.
    let k = c.args.self.now in
    let r = c.index-region.result.now in
    let same : c.index_mut.result.now ≡ r = read-same k c.args.number c.index_mut.result.now r c.requires.region c.index_mut.ensures.value c.index-region.ensures in
    let told : (epochs : Epochs) → IsMergeOf epochs r.plain →
    c.in_ok-outcomes.outcomes.items ≡ verdicts (candidates_of (next_batches r c.len-regions.result c.args.number c.next_epoch-epoch.result) ∷ epochs) =
    subst (λ (x : Region). (epochs : Epochs) → IsMergeOf epochs x.plain →
    c.in_ok-outcomes.outcomes.items ≡ verdicts (candidates_of (next_batches x c.len-regions.result c.args.number c.next_epoch-epoch.result) ∷ epochs)) same c.in_ok-outcomes.ensures.verdicts in
    let published : (epochs : Epochs) → IsMergeOf epochs r.plain →
    Publishes c.len-regions.result c.args.number (candidates_of (next_batches r c.len-regions.result c.args.number c.next_epoch-epoch.result) ∷ epochs) c.next_epoch-epoch.result r c.publish.new.self =
    subst (λ (x : Region). (epochs : Epochs) → IsMergeOf epochs x.plain →
    Publishes c.len-regions.result c.args.number (candidates_of (next_batches x c.len-regions.result c.args.number c.next_epoch-epoch.result) ∷ epochs) c.next_epoch-epoch.result x c.publish.new.self) same
    c.in_ok-outcomes.ensures.published in
    let within : c.args.number < length k.regions.items = subst (λ (n : ℕ). c.args.number < n) k.regions.ok.0 c.requires.region in
    let committed : c.count_committed-commits.result ≡ count_by is_committed c.in_ok-outcomes.outcomes.items =
    c.count_committed-commits.ensures ∙ ap (λ (os : List Outcome). count_by is_committed os) c.as_slice.ensures.value in
    let aborted : c.count_aborted-aborts.result ≡ count_by (λ o. not (is_committed o)) c.in_ok-outcomes.outcomes.items =
    c.count_aborted-aborts.ensures ∙ ap (λ (os : List Outcome). count_by (λ o. not (is_committed o)) os) c.as_slice-2.ensures.value in
    on_ok_weaker c.print_epoch_published.result
    (published-makes w k _ c.args.number c.next_epoch-epoch.result c.count_next-have.result c.len-regions.result c.count_committed-commits.result c.count_aborted-aborts.result
    c.in_ok-outcomes.outcomes.items r c.publish.new.self _ _ s c.requires.region (region-read k c.args.number r c.requires.region c.index-region.ensures)
    c.next_epoch-epoch.ensures c.count_next-have.ensures c.len-regions.ensures c.if-have-regions.false told published
    (record { schema = refl; last = refl; regions = refl; within = within }) refl committed aborted)
    c.print_epoch_published.ensures
