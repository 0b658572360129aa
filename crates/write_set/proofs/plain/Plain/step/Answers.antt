use Rattle.std.proofs.Common.{◌≡◌, ◌+◌, map, sym, ap, subst, ◌∙◌, arith}
use Rattle.write_set.specs.Journal.{candidates_of}
use Rattle.write_set.specs.Overlay.{overlay}
use Rattle.write_set.specs.inner.Entrants.{placed, fresh_of, outcome_of, writes_of}
use Rattle.write_set.specs.Plain.{Merged, IsMergeOf, last_in}
use Rattle.write_set.specs.inner.LastChanges.{noted, rows_altered}
use Rattle.write_set.proofs.Merging.{few_candidates, verdicts_are, merged}
use Rattle.write_set.proofs.plain.Plain.step.Goals as goal

pub entrants-requires : goal.entrants-requires
entrants-requires c = few_candidates 0 (c.args.self.now.epoch + 1) c.args.batches.now c.requires.lawful

pub epoch_of-epoch-requires : goal.epoch_of-epoch-requires
epoch_of-epoch-requires c =
    let same = ap (λ (m : Merged). m.regions) c.self.view_is in
    omega (arith, c.self.invariant.0, same, c.requires.count)

pub returns-clause-verdicts : goal.returns-clause-verdicts
returns-clause-verdicts c epochs merge =
    let old : Merged = record { regions = c.self.inside.regions; epoch = c.self.inside.epoch; rows = c.self.inside.rows.items; changes = c.self.inside.changes.items } in
    let before : IsMergeOf epochs old = subst (IsMergeOf epochs) (sym c.self.view_is) merge in
    let number : c.epoch_of-epoch.result ≡ old.epoch + 1 = c.epoch_of-epoch.ensures 0 (c.args.self.now.epoch + 1) c.requires.lawful ∙ ap (λ (m : Merged). m.epoch + 1) (sym c.self.view_is) in
    let all = candidates_of c.args.batches.now in
    let fresh = c.in_ok-fresh.fresh.items in
    let entered : map placed c.as_slice.result.now ≡ all = ap (map placed) c.as_slice.ensures.value ∙ c.in_ok-all.ensures in
    let entered_again : map placed c.as_slice-3.result.now ≡ all = ap (map placed) c.as_slice-3.ensures.value ∙ c.in_ok-all.ensures in
    let fresh_is : map placed fresh ≡ fresh_of (last_in old.changes) all = c.in_ok-fresh.ensures ∙ (λ i. fresh_of (last_in (c.as_slice-changes.ensures.value i)) (entered i)) in
    c.in_ok-judged.ensures.outcomes
    ∙ (λ i. map (outcome_of (last_in (c.as_slice-changes.ensures.value i)) (number i) (c.as_slice-2.ensures.value i)) (entered_again i))
    ∙ verdicts_are epochs old before all fresh fresh_is

pub returns-clause-merged : goal.returns-clause-merged
returns-clause-merged c epochs merge =
    let old : Merged = record { regions = c.self.inside.regions; epoch = c.self.inside.epoch; rows = c.self.inside.rows.items; changes = c.self.inside.changes.items } in
    let new : Merged = record { regions = c.self.inside.regions; epoch = c.epoch_of-epoch.result; rows = c.make_changes.new.rows.items; changes = c.note_changes.new.changes.items } in
    let before : IsMergeOf epochs old = subst (IsMergeOf epochs) (sym c.self.view_is) merge in
    let number : c.epoch_of-epoch.result ≡ old.epoch + 1 = c.epoch_of-epoch.ensures 0 (c.args.self.now.epoch + 1) c.requires.lawful ∙ ap (λ (m : Merged). m.epoch + 1) (sym c.self.view_is) in
    let all = candidates_of c.args.batches.now in
    let fresh = c.in_ok-fresh.fresh.items in
    let writes = c.in_ok-judged.judged.writes.items in
    let entered : map placed c.as_slice.result.now ≡ all = ap (map placed) c.as_slice.ensures.value ∙ c.in_ok-all.ensures in
    let entered_again : map placed c.as_slice-3.result.now ≡ all = ap (map placed) c.as_slice-3.ensures.value ∙ c.in_ok-all.ensures in
    let fresh_is : map placed fresh ≡ fresh_of (last_in old.changes) all = c.in_ok-fresh.ensures ∙ (λ i. fresh_of (last_in (c.as_slice-changes.ensures.value i)) (entered i)) in
    let writes_is : writes ≡ writes_of (outcome_of (last_in old.changes) (old.epoch + 1) fresh) all =
    c.in_ok-judged.ensures.writes
    ∙ (λ i. writes_of (outcome_of (last_in (c.as_slice-changes.ensures.value i)) (number i) (c.as_slice-2.ensures.value i)) (entered_again i)) in
    let rows : new.rows ≡ overlay old.rows writes = c.make_changes.ensures.items ∙ ap (λ l. overlay l writes) c.reserve.ensures.items in
    let rows_of_writes : c.in_ok-changed.changed.items ≡ rows_altered writes = c.in_ok-changed.ensures ∙ ap rows_altered c.as_slice-4.ensures.value in
    let changes : new.changes ≡ noted (old.epoch + 1) old.changes (rows_altered writes) = c.note_changes.ensures.items ∙ (λ i. noted (number i) (c.reserve-2.ensures.items i) (rows_of_writes i)) in
    merged epochs old before all fresh fresh_is new writes writes_is number rows changes
