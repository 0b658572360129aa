-- Laws: what is kept stays a history of the journal, whatever epochs are applied and wherever the horizon is moved.
use Rattle.std.proofs.Common.{◌≡◌, ℕ, suc, ◌+◌, ◌<◌, ◌≤◌, List, [], refl, sym, ap, ◌∙◌, subst, arith}
use Rattle.geo_base.specs.declared.row_id.RowId.{RowId}
use Rattle.geo_base.specs.declared.outcome.Outcome.{Outcome}
use Rattle.write_set.specs.declared.batch.Batch.{Batch}
use Rattle.write_set.specs.Journal.{Journal, Placed, Epochs, Extends, batches_at, candidates_of, epochs_of, last_sealed}
use Rattle.write_set.specs.Merge.{committed, committed_among, last_change}
use Rattle.write_set.specs.Snapshot.{snap_at}
use Rattle.write_set.specs.laws.Committing.{verdicts_commit}
use Rattle.write_set.specs.laws.Placing.{length_epochs}
use Rattle.write_set.specs.laws.Sealing.{epochs_stay, sealed_grows}
use Rattle.version_store.specs.Chains.{image_at, change_at, newest_epoch, grown, kept_at}
use Rattle.version_store.specs.History.{Kept, chain_of, versions_of, IsHistoryOf, AreNextOf, IsApplied, IsTrimmed, TellsChange}
use Rattle.version_store.specs.laws.Trimming.{answers_from, kept_again, newest_after, newest_upto, grown_kept, retold, told_from}
use Rattle.version_store.specs.laws.Answering.{newest_is_last, versions_answer, versions_tell}

-- ---- what is answered

pub images : (journal : Journal) (kept : Kept) (row : RowId) (epoch : ℕ) → IsHistoryOf journal kept →
    kept.horizon ≤ epoch → epoch ≤ kept.applied → image_at (chain_of kept row) epoch ≡ snap_at (epochs_of journal epoch) row
images journal kept row epoch history from upto =
    ap (λ chain. image_at chain epoch) (history.chains row)
    ∙ answers_from kept.horizon (versions_of (epochs_of journal kept.applied) row) epoch from
    ∙ versions_answer journal kept.applied row epoch upto

pub change_after : (journal : Journal) (kept : Kept) (row : RowId) → IsHistoryOf journal kept →
    kept.horizon < last_change (epochs_of journal kept.applied) row →
    newest_epoch (chain_of kept row) ≡ last_change (epochs_of journal kept.applied) row
change_after journal kept row history later =
    let last = newest_is_last (epochs_of journal kept.applied) row in
    ap newest_epoch (history.chains row)
    ∙ newest_after kept.horizon (versions_of (epochs_of journal kept.applied) row) (omega (arith, later, last))
    ∙ last

pub change_upto : (journal : Journal) (kept : Kept) (row : RowId) → IsHistoryOf journal kept →
    last_change (epochs_of journal kept.applied) row ≤ kept.horizon → newest_epoch (chain_of kept row) ≤ kept.horizon
change_upto journal kept row history earlier =
    let last = newest_is_last (epochs_of journal kept.applied) row in
    let left = newest_upto kept.horizon (versions_of (epochs_of journal kept.applied) row) (omega (arith, earlier, last)) in
    omega (arith, left, ap newest_epoch (history.chains row))

pub change_told : (journal : Journal) (kept : Kept) (row : RowId) (epoch : ℕ) → IsHistoryOf journal kept →
    kept.horizon ≤ epoch → epoch ≤ kept.applied → TellsChange kept.horizon (last_change (epochs_of journal epoch) row) (change_at (chain_of kept row) epoch)
change_told journal kept row epoch history from upto =
    retold kept.horizon _ _ _ _ (sym (versions_tell journal kept.applied row epoch upto)) (ap (λ chain. change_at chain epoch) (history.chains row))
    (told_from kept.horizon (versions_of (epochs_of journal kept.applied) row) epoch from)

-- ---- what is kept after each change

pub begins : (journal : Journal) → IsHistoryOf journal (record { horizon = 0; applied = 0; rows = [] })
begins journal = record { sealed = omega arith; horizon = omega arith; chains = λ row. refl }

pub applied : (journal : Journal) (old new : Kept) → IsHistoryOf journal old → old.applied < last_sealed journal →
    IsApplied (committed (epochs_of journal (suc old.applied))) old new → IsHistoryOf journal new
applied journal old new history sealed step = record {
  sealed = omega (arith, sealed, step.applied);
  horizon = omega (arith, history.horizon, step.applied, step.horizon);
  chains = λ row.
      step.chains row
      ∙ ap (grown (old.applied + 1) now row) (history.chains row)
      ∙ grown_kept old.horizon (old.applied + 1) now row (versions_of older row) (omega (arith, history.horizon))
      ∙ ap (λ epoch. kept_at old.horizon (grown (epoch + 1) now row (versions_of older row))) (sym (length_epochs journal old.applied))
      ∙ ap (λ horizon. kept_at horizon (versions_of (epochs_of journal (suc old.applied)) row)) (sym step.horizon)
      ∙ ap (λ epoch. kept_at new.horizon (versions_of (epochs_of journal epoch) row)) (sym next);
}
  where
    next : new.applied ≡ suc old.applied
    next = omega (arith, step.applied)

    older : Epochs
    older = epochs_of journal old.applied

    now : List Placed
    now = committed (epochs_of journal (suc old.applied))

-- the same of batches and outcomes
pub applied_next : (journal : Journal) (old new : Kept) (batches : List Batch) (outcomes : List Outcome) → IsHistoryOf journal old → AreNextOf journal old batches outcomes →
    IsApplied (committed_among (candidates_of batches) outcomes) old new → IsHistoryOf journal new
applied_next journal old new batches outcomes history next step =
    applied journal old new history next.sealed
    (subst (λ cs. IsApplied cs old new)
    ((λ i. committed_among (candidates_of (next.whole i)) (next.judged i)) ∙ verdicts_commit (candidates_of (batches_at journal old.applied)) (epochs_of journal old.applied))
    step)

pub trimmed : (journal : Journal) (horizon : ℕ) (old new : Kept) → IsHistoryOf journal old → old.horizon ≤ horizon → horizon ≤ old.applied →
    IsTrimmed horizon old new → IsHistoryOf journal new
trimmed journal horizon old new history from upto step = record {
  sealed = omega (arith, history.sealed, step.applied);
  horizon = omega (arith, upto, step.applied, step.horizon);
  chains = λ row.
      step.chains row
      ∙ ap (kept_at horizon) (history.chains row)
      ∙ kept_again old.horizon horizon (versions_of (epochs_of journal old.applied) row) from
      ∙ ap (λ h. kept_at h (versions_of (epochs_of journal old.applied) row)) (sym step.horizon)
      ∙ ap (λ epoch. kept_at new.horizon (versions_of (epochs_of journal epoch) row)) (sym step.applied);
}

-- what is kept stays a history when regions seal more
pub stays : (older newer : Journal) (kept : Kept) → Extends older newer → IsHistoryOf older kept → IsHistoryOf newer kept
stays older newer kept extends history = record {
  sealed = omega (arith, history.sealed, sealed_grows older newer extends);
  horizon = history.horizon;
  chains = λ row.
      history.chains row
      ∙ ap (λ epochs. kept_at kept.horizon (versions_of epochs row)) (sym (epochs_stay older newer kept.applied extends history.sealed));
}
