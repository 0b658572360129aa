-- Laws: a snapshot's rows are the journal's, those of one epoch are the same whenever it is taken, and its index has what it reads.
use Rattle.std.proofs.Common.{◌≡◌, ℕ, ◌+◌, ◌<◌, List, sym, ap, ◌∙◌, subst, arith}
use Rattle.geo_base.specs.declared.row_id.RowId.{RowId}
use Rattle.geo_schema.specs.Schemas.{Tables}
use Rattle.index_store.specs.declared.pair.IndexPair.{IndexPair}
use Rattle.index_store.specs.Indexes.{IsIndexOf}
use Rattle.index_store.specs.Pairs.{row_of, IsPairIn}
use Rattle.version_store.specs.Chains.{image_at, change_at, newest_epoch}
use Rattle.version_store.specs.History.{Kept, IsApplied, IsHistoryOf, IsKept, IsTrimmed, TellsChange, chain_of}
use Rattle.version_store.specs.laws.Growing.{change_told}
use Rattle.version_store.specs.laws.Keeping.{earlier_stay, falls_of, later_stay, newest_is_told, version_is_read, whole_of}
use Rattle.version_store.specs.laws.Listing.{listed_is_read, listed_rises, same_tables, table_is_snapshot}
use Rattle.write_set.specs.Journal.{Journal, Placed, Extends, epochs_of}
use Rattle.write_set.specs.laws.Sealing.{epochs_stay, sealed_grows}
use Rattle.write_set.specs.laws.Tables.{image_snap}
use Rattle.write_set.specs.Merge.{last_change}
use Rattle.write_set.specs.Overlay.{image_in}
use Rattle.write_set.specs.Sets.{Rises}
use Rattle.write_set.specs.Snapshot.{snap_at, snap_rows}
use Rattle.snap_view.specs.Snapshots.{Held, HoldsIndexes, IsSnapshot, IsSnapshotOf, images_of, last_held, rows_of}

-- ---- journals

pub of_journal : (journal : Journal) (held : Held) → IsHistoryOf journal held.versions → IsSnapshot held → IsSnapshotOf journal held
of_journal journal held history is = record {
  sealed = omega (arith, is.upto, history.sealed);
  rows = table_is_snapshot journal held.versions held.epoch is.order history is.from is.upto;
}

pub is_read : (journal : Journal) (held : Held) (row : RowId) → IsSnapshotOf journal held → image_in (rows_of held) row ≡ snap_at (epochs_of journal held.epoch) row
is_read journal held row is = ap (λ rows. image_in rows row) is.rows ∙ image_snap (epochs_of journal held.epoch) row

pub rows_rise : (held : Held) → IsSnapshot held → Rises (rows_of held)
rows_rise held is = listed_rises held.epoch held.versions.rows is.order.rising

pub stays : (older newer : Journal) (held : Held) → Extends older newer → IsSnapshotOf older held → IsSnapshotOf newer held
stays older newer held extends is = record {
  sealed = omega (arith, is.sealed, sealed_grows older newer extends);
  rows = is.rows ∙ ap snap_rows (sym (epochs_stay older newer held.epoch extends is.sealed));
}

-- ---- one epoch

-- where the images that are read are the same, so are the rows
same_rows : (earlier later : Held) → IsSnapshot earlier → IsSnapshot later → earlier.epoch ≡ later.epoch →
    ((row : RowId) → image_at (chain_of later.versions row) earlier.epoch ≡ image_at (chain_of earlier.versions row) earlier.epoch) → rows_of earlier ≡ rows_of later
same_rows earlier later is also epoch read =
    same_tables (rows_of earlier) (rows_of later) (rows_rise earlier is) (rows_rise later also)
    (λ row.
    listed_is_read earlier.epoch earlier.versions.rows row is.order.rising
    ∙ (sym (read row)
    ∙ (ap (image_at (chain_of later.versions row)) epoch
    ∙ sym (listed_is_read later.epoch later.versions.rows row also.order.rising))))

pub same_applied : (committed : List Placed) (earlier later : Held) → IsSnapshot earlier → IsSnapshot later → earlier.epoch ≡ later.epoch →
    IsApplied committed earlier.versions later.versions → rows_of earlier ≡ rows_of later
same_applied committed earlier later is also epoch step =
    same_rows earlier later is also epoch (λ row. earlier_stay committed earlier.versions later.versions row step earlier.epoch is.upto)

pub same_trimmed : (horizon : ℕ) (earlier later : Held) → IsSnapshot earlier → IsSnapshot later → earlier.epoch ≡ later.epoch →
    IsTrimmed horizon earlier.versions later.versions → rows_of earlier ≡ rows_of later
same_trimmed horizon earlier later is also epoch step =
    same_rows earlier later is also epoch
    (λ row. later_stay horizon earlier.versions later.versions row earlier.epoch step (omega (arith, step.horizon, also.from, epoch)))

-- so are those of one journal, however they came to be
pub same_of_journal : (journal : Journal) (one other : Held) → IsSnapshotOf journal one → IsSnapshotOf journal other → one.epoch ≡ other.epoch → rows_of one ≡ rows_of other
same_of_journal journal one other one_is other_is epoch = one_is.rows ∙ (ap (λ e. snap_rows (epochs_of journal e)) epoch ∙ sym other_is.rows)

-- ---- last changes

pub tells_change : (journal : Journal) (held : Held) (row : RowId) → IsHistoryOf journal held.versions → IsSnapshot held →
    TellsChange held.versions.horizon (last_change (epochs_of journal held.epoch) row) (last_held held row)
tells_change journal held row history is = change_told journal held.versions row held.epoch history is.from is.upto

pub tells_newest : (held : Held) (row : RowId) → IsSnapshot held → held.epoch ≡ held.versions.applied → last_held held row ≡ newest_epoch (chain_of held.versions row)
tells_newest held row is last = ap (change_at (chain_of held.versions row)) last ∙ newest_is_told held.versions row is.order

-- ---- indexes

pub holds_indexes : (tables : Tables) (kept : Kept) (pairs : List IndexPair) (epoch : ℕ) → IsKept kept → IsIndexOf tables (images_of kept) pairs →
    HoldsIndexes tables (record { versions = kept; pairs = pairs; epoch = epoch })
holds_indexes tables kept pairs epoch lawful all pair version among had =
    let before : kept.horizon < kept.applied + 1 = omega (arith, lawful.within) in
    let (at, from, upto, read) = version_is_read kept.horizon (kept.applied + 1) (chain_of kept (row_of pair)) version before (falls_of kept lawful (row_of pair)) (whole_of kept lawful (row_of pair)) among in
    all.each pair at (record { from = from; upto = omega (arith, upto) }) (subst (IsPairIn tables pair) (sym read) had)
