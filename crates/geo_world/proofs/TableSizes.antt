-- A snapshot has no more rows than the journal's candidates have, changed or touched.
use Rattle.std.proofs.Common.{◌≡◌, ℕ, zero, suc, ◌+◌, ◌≤◌, Bool, true, false, not, Option, None, Some, List, [], ◌∷◌, length, sum_by, refl, sym, ap, ◌∙◌, arith, le_trans}
use Rattle.std.specs.List.{filter, cons_option, slice_get}
use Rattle.std.specs.Map.{remove_entry}
use Rattle.std.specs.BTreeMap.{insert_entry, is_at}
use Rattle.std.specs.Ordering.{match_ordering}
use Rattle.std.specs.declared.cmp.Ordering.{Ordering}
use Rattle.std.specs.declared.cmp.Ordering.TheVariants.{Less, Equal, Greater}
use Rattle.std.proofs.lemmas.List.Sums.{sum_by-cons, sum_by-append}
use Rattle.std.proofs.lemmas.List.Filters.{sum_by-filter_both}
use Rattle.std.proofs.lemmas.List.Concat.{length-flat_map}
use Rattle.geo_base.specs.declared.row_id.RowId.{RowId}
use Rattle.geo_base.specs.declared.row_image.RowImage.{RowImage}
use Rattle.geo_base.specs.Order.{row_cmp}
use Rattle.write_set.specs.declared.batch.Batch.{Batch}
use Rattle.write_set.specs.declared.candidate.Candidate.{Candidate}
use Rattle.write_set.specs.declared.change.Change.TheVariants.{Put, Remove, Touch}
use Rattle.write_set.specs.Sets.{ChangeOfRow}
use Rattle.write_set.specs.Journal.{Journal, Placed, Epochs, placed_from, candidates_of, batches_at, epochs_of}
use Rattle.write_set.specs.Merge.{committed, last_change, verdict_of, is_committed}
use Rattle.write_set.specs.Overlay.{Table, changed, overlay}
use Rattle.write_set.specs.Snapshot.{changes_of, snap_rows}

-- ---- rows

put-length_at : (o : Ordering) (row : RowId) (image : RowImage) (x : RowId × RowImage) (rows : Table) →
    length (insert_entry row_cmp rows row image) ≤ length rows + 1 →
    length (match_ordering o ((row, image) ∷ x ∷ rows) ((x.0, image) ∷ rows) (x ∷ insert_entry row_cmp rows row image)) ≤ length (x ∷ rows) + 1
put-length_at Less row image x rows more = omega arith
put-length_at Equal row image x rows more = omega arith
put-length_at Greater row image x rows more = omega arith

put-length : (row : RowId) (image : RowImage) (rows : Table) → length (insert_entry row_cmp rows row image) ≤ length rows + 1
put-length row image [] = omega arith
put-length row image (x ∷ rows) = put-length_at (row_cmp row x.0) row image x rows (put-length row image rows)

removed-length_at : (b : Bool) (test : RowId → Bool) (x : RowId × RowImage) (rows : Table) → test x.0 ≡ b →
    length (remove_entry test rows) ≤ length rows → length (remove_entry test (x ∷ rows)) ≤ length (x ∷ rows)
removed-length_at true test x rows e less = rw e (omega arith)
removed-length_at false test x rows e less = rw e (omega arith)

removed-length : (test : RowId → Bool) (rows : Table) → length (remove_entry test rows) ≤ length rows
removed-length test [] = omega arith
removed-length test (x ∷ rows) = removed-length_at (test x.0) test x rows refl (removed-length test rows)

changed-length : (p : ChangeOfRow) (rows : Table) → length (changed p rows) ≤ length rows + 1
changed-length (row, Put image) rows = put-length row image rows
changed-length (row, Remove) rows = omega (arith, removed-length (is_at (row_cmp row)) rows)
changed-length (row, Touch) rows = omega arith

overlay-length : (rows : Table) (ps : List ChangeOfRow) → length (overlay rows ps) ≤ length rows + length ps
overlay-length rows [] = omega arith
overlay-length rows (p ∷ ps) = omega (arith, overlay-length (changed p rows) ps, changed-length p rows)

-- ---- epochs

-- how many rows the candidates have, changed or touched
abbrev placed_rows : List Placed → ℕ
placed_rows cs = sum_by (λ c. length c.set) cs

abbrev epochs_rows : Epochs → ℕ
epochs_rows epochs = sum_by placed_rows epochs

part-of : (a b c : ℕ) → a + b ≡ c → a ≤ c
part-of a b c e = omega arith

filtered-rows : (test : Placed → Bool) (cs : List Placed) → placed_rows (filter test cs) ≤ placed_rows cs
filtered-rows test cs =
    part-of (placed_rows (filter test cs)) (placed_rows (filter (λ c. not (test c)) cs)) (placed_rows cs)
    (sum_by-filter_both test (λ c. not (test c)) (λ c. refl) (λ (c : Placed). length c.set) cs)

committed-rows : (all : List Placed) (older : Epochs) → placed_rows (committed (all ∷ older)) ≤ placed_rows all
committed-rows all older = filtered-rows (λ c. is_committed (verdict_of (last_change older) (length older + 1) all c)) all

one_epoch : (rows older made changes all before whole : ℕ) → rows ≤ older + made → made ≡ changes → changes ≤ all → older ≤ before →
    whole ≡ all + before → rows ≤ whole
one_epoch rows older made changes all before whole a b c d e = omega arith

pub rows-le : (epochs : Epochs) → length (snap_rows epochs) ≤ epochs_rows epochs
rows-le [] = omega arith
rows-le (all ∷ older) =
    one_epoch (length (snap_rows (all ∷ older))) (length (snap_rows older)) (length (changes_of (committed (all ∷ older))))
    (placed_rows (committed (all ∷ older))) (placed_rows all) (epochs_rows older) (epochs_rows (all ∷ older))
    (overlay-length (snap_rows older) (changes_of (committed (all ∷ older))))
    (length-flat_map (λ (c : Placed). c.set) (committed (all ∷ older)))
    (committed-rows all older) (rows-le older) (sum_by-cons placed_rows all older)

-- ---- journals

-- how many rows the candidates of the batch have
abbrev pub batch_rows : Batch → ℕ
batch_rows b = sum_by (λ c. length c.set) b.items

abbrev pub log_rows : List Batch → ℕ
log_rows log = sum_by batch_rows log

-- of the batch at a place, if there is one
abbrev rows_at : Option Batch → ℕ
rows_at None = 0
rows_at (Some b) = batch_rows b

-- of the batches below a place
abbrev rows_below : List Batch → ℕ → ℕ
rows_below log zero = 0
rows_below log (suc e) = rows_at (slice_get log e) + rows_below log e

placed_from-rows : (region csn : ℕ) (cs : List Candidate) → placed_rows (placed_from region csn cs) ≡ sum_by (λ c. length c.set) cs
placed_from-rows region csn [] = refl
placed_from-rows region csn (c ∷ cs) =
    sum_by-cons (λ (d : Placed). length d.set) (record { region = region; csn = csn; start = c.start; set = c.set }) (placed_from region (csn + 1) cs)
    ∙ (ap (λ (n : ℕ). length c.set + n) (placed_from-rows region (csn + 1) cs)
    ∙ sym (sum_by-cons (λ (d : Candidate). length d.set) c cs))

candidates_of-rows : (bs : List Batch) → placed_rows (candidates_of bs) ≡ log_rows bs
candidates_of-rows [] = refl
candidates_of-rows (b ∷ bs) =
    sum_by-append (λ (c : Placed). length c.set) (placed_from b.region 0 b.items) (candidates_of bs)
    ∙ (ap (λ (n : ℕ). n + placed_rows (candidates_of bs)) (placed_from-rows b.region 0 b.items)
    ∙ (ap (λ (n : ℕ). batch_rows b + n) (candidates_of-rows bs)
    ∙ sym (sum_by-cons batch_rows b bs)))

cons_option-rows : (o : Option Batch) (bs : List Batch) → log_rows (cons_option o bs) ≡ rows_at o + log_rows bs
cons_option-rows None bs = omega arith
cons_option-rows (Some b) bs = sum_by-cons batch_rows b bs

batches_at-rows : (log : List Batch) (logs : Journal) (place : ℕ) →
    placed_rows (candidates_of (batches_at (log ∷ logs) place)) ≡ rows_at (slice_get log place) + placed_rows (candidates_of (batches_at logs place))
batches_at-rows log logs place =
    candidates_of-rows (batches_at (log ∷ logs) place)
    ∙ (cons_option-rows (slice_get log place) (batches_at logs place)
    ∙ ap (λ (n : ℕ). rows_at (slice_get log place) + n) (sym (candidates_of-rows (batches_at logs place))))

none_more : (n : ℕ) → n ≡ 0 → 0 + n ≡ 0
none_more n e = omega arith

no-rows : (e : ℕ) → epochs_rows (epochs_of [] e) ≡ 0
no-rows zero = refl
no-rows (suc e) = sum_by-cons placed_rows [] (epochs_of [] e) ∙ none_more (epochs_rows (epochs_of [] e)) (no-rows e)

joined : (now before own others own_before others_before whole rest : ℕ) → whole ≡ now + before → rest ≡ others + others_before →
    now ≡ own + others → before ≡ own_before + others_before → whole ≡ (own + own_before) + rest
joined now before own others own_before others_before whole rest a b c d = omega arith

log-apart : (log : List Batch) (logs : Journal) (e : ℕ) → epochs_rows (epochs_of (log ∷ logs) e) ≡ rows_below log e + epochs_rows (epochs_of logs e)
log-apart log logs zero = refl
log-apart log logs (suc e) =
    joined (placed_rows (candidates_of (batches_at (log ∷ logs) e))) (epochs_rows (epochs_of (log ∷ logs) e))
    (rows_at (slice_get log e)) (placed_rows (candidates_of (batches_at logs e))) (rows_below log e) (epochs_rows (epochs_of logs e))
    (epochs_rows (epochs_of (log ∷ logs) (suc e))) (epochs_rows (epochs_of logs (suc e)))
    (sum_by-cons placed_rows (candidates_of (batches_at (log ∷ logs) e)) (epochs_of (log ∷ logs) e))
    (sum_by-cons placed_rows (candidates_of (batches_at logs e)) (epochs_of logs e))
    (batches_at-rows log logs e) (log-apart log logs e)

swapped : (a b c d : ℕ) → d ≡ b + c → a + d ≡ b + (a + c)
swapped a b c d e = omega arith

below-first : (b : Batch) (bs : List Batch) (e : ℕ) → rows_below (b ∷ bs) (suc e) ≡ batch_rows b + rows_below bs e
below-first b bs zero = refl
below-first b bs (suc e) = swapped (rows_at (slice_get bs e)) (batch_rows b) (rows_below bs e) (rows_below (b ∷ bs) (suc e)) (below-first b bs e)

more_below : (a b c d n : ℕ) → d ≡ a + b → b ≤ c → n ≡ a + c → d ≤ n
more_below a b c d n e h k = omega arith

none_yet : (n : ℕ) → n ≤ 0 → 0 + n ≤ 0
none_yet n h = omega arith

below-le : (log : List Batch) (e : ℕ) → rows_below log e ≤ log_rows log
below-le log zero = omega arith
below-le [] (suc e) = none_yet (rows_below [] e) (below-le [] e)
below-le (b ∷ bs) (suc e) =
    more_below (batch_rows b) (rows_below bs e) (log_rows bs) (rows_below (b ∷ bs) (suc e)) (log_rows (b ∷ bs))
    (below-first b bs e) (below-le bs e) (sum_by-cons batch_rows b bs)

both_below : (a b c d n m : ℕ) → n ≡ a + b → a ≤ c → b ≤ d → m ≡ c + d → n ≤ m
both_below a b c d n m e h k l = omega arith

none_below : (n m : ℕ) → n ≡ 0 → n ≤ m
none_below n m e = omega arith

epochs-le : (journal : Journal) (e : ℕ) → epochs_rows (epochs_of journal e) ≤ sum_by log_rows journal
epochs-le [] e = none_below (epochs_rows (epochs_of [] e)) 0 (no-rows e)
epochs-le (log ∷ logs) e =
    both_below (rows_below log e) (epochs_rows (epochs_of logs e)) (log_rows log) (sum_by log_rows logs) (epochs_rows (epochs_of (log ∷ logs) e))
    (sum_by log_rows (log ∷ logs)) (log-apart log logs e) (below-le log e) (epochs-le logs e) (sum_by-cons log_rows log logs)

-- the snapshot of any epoch has no more rows than the journal's candidates have
pub snapshot-rows : (journal : Journal) (e : ℕ) → length (snap_rows (epochs_of journal e)) ≤ sum_by log_rows journal
snapshot-rows journal e = le_trans (rows-le (epochs_of journal e)) (epochs-le journal e)
