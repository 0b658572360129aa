-- The merge of one more epoch: the program's words say what the definitions do.
use Rattle.std.proofs.Common.{◌≡◌, ℕ, ◌+◌, ◌≤◌, Bool, true, false, ◌&&◌, ◌||◌, not, Option, None, Some, List, [], ◌∷◌, length, map, if◌then◌else◌, All, refl, ap, ◌∙◌, arith}
use Rattle.std.specs.List.{filter, find, list_any}
use Rattle.std.specs.Map.{keys_of, lookup}
use Rattle.std.specs.BTreeMap.{insert_entry, is_at}
use Rattle.std.specs.Option.{option_map, unwrap_or}
use Rattle.std.proofs.lemmas.List.Elements.{All-cons}
use Rattle.std.proofs.lemmas.List.Folds.{list_any-append}
use Rattle.geo_base.specs.declared.limits.TheConstants.{MAX_CANDIDATES}
use Rattle.geo_base.specs.declared.outcome.Outcome.TheVariants.{Beaten}
use Rattle.geo_base.specs.declared.row_id.RowId.{RowId}
use Rattle.geo_base.specs.Order.{row_cmp, row_eq}
use Rattle.write_set.specs.declared.batch.Batch.{Batch}
use Rattle.write_set.specs.declared.entrant.Entrant.{Entrant}
use Rattle.write_set.specs.Sets.{ChangeOfRow, has_row, alters, changes_row}
use Rattle.write_set.specs.Journal.{Placed, Epochs, AreBatches}
use Rattle.write_set.specs.Merge.{wins, id_of, is_fresh, contenders, is_beaten_on, winner_of, first_changed, first_beaten, changed_or, beaten_or_committed, verdict_of, committed, last_change, verdicts}
use Rattle.write_set.specs.Overlay.{overlay}
use Rattle.write_set.specs.Snapshot.{changes_of}
use Rattle.write_set.specs.inner.Entrants.{placed, fresh_of, loses_row, keeper_of, first_lost, lost_or_committed, outcome_of, writes_of}
use Rattle.write_set.specs.laws.Lookups.{lookup_put}
use Rattle.write_set.specs.Plain.{Merged, IsMergeOf, last_in}
use Rattle.write_set.specs.inner.LastChanges.{noted, rows_altered}

-- ---- lists

filter_twice : {X : Type 0} (p q : X → Bool) (xs : List X) → filter q (filter p xs) ≡ filter (λ x. p x && q x) xs
filter_twice p q [] = refl
filter_twice p q (x ∷ xs) = grind (arith, filter_twice p q xs)

any_taking : (row : RowId) (c : Placed) (es : List Entrant) → loses_row es c row ≡ list_any (λ d. wins d c) (filter (λ d. has_row row d.set) (map placed es))
any_taking row c [] = refl
any_taking row c (e ∷ es) = grind (arith, any_taking row c es)

find_having : (test : Placed → Bool) (row : RowId) (es : List Entrant) → option_map placed (find (λ e. has_row row e.candidate.now.set && test (placed e)) es) ≡ find test (filter (λ d. has_row row d.set) (map placed es))
find_having test row [] = refl
find_having test row (e ∷ es) = grind (arith, find_having test row es)

-- batches that are lawful have few candidates
pub few_candidates : (region epoch : ℕ) (bs : List Batch) → AreBatches region epoch bs → All (λ b. length b.items ≤ MAX_CANDIDATES) bs
few_candidates region epoch [] lawful = λ k d within. absurd (omega arith)
few_candidates region epoch (b ∷ bs) lawful = All-cons (λ b. length b.items ≤ MAX_CANDIDATES) b bs lawful.0.few (few_candidates (region + 1) epoch bs lawful.1)

-- ---- verdicts over the fresh candidates

module _ (last : RowId → ℕ) (epoch : ℕ) (all : List Placed) (fresh : List Entrant) (fresh_is : map placed fresh ≡ fresh_of last all) where
  having_is : (row : RowId) → filter (λ d. has_row row d.set) (map placed fresh) ≡ contenders last all row
  having_is row = ap (filter (λ d. has_row row d.set)) fresh_is ∙ filter_twice (is_fresh last) (λ d. has_row row d.set) all

  loses_is : (c : Placed) (row : RowId) → loses_row fresh c row ≡ is_beaten_on last all c row
  loses_is c row = any_taking row c fresh ∙ ap (list_any (λ d. wins d c)) (having_is row)

  keeper_is : (row : RowId) → option_map placed (keeper_of fresh row) ≡ winner_of last all row
  keeper_is row = find_having (λ d. not (loses_row fresh d row)) row fresh ∙ (λ i. find (λ d. not (loses_is d row i)) (having_is row i))

  lost_is : (c : Placed) (p : Option ChangeOfRow) → lost_or_committed epoch fresh c p ≡ beaten_or_committed last epoch all c p
  lost_is c None = refl
  lost_is c (Some p) = ap (λ w. Beaten p.0 (id_of epoch (unwrap_or w c))) (keeper_is p.0)

  first_is : (c : Placed) → first_lost fresh c ≡ first_beaten last all c
  first_is c i = find (λ p. loses_is c p.0 i) c.set

  outcome_is : (c : Placed) → outcome_of last epoch fresh c ≡ verdict_of last epoch all c
  outcome_is c = ap (λ o. changed_or last o (first_changed last c)) (lost_is c (first_lost fresh c) ∙ ap (beaten_or_committed last epoch all c) (first_is c))

-- ---- the last changes, with an epoch at more rows

value_or : (b : Bool) (v : ℕ) (o : Option ℕ) → unwrap_or (if b then Some v else o) 0 ≡ (if b then v else unwrap_or o 0)
value_or true v o = refl
value_or false v o = refl

last_put : (q row : RowId) (v : ℕ) (l : List (RowId × ℕ)) → last_in (insert_entry row_cmp l row v) q ≡ (if row_eq q row then v else last_in l q)
last_put q row v l = ap (λ o. unwrap_or o 0) (lookup_put l row q v) ∙ value_or (row_eq q row) v (lookup (is_at (row_cmp q)) l)

put_twice : (a b : Bool) (v x : ℕ) → (if a then v else (if b then v else x)) ≡ (if b || a then v else x)
put_twice true true v x = refl
put_twice true false v x = refl
put_twice false true v x = refl
put_twice false false v x = refl

last_noted : (q : RowId) (epoch : ℕ) (l : List (RowId × ℕ)) (rows : List RowId) → last_in (noted epoch l rows) q ≡ (if list_any (row_eq q) rows then epoch else last_in l q)
last_noted q epoch l [] = refl
last_noted q epoch l (row ∷ rows) =
    last_noted q epoch (insert_entry row_cmp l row epoch) rows
    ∙ ap (λ x. if list_any (row_eq q) rows then epoch else x) (last_put q row epoch l)
    ∙ put_twice (list_any (row_eq q) rows) (row_eq q row) epoch (last_in l q)

any_altered : (q : RowId) (set : List ChangeOfRow) → list_any (row_eq q) (rows_altered set) ≡ changes_row q set
any_altered q [] = refl
any_altered q (p ∷ ps) = by (alters p.1) (row_eq q p.0) refl (any_altered q ps)
  where
    by : (a e : Bool) → row_eq q p.0 ≡ e → list_any (row_eq q) (rows_altered ps) ≡ changes_row q ps →
        list_any (row_eq q) (keys_of (if a then p ∷ filter (λ r. alters r.1) ps else filter (λ r. alters r.1) ps)) ≡ (row_eq q p.0 && a || changes_row q ps)
    by true e is rest = grind (arith, rest)
    by false e is rest = grind (arith, rest)

any_write : (q : RowId) (cs : List Placed) → changes_row q (changes_of cs) ≡ list_any (λ c. changes_row q c.set) cs
any_write q [] = refl
any_write q (c ∷ cs) =
    list_any-append (λ p. row_eq q p.0 && alters p.1) c.set (changes_of cs) ∙ ap (λ b. changes_row q c.set || b) (any_write q cs)

-- ---- one more epoch

module _ (epochs : Epochs) (old : Merged) (merge : IsMergeOf epochs old) (all : List Placed) (fresh : List Entrant) (fresh_is : map placed fresh ≡ fresh_of (last_in old.changes) all) where
  outcomes_are : outcome_of (last_in old.changes) (old.epoch + 1) fresh ≡ verdict_of (last_change epochs) (length epochs + 1) all
  outcomes_are =
      let judged : outcome_of (last_in old.changes) (old.epoch + 1) fresh ≡ verdict_of (last_in old.changes) (old.epoch + 1) all = λ i c. outcome_is (last_in old.changes) (old.epoch + 1) all fresh fresh_is c i in
      judged ∙ (λ i. verdict_of (λ row. merge.last row i) (merge.count i + 1) all)

  -- the outcomes are the verdicts of the newest epoch
  pub verdicts_are : map (outcome_of (last_in old.changes) (old.epoch + 1) fresh) all ≡ verdicts (all ∷ epochs)
  verdicts_are i = map (outcomes_are i) all

  writes_are : writes_of (outcome_of (last_in old.changes) (old.epoch + 1) fresh) all ≡ changes_of (committed (all ∷ epochs))
  writes_are i = writes_of (outcomes_are i) all

  module _ (new : Merged) (writes : List ChangeOfRow) (writes_is : writes ≡ writes_of (outcome_of (last_in old.changes) (old.epoch + 1) fresh) all) where
    newest_changes : new.changes ≡ noted (old.epoch + 1) old.changes (rows_altered writes) → (row : RowId) → last_in new.changes row ≡ last_change (all ∷ epochs) row
    newest_changes changes row =
        ap (λ l. last_in l row) changes
        ∙ last_noted row (old.epoch + 1) old.changes (rows_altered writes)
        ∙ ap (λ b. if b then old.epoch + 1 else last_in old.changes row) (any_altered row writes ∙ ap (changes_row row) (writes_is ∙ writes_are) ∙ any_write row (committed (all ∷ epochs)))
        ∙ (λ i. if list_any (λ c. changes_row row c.set) (committed (all ∷ epochs)) then merge.count i + 1 else merge.last row i)

    -- the writes laid over the rows, and their rows noted, are the merge of one epoch more
    pub merged : new.epoch ≡ old.epoch + 1 → new.rows ≡ overlay old.rows writes → new.changes ≡ noted (old.epoch + 1) old.changes (rows_altered writes) → IsMergeOf (all ∷ epochs) new
    merged epoch rows changes = record {
      count = omega (arith, epoch, merge.count);
      table = rows ∙ (λ i. overlay (merge.table i) ((writes_is ∙ writes_are) i));
      last = newest_changes changes;
    }
