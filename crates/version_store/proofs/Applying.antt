-- What applying an epoch makes of what is kept.
use Rattle.std.proofs.Common.{◌≡◌, ℕ, ◌+◌, ◌<◌, ◌≤◌, Bool, true, false, cond, ◌&&◌, ◌||◌, nat_eq, nat_lt, Option, None, Some, unwrap_or, List, [], ◌∷◌, ◌++◌, filter, refl, sym, ap, ◌∙◌, subst, arith}
use Rattle.std.specs.List.{list_any}
use Rattle.std.specs.Map.{keys_of}
use Rattle.std.proofs.lemmas.Bool.Decides.{nat_tests}
use Rattle.std.proofs.lemmas.List.Folds.{list_any-append}
use Rattle.std.proofs.lemmas.List.Elements.{All-nil, All-cons, All-weaker}
use Rattle.geo_base.specs.declared.row_id.RowId.{RowId}
use Rattle.geo_base.specs.declared.row_image.RowImage.{RowImage}
use Rattle.geo_base.specs.Order.{row_cmp, row_eq}
use Rattle.geo_base.specs.laws.Orders.{row_cmp_total}
use Rattle.write_set.specs.declared.change.Change.{Change}
use Rattle.write_set.specs.declared.change.Change.TheVariants.{Put, Remove, Touch}
use Rattle.write_set.specs.Sets.{ChangeOfRow, alters, changes_row}
use Rattle.write_set.specs.Journal.{Placed}
use Rattle.write_set.specs.Snapshot.{changes_of, image_left, image_after}
use Rattle.write_set.specs.inner.LastChanges.{rows_altered}
use Rattle.write_set.specs.laws.Rivals.{row_same}
use Rattle.page_map.specs.Pairs.{IsRising, found_at, put_in}
use Rattle.page_map.specs.laws.Orders.{rising_put}
use Rattle.version_store.specs.Chains.{Version, Chain, FallsBelow, newest_image, standing, kept_at}
use Rattle.version_store.specs.History.{Kept, chain_of, IsKeptChain, IsKept, IsApplied}
use Rattle.version_store.specs.inner.Writing.{Rows, chain_in, but_of, renewed, written, all_written}
use Rattle.version_store.specs.inner.Noting.{Note, is_noted, AreNoted, Notes}
use Rattle.version_store.specs.laws.Answering.{any_changes}
use Rattle.version_store.specs.laws.Keeping.{falls_of, whole_of}
use Rattle.version_store.proofs.Finding.{found_put}

-- ---- one row after one change

abbrev made : ℕ → Option RowImage → Version
made epoch image = record { epoch = epoch; image = image }

-- what is found of a row after a change of it
abbrev changed_chain : ℕ → Change → Option Chain → Option Chain
changed_chain epoch (Put image) held = Some (renewed (made epoch (Some image)) (unwrap_or held []))
changed_chain epoch Remove held = Some (renewed (made epoch None) (unwrap_or held []))
changed_chain epoch Touch held = held

put_written : (version : Version) (row at : RowId) (rows : Rows) →
    found_at row_cmp at (put_in row_cmp row (renewed version (chain_in rows row)) rows)
    ≡ cond (row_eq at row) (Some (renewed version (chain_in rows at))) (found_at row_cmp at rows)
put_written version row at rows = found_put row at (renewed version (chain_in rows row)) rows ∙ by (row_eq at row) refl
  where
    by : (b : Bool) → row_eq at row ≡ b → cond b (Some (renewed version (chain_in rows row))) (found_at row_cmp at rows)
        ≡ cond b (Some (renewed version (chain_in rows at))) (found_at row_cmp at rows)
    by true is = ap (λ r. Some (renewed version (chain_in rows r))) (sym (row_same at row is))
    by false is = refl

either_way : (b : Bool) (held : Option Chain) → held ≡ cond b held held
either_way true held = refl
either_way false held = refl

found_written : (epoch : ℕ) (p : ChangeOfRow) (rows : Rows) (at : RowId) →
    found_at row_cmp at (written epoch p rows) ≡ cond (row_eq at p.0) (changed_chain epoch p.1 (found_at row_cmp at rows)) (found_at row_cmp at rows)
found_written epoch (row, Put image) rows at = put_written (made epoch (Some image)) row at rows
found_written epoch (row, Remove) rows at = put_written (made epoch None) row at rows
found_written epoch (row, Touch) rows at = either_way (row_eq at row) (found_at row_cmp at rows)

-- ---- one row after all changes

abbrev after_all : ℕ → RowId → List ChangeOfRow → Option Chain → Option Chain
after_all epoch at [] held = held
after_all epoch at (p ∷ ps) held = after_all epoch at ps (cond (row_eq at p.0) (changed_chain epoch p.1 held) held)

found_all : (epoch : ℕ) (ps : List ChangeOfRow) (rows : Rows) (at : RowId) →
    found_at row_cmp at (all_written epoch ps rows) ≡ after_all epoch at ps (found_at row_cmp at rows)
found_all epoch [] rows at = refl
found_all epoch (p ∷ ps) rows at = found_all epoch ps (written epoch p rows) at ∙ ap (after_all epoch at ps) (found_written epoch p rows at)

same_number : (a : ℕ) → nat_eq a a ≡ true
same_number a = grind (arith, nat_tests)

lower_number : (a b : ℕ) → a < b → nat_eq a b ≡ false
lower_number a b h = grind (arith, nat_tests, h)

-- a row that has a version of the epoch already
again : (epoch : ℕ) (at : RowId) (ps : List ChangeOfRow) (image : Option RowImage) (chain : Chain) →
    after_all epoch at ps (Some (made epoch image ∷ chain)) ≡ Some (made epoch (image_after ps at image) ∷ chain)
again epoch at [] image chain = refl
again epoch at (p ∷ ps) image chain =
    ap (after_all epoch at ps) (by (row_eq at p.0) p.1) ∙ again epoch at ps (cond (row_eq at p.0) (image_left p.1 image) image) chain
  where
    instead : (new : Option RowImage) → Some (renewed (made epoch new) (made epoch image ∷ chain)) ≡ Some (made epoch new ∷ chain)
    instead new = ap (λ b. Some (made epoch new ∷ cond b chain (made epoch image ∷ chain))) (same_number epoch)

    by : (b : Bool) (change : Change) → cond b (changed_chain epoch change (Some (made epoch image ∷ chain))) (Some (made epoch image ∷ chain))
        ≡ Some (made epoch (cond b (image_left change image) image) ∷ chain)
    by true (Put new) = instead (Some new)
    by true Remove = instead None
    by true Touch = refl
    by false change = refl

none_of : (epoch : ℕ) (chain : Chain) → FallsBelow epoch chain → but_of epoch chain ≡ chain
none_of epoch [] falls = refl
none_of epoch (version ∷ older) falls = ap (λ b. cond b older (version ∷ older)) (lower_number version.epoch epoch falls.1)

-- a row whose versions are all of earlier epochs
first : (epoch : ℕ) (at : RowId) (ps : List ChangeOfRow) (held : Option Chain) → FallsBelow epoch (unwrap_or held []) →
    after_all epoch at ps held
    ≡ cond (changes_row at ps) (Some (made epoch (image_after ps at (newest_image (unwrap_or held []))) ∷ unwrap_or held [])) held
first epoch at [] held falls = refl
first epoch at (p ∷ ps) held falls = by (row_eq at p.0) p.1 (first epoch at ps held falls)
  where
    begun : (new : Option RowImage) → after_all epoch at ps (Some (renewed (made epoch new) (unwrap_or held [])))
        ≡ Some (made epoch (image_after ps at new) ∷ unwrap_or held [])
    begun new =
        ap (λ older. after_all epoch at ps (Some (made epoch new ∷ older))) (none_of epoch (unwrap_or held []) falls) ∙ again epoch at ps new (unwrap_or held [])

    by : (b : Bool) (change : Change) →
        after_all epoch at ps held ≡ cond (changes_row at ps) (Some (made epoch (image_after ps at (newest_image (unwrap_or held []))) ∷ unwrap_or held [])) held →
        after_all epoch at ps (cond b (changed_chain epoch change held) held)
        ≡ cond ((b && alters change) || changes_row at ps) (Some (made epoch (image_after ps at (cond b (image_left change (newest_image (unwrap_or held []))) (newest_image (unwrap_or held [])))) ∷ unwrap_or held [])) held
    by true (Put new) rest = begun (Some new)
    by true Remove rest = begun None
    by true Touch rest = rest
    by false change rest = rest

-- ---- what is kept

rising_written : (epoch : ℕ) (p : ChangeOfRow) (rows : Rows) → IsRising row_cmp rows → IsRising row_cmp (written epoch p rows)
rising_written epoch (row, Put image) rows rising = rising_put row_cmp row_cmp_total row (renewed (made epoch (Some image)) (chain_in rows row)) rows rising
rising_written epoch (row, Remove) rows rising = rising_put row_cmp row_cmp_total row (renewed (made epoch None) (chain_in rows row)) rows rising
rising_written epoch (row, Touch) rows rising = rising

rising_all : (epoch : ℕ) (ps : List ChangeOfRow) (rows : Rows) → IsRising row_cmp rows → IsRising row_cmp (all_written epoch ps rows)
rising_all epoch [] rows rising = rising
rising_all epoch (p ∷ ps) rows rising = rising_all epoch ps (written epoch p rows) (rising_written epoch p rows rising)

falls_more : (bound more : ℕ) (chain : Chain) → bound ≤ more → FallsBelow bound chain → FallsBelow more chain
falls_more bound more [] upto falls = tt
falls_more bound more (version ∷ older) upto falls = (falls.0, omega (arith, falls.1, upto), falls.2)

module _ (old : Kept) (lawful : IsKept old) (changes : List ChangeOfRow) where
  abbrev next : ℕ
  next = old.applied + 1

  abbrev new : Kept
  new = record { horizon = old.horizon; applied = old.applied + 1; rows = all_written (old.applied + 1) changes old.rows }

  abbrev newest : RowId → Version
  newest row = made (old.applied + 1) (image_after changes row (newest_image (chain_of old row)))

  pub found_new : (row : RowId) →
      found_at row_cmp row (all_written (old.applied + 1) changes old.rows)
      ≡ cond (changes_row row changes) (Some (newest row ∷ chain_of old row)) (found_at row_cmp row old.rows)
  found_new row =
      found_all (old.applied + 1) changes old.rows row
      ∙ first (old.applied + 1) row changes (found_at row_cmp row old.rows) (falls_of old lawful row)

  kept_newest : (row : RowId) → IsKeptChain old.horizon (old.applied + 1) (newest row ∷ chain_of old row)
  kept_newest row = record {
    some = omega arith;
    falls = (omega arith, omega arith, falls_of old lawful row);
    whole =
        ap (λ b. cond b (newest row ∷ kept_at old.horizon (chain_of old row)) (standing (newest row))) later
        ∙ ap (λ chain. newest row ∷ chain) (whole_of old lawful row);
  }
    where
      later : nat_lt old.horizon (old.applied + 1) ≡ true
      later = grind (arith, nat_tests, lawful.within)

  kept_still : (chain : Chain) → IsKeptChain old.horizon old.applied chain → IsKeptChain old.horizon (old.applied + 1) chain
  kept_still chain kept = record {
    some = kept.some;
    falls = falls_more (old.applied + 1) (old.applied + 1 + 1) chain (omega arith) kept.falls;
    whole = kept.whole;
  }

  pub applied_kept : IsKept (record { horizon = old.horizon; applied = old.applied + 1; rows = all_written (old.applied + 1) changes old.rows })
  applied_kept = record {
    within = omega (arith, lawful.within);
    rising = rising_all (old.applied + 1) changes old.rows lawful.rising;
    chains = λ row chain found. by row chain (changes_row row changes) (sym (found_new row) ∙ found);
  }
    where
      by : (row : RowId) (chain : Chain) (b : Bool) → cond b (Some (newest row ∷ chain_of old row)) (found_at row_cmp row old.rows) ≡ Some chain →
          IsKeptChain old.horizon (old.applied + 1) chain
      by row chain true is =
          let same : newest row ∷ chain_of old row ≡ chain = cc in
          subst (IsKeptChain old.horizon (old.applied + 1)) same (kept_newest row)
      by row chain false is = kept_still chain (lawful.chains row chain is)

  -- ---- the rows that are noted

  abbrev note : Note
  note = record { epoch = old.applied + 1; rows = rows_altered changes }

  any_altered : (ps : List ChangeOfRow) (row : RowId) → list_any (row_eq row) (rows_altered ps) ≡ changes_row row ps
  any_altered [] row = refl
  any_altered (p ∷ ps) row = by (row_eq row p.0) (alters p.1) refl (any_altered ps row)
    where
      by : (e a : Bool) → row_eq row p.0 ≡ e → list_any (row_eq row) (rows_altered ps) ≡ changes_row row ps →
          list_any (row_eq row) (keys_of (cond a (p ∷ filter (λ q. alters q.1) ps) (filter (λ q. alters q.1) ps))) ≡ ((e && a) || changes_row row ps)
      by true true is rest = ap (λ b. b || list_any (row_eq row) (rows_altered ps)) is
      by false true is rest = ap (λ b. b || list_any (row_eq row) (rows_altered ps)) is ∙ rest
      by true false is rest = rest
      by false false is rest = rest

  left_or : (a b : Bool) → a ≡ true → (a || b) ≡ true
  left_or true b is = refl
  left_or false b is = cc

  right_or : (a b : Bool) → b ≡ true → (a || b) ≡ true
  right_or true b is = refl
  right_or false b is = is

  is_noted_still : (notes : List Note) (epoch : ℕ) (row : RowId) → is_noted notes epoch row ≡ true → is_noted (notes ++ (note ∷ [])) epoch row ≡ true
  is_noted_still notes epoch row is =
      list_any-append (λ n. nat_eq n.epoch epoch && list_any (row_eq row) n.rows) notes (note ∷ [])
      ∙ left_or (is_noted notes epoch row) (is_noted (note ∷ []) epoch row) is

  is_noted_now : (notes : List Note) (row : RowId) → changes_row row changes ≡ true → is_noted (notes ++ (note ∷ [])) (old.applied + 1) row ≡ true
  is_noted_now notes row is =
      list_any-append (λ n. nat_eq n.epoch (old.applied + 1) && list_any (row_eq row) n.rows) notes (note ∷ [])
      ∙ right_or (is_noted notes (old.applied + 1) row) (is_noted (note ∷ []) (old.applied + 1) row)
      (ap (λ b. (b && list_any (row_eq row) (rows_altered changes)) || false) (same_number (old.applied + 1))
      ∙ ap (λ b. b || false) (any_altered changes row ∙ is))

  noted_still : (notes : List Note) (row : RowId) (chain : Chain) → AreNoted notes old.horizon row chain → AreNoted (notes ++ (note ∷ [])) old.horizon row chain
  noted_still notes row chain noted =
      All-weaker (λ v. old.horizon < v.epoch → is_noted notes v.epoch row ≡ true) (λ v. old.horizon < v.epoch → is_noted (notes ++ (note ∷ [])) v.epoch row ≡ true)
      (λ v has later. is_noted_still notes v.epoch row (has later)) chain noted

  noted_chain : (notes : List Note) → Notes notes old.horizon old.rows → (row : RowId) → AreNoted notes old.horizon row (chain_of old row)
  noted_chain notes noted row = by (found_at row_cmp row old.rows) refl
    where
      by : (held : Option Chain) → found_at row_cmp row old.rows ≡ held → AreNoted notes old.horizon row (unwrap_or held [])
      by None is = All-nil (λ v. old.horizon < v.epoch → is_noted notes v.epoch row ≡ true)
      by (Some chain) is = noted row chain is

  pub applied_noted : (notes : List Note) → Notes notes old.horizon old.rows →
      Notes (notes ++ (record { epoch = old.applied + 1; rows = rows_altered changes } ∷ [])) old.horizon (all_written (old.applied + 1) changes old.rows)
  applied_noted notes noted row chain found = by (changes_row row changes) refl (sym (found_new row) ∙ found)
    where
      by : (b : Bool) → changes_row row changes ≡ b → cond b (Some (newest row ∷ chain_of old row)) (found_at row_cmp row old.rows) ≡ Some chain →
          AreNoted (notes ++ (note ∷ [])) old.horizon row chain
      by true is same =
          let chains : newest row ∷ chain_of old row ≡ chain = cc in
          subst (AreNoted (notes ++ (note ∷ [])) old.horizon row) chains
          (All-cons (λ v. old.horizon < v.epoch → is_noted (notes ++ (note ∷ [])) v.epoch row ≡ true) (newest row) (chain_of old row)
          (λ later. is_noted_now notes row is)
          (noted_still notes row (chain_of old row) (noted_chain notes noted row)))
      by false is same = noted_still notes row chain (noted row chain same)

-- the epoch is applied
pub is_applied : (old : Kept) → IsKept old → (committed : List Placed) →
    IsApplied committed old (record { horizon = old.horizon; applied = old.applied + 1; rows = all_written (old.applied + 1) (changes_of committed) old.rows })
is_applied old lawful committed = record {
  horizon = refl;
  applied = refl;
  chains = λ row.
      ap (λ held. unwrap_or held []) (found_new old lawful (changes_of committed) row)
      ∙ by row (changes_row row (changes_of committed))
      ∙ ap (λ b. cond b (grown_one row ∷ chain_of old row) (chain_of old row)) (any_changes committed row);
}
  where
    grown_one : RowId → Version
    grown_one row = made (old.applied + 1) (image_after (changes_of committed) row (newest_image (chain_of old row)))

    by : (row : RowId) (b : Bool) →
        unwrap_or (cond b (Some (made (old.applied + 1) (image_after (changes_of committed) row (newest_image (chain_of old row))) ∷ chain_of old row)) (found_at row_cmp row old.rows)) []
        ≡ cond b (grown_one row ∷ chain_of old row) (chain_of old row)
    by row true = refl
    by row false = refl

-- the same, where the next epoch, the changes and the rows were computed
pub applied_by : (old : Kept) → IsKept old → (committed : List Placed) (epoch : ℕ) (changes : List ChangeOfRow) (rows : Rows) →
    epoch ≡ old.applied + 1 → changes ≡ changes_of committed → rows ≡ all_written epoch changes old.rows →
    IsApplied committed old (record { horizon = old.horizon; applied = epoch; rows = rows })
applied_by old lawful committed epoch changes rows next gathered wrote =
    let whole : rows ≡ all_written (old.applied + 1) (changes_of committed) old.rows = wrote ∙ (λ i. all_written (next i) (gathered i) old.rows) in
    subst (λ (k : Kept). IsApplied committed old k) (sym (λ i. record { horizon = old.horizon; applied = next i; rows = whole i })) (is_applied old lawful committed)

pub applied_whole : (old : Kept) → IsKept old → (notes : List Note) → Notes notes old.horizon old.rows → (epoch : ℕ) (changes : List ChangeOfRow) (rows : Rows) →
    epoch ≡ old.applied + 1 → rows ≡ all_written epoch changes old.rows →
    (more : List Note) → more ≡ notes ++ (record { epoch = epoch; rows = rows_altered changes } ∷ []) →
    IsKept (record { horizon = old.horizon; applied = epoch; rows = rows }) × Notes more old.horizon rows
applied_whole old lawful notes noted epoch changes rows next wrote more added = (
  subst (λ (k : Kept). IsKept k) (sym (λ i. record { horizon = old.horizon; applied = next i; rows = whole i })) (applied_kept old lawful changes),
  subst (λ (ns : List Note). Notes ns old.horizon rows) (sym (added ∙ λ i. notes ++ (record { epoch = next i; rows = rows_altered changes } ∷ [])))
      (subst (λ (r : Rows). Notes (notes ++ (record { epoch = old.applied + 1; rows = rows_altered changes } ∷ [])) old.horizon r) (sym whole)
      (applied_noted old lawful changes notes noted)),
)
  where
    whole : rows ≡ all_written (old.applied + 1) changes old.rows
    whole = wrote ∙ ap (λ e. all_written e changes old.rows) next
