-- Laws: what a DELETE removes, and what FOR UPDATE touches, are rows that are there.
use Rattle.std.proofs.Common.{◌≡◌, ℕ, true, false, not, Option, Some, None, IsSome, List, [], ◌∷◌, map, filter, All, Ok, refl, sym, ap, ◌∙◌, subst}
use Rattle.std.specs.List.Sorted.{IsStrictlySortedBy}
use Rattle.std.specs.Map.{keys_of}
use Rattle.std.specs.Option.{is_some}
use Rattle.std.specs.Ordering.{is_eq}
use Rattle.std.proofs.lemmas.Bool.{not-true}
use Rattle.std.proofs.lemmas.List.Elements.{All-filter, All-map, All-weaker, filter_passes}
use Rattle.geo_base.specs.Order.{row_cmp, row_eq}
use Rattle.geo_base.specs.Results.{◌>>=◌}
use Rattle.geo_base.specs.declared.cell.Cell.{Cell}
use Rattle.geo_base.specs.declared.row_id.RowId.{RowId}
use Rattle.geo_base.specs.declared.row_image.RowImage.{RowImage}
use Rattle.geo_base.specs.laws.Orders.{row_eq_ties}
use Rattle.geo_base.specs.laws.Results.{bind_ok, ok_is}
use Rattle.geo_schema.specs.Schemas.{Tables}
use Rattle.row_source.specs.Sources.{Entry, of_table}
use Rattle.sql_bind.specs.declared.bound.BoundDelete.{BoundDelete}
use Rattle.sql_bind.specs.declared.bound.BoundSelect.{BoundSelect}
use Rattle.sql_exec.specs.Answers.{answer_of}
use Rattle.sql_exec.specs.Changes.{AreChangesOfRows, AreTouches, IsPut, IsSoundChange, rows_named}
use Rattle.sql_exec.specs.Effects.{change_of, delete_changes, kept_entries, lock_changes, locked_table, touches_of}
use Rattle.sql_exec.specs.laws.Parts.{all_made, filter_some, kept_some, rising_made}
use Rattle.sql_exec.specs.laws.Reading.{all_found, all_in_table, all_of_table, rises_in_table, some_found}
use Rattle.sql_exec.specs.laws.Sound.{others_are_sound}
use Rattle.sql_expr.specs.declared.expr.Expr.{Expr}
use Rattle.write_set.specs.declared.change.Change.{Change}
use Rattle.write_set.specs.declared.change.Change.TheVariants.{Remove, Touch}
use Rattle.write_set.specs.declared.row_change.RowChange.{RowChange}
use Rattle.write_set.specs.laws.Among.{or_false}
use Rattle.write_set.specs.laws.Nets.{touches_known}
use Rattle.write_set.specs.laws.Tables.{image_laid_over, rises_overlay}
use Rattle.write_set.specs.Net.{TouchesKnown, change_in}
use Rattle.write_set.specs.Overlay.{Table, image_in, overlay}
use Rattle.write_set.specs.Sets.{ChangeOfRow, Rises, has_row}
use Rattle.write_set.specs.Snapshot.{image_over}

-- ---- the rows that tests keep

-- they are rows of the table that a look-up finds, in rising order
record AreKept (number : ℕ) (rows : Table) (some : Table) : Type 0 where
  pub of_table : All (λ entry. entry.0.table ≡ number) some
  pub found : All (λ entry. image_in rows entry.0 ≡ Some entry.1) some
  pub rising : Rises some

are_kept : (tests : List Expr) (number : ℕ) (base : Table) (own : List ChangeOfRow) (some : Table) → Rises (overlay base own) → kept_entries tests number base own ≡ Ok some → AreKept number (overlay base own) some
are_kept tests number base own some rises h =
    let rows = of_table number (overlay base own) in
    let made = kept_some (λ (entry : Entry). entry.1) tests rows some h in
    record {
      of_table = all_made (λ a b. b ≡ a) (λ entry. entry.0.table ≡ number) (λ entry. entry.0.table ≡ number)
          (λ a b p same. subst (λ (e : Entry). e.0.table ≡ number) (sym same) p) rows some (all_of_table number (overlay base own)) made;
      found = all_made (λ a b. b ≡ a) (λ entry. image_in (overlay base own) entry.0 ≡ Some entry.1) (λ entry. image_in (overlay base own) entry.0 ≡ Some entry.1)
          (λ a b p same. subst (λ (e : Entry). image_in (overlay base own) e.0 ≡ Some e.1) (sym same) p) rows some
          (all_in_table (λ entry. image_in (overlay base own) entry.0 ≡ Some entry.1) number (overlay base own) (all_found (overlay base own) rises)) made;
      rising = rising_made (λ a b. b ≡ a) row_cmp (λ entry. entry.0) (λ entry. entry.0) (λ a b same. ap (λ (e : Entry). e.0) same) rows some
          (rises_in_table number (overlay base own) rises) made;
    }

-- ---- one kind of change of each

names_kept : (base : Table) (change : Change) (some : Table) → rows_named (map (λ entry. change_of base entry.0 change) some) ≡ keys_of some
names_kept base change [] = refl
names_kept base change (entry ∷ some) = ap (λ (rows : List RowId). entry.0 ∷ rows) (names_kept base change some)

changes_of_kept : (tables : Tables) (number : ℕ) (base : Table) (own : List ChangeOfRow) (change : Change) (some : Table) → ¬ (IsPut change) →
    AreKept number (overlay base own) some → AreChangesOfRows (λ c. c ≡ change) tables number base own (map (λ entry. change_of base entry.0 change) some)
changes_of_kept tables number base own change some none are =
    let make = λ (entry : Entry). change_of base entry.0 change in
    record {
      sound = All-map (IsSoundChange tables base) make some (λ k d within. others_are_sound tables base _ change none);
      kind = All-map (λ (c : RowChange). c.change ≡ change) make some (λ k d within. refl);
      of_table = All-map (λ (c : RowChange). c.row.table ≡ number) make some are.of_table;
      there = All-map (λ (c : RowChange). IsSome (image_in (overlay base own) c.row)) make some (λ k d within. some_found _ _ (are.found k d within));
      rising = subst (IsStrictlySortedBy row_cmp) (sym (names_kept base change some)) are.rising;
    }

-- ---- DELETE

pub deletes_are_there : (tables : Tables) (delete : BoundDelete) (base : Table) (own : List ChangeOfRow) (changes : List RowChange) → Rises (overlay base own) →
    delete_changes delete base own ≡ Ok changes → AreChangesOfRows (λ change. change ≡ Remove) tables delete.table base own changes
unfolding delete_changes
deletes_are_there tables delete base own changes rises h =
    let p = bind_ok (kept_entries delete.tests delete.table base own) (λ rows. Ok (map (λ entry. change_of base entry.0 Remove) rows)) changes h in
    subst (AreChangesOfRows (λ change. change ≡ Remove) tables delete.table base own) (ok_is (map (λ entry. change_of base entry.0 Remove) p.0) changes p.2)
    (changes_of_kept tables delete.table base own Remove p.0 (λ put. put) (are_kept delete.tests delete.table base own p.0 rises p.1))

-- ---- FOR UPDATE

-- the net has nothing of a row that it lacks
nothing_of : (own : List ChangeOfRow) (row : RowId) → has_row row own ≡ false → change_in own row ≡ None
nothing_of [] row h = refl
nothing_of (p ∷ own) row h =
    let apart = or_false (row_eq row p.0) (has_row row own) h in
    let other : is_eq (row_cmp row p.0) ≡ false = sym (row_eq_ties row p.0) ∙ apart.0 in
    rw other (nothing_of own row apart.1)

module _ (base : Table) (own : List ChangeOfRow) (rises : Rises base) (own_rises : Rises own) where
  -- an image that stands there then stands in the base
  base_has : (row : RowId) (image : RowImage) → has_row row own ≡ false → image_in (overlay base own) row ≡ Some image → is_some (image_in base row) ≡ true
  base_has row image none found =
      let same : image_in (overlay base own) row ≡ image_in base row =
      image_laid_over base own row rises own_rises ∙ ap (λ (o : Option Change). image_over o (image_in base row)) (nothing_of own row none) in
      ap is_some (sym same ∙ found)

  -- so the base has it, where there is one
  pub found_in_base : (row : RowId) → has_row row own ≡ false → IsSome (image_in (overlay base own) row) → is_some (image_in base row) ≡ true
  found_in_base row none there = by (image_in (overlay base own) row) refl there
    where
      by : (o : Option RowImage) → image_in (overlay base own) row ≡ o → IsSome o → is_some (image_in base row) ≡ true
      by None is some = absurd cc
      by (Some image) is some = base_has row image none is

  kept_lacked : (number : ℕ) (some : Table) → AreKept number (overlay base own) some → AreKept number (overlay base own) (filter (λ entry. not (has_row entry.0 own)) some)
  kept_lacked number some are = record {
    of_table = All-filter (λ entry. not (has_row entry.0 own)) (λ entry. entry.0.table ≡ number) some are.of_table;
    found = All-filter (λ entry. not (has_row entry.0 own)) (λ entry. image_in (overlay base own) entry.0 ≡ Some entry.1) some are.found;
    rising = rising_made (λ a b. b ≡ a) row_cmp (λ entry. entry.0) (λ entry. entry.0) (λ a b same. ap (λ (e : Entry). e.0) same) some
        (filter (λ entry. not (has_row entry.0 own)) some) are.rising (filter_some (λ entry. not (has_row entry.0 own)) some);
  }

  touched : (tables : Tables) (number : ℕ) (some : Table) → AreKept number (overlay base own) some → AreTouches tables number base own (touches_of base own some)
  touched tables number some are =
      let left = filter (λ (entry : Entry). not (has_row entry.0 own)) some in
      let make = λ (entry : Entry). change_of base entry.0 Touch in
      let these = kept_lacked number some are in
      let lacked : All (λ entry. has_row entry.0 own ≡ false) left =
      All-weaker (λ entry. not (has_row entry.0 own) ≡ true) (λ entry. has_row entry.0 own ≡ false) (λ entry h. not-true (has_row entry.0 own) h) left
      (filter_passes (λ entry. not (has_row entry.0 own)) some) in
      record {
        rows = changes_of_kept tables number base own Touch left (λ put. put) these;
        lacked = All-map (λ (c : RowChange). has_row c.row own ≡ false) make left lacked;
        known = All-map (λ (c : RowChange). c.before ≡ true) make left (λ k d within. base_has _ _ (lacked k d within) (these.found k d within));
      }

  pub touches_are_there : (tables : Tables) (query : BoundSelect) (lines : List (List Cell)) (touches : List RowChange) → lock_changes query base own ≡ Ok (lines, touches) →
      AreTouches tables (locked_table query.tables) base own touches
  unfolding lock_changes
  touches_are_there tables query lines touches h =
      let p = bind_ok (answer_of query (overlay base own))
      (λ found. kept_entries query.tests (locked_table query.tables) base own >>= λ rows. Ok (found, touches_of base own rows)) (lines, touches) h in
      let q = bind_ok (kept_entries query.tests (locked_table query.tables) base own) (λ rows. Ok (p.0, touches_of base own rows)) (lines, touches) p.2 in
      let both : (p.0, touches_of base own q.0) ≡ (lines, touches) = ok_is (p.0, touches_of base own q.0) (lines, touches) q.2 in
      subst (AreTouches tables (locked_table query.tables) base own) (ap (λ (pair : List (List Cell) × List RowChange). pair.1) both)
      (touched tables (locked_table query.tables) q.0 (are_kept query.tests (locked_table query.tables) base own q.0 (rises_overlay base own rises) q.1))

  -- so a net takes them
  pub touches_taken : (tables : Tables) (number : ℕ) (touches : List RowChange) → AreTouches tables number base own touches → TouchesKnown own touches
  touches_taken tables number touches are = touches_known own touches (λ k d within touch. are.known k d within)
