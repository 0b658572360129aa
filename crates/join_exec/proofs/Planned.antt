-- What is kept of what a plan hands out is what is kept of all rows or pairs.
use Rattle.std.proofs.Common.{Bor, ◌≡◌, ℕ, Bool, true, false, ◌&&◌, nat_eq, Option, Some, None, Ok, List, [], ◌∷◌, length, get_or, map, refl, sym, ap, subst, ◌∙◌, arith}
use Rattle.std.specs.List.{Contains, filter}
use Rattle.std.proofs.lemmas.Bool.{eq-eqb, eqb-true}
use Rattle.std.proofs.lemmas.List.{append-nil}
use Rattle.geo_base.specs.Order.{row_eq}
use Rattle.geo_base.specs.declared.cell.Cell.{Cell}
use Rattle.geo_base.specs.declared.row_id.RowId.{RowId}
use Rattle.geo_base.specs.declared.row_image.RowImage.{RowImage}
use Rattle.geo_base.specs.laws.Orders.{row_eq_decides}
use Rattle.geo_schema.specs.Schemas.{Tables}
use Rattle.join_exec.proofs.Kept.{begins}
use Rattle.join_exec.proofs.LeftOut.{none_kept, same_kept, same_pairs}
use Rattle.join_exec.specs.inner.Kept.{kept_behind, pairs_by}
use Rattle.row_source.specs.Handing.{IsPlanFor, LeavesOut, finds, finds_by, part_cell, reaches, row_named}
use Rattle.row_source.specs.Matches.{alone, matches_of, pair_cells, paired}
use Rattle.row_source.specs.Sources.{Entry, images, of_table}
use Rattle.row_source.specs.declared.pair.Pair.{Pair}
use Rattle.row_source.specs.declared.plan.Access.{Access}
use Rattle.row_source.specs.declared.plan.Access.TheVariants as access
use Rattle.row_source.specs.declared.plan.JoinKind.{JoinKind}
use Rattle.row_source.specs.declared.plan.JoinKind.TheVariants as join
use Rattle.row_source.specs.declared.plan.Plan.{Plan}
use Rattle.row_source.specs.declared.plan.Second.{Second}
use Rattle.sql_expr.specs.Conditions.{kept}
use Rattle.sql_expr.specs.declared.expr.Expr.{Expr}
use Rattle.write_set.specs.Overlay.{Table}

-- ---- what is reached or found is of its table

first_true : (a b : Bool) → (a && b) ≡ true → a ≡ true
first_true true b both = refl
first_true false b both = absurd cc

named_in : (number : ℕ) (key : List Cell) (entry : Entry) → row_eq (row_named number key) entry.0 ≡ true → nat_eq entry.0.table number ≡ true
named_in number key entry is =
    let named = (row_eq_decides (row_named number key) entry.0).0 is in
    eq-eqb entry.0.table number (sym (ap (λ (row : RowId). row.table) named))

reached_in : (tables : Tables) (number : ℕ) (way : Access) (entry : Entry) → reaches tables number way entry ≡ true → nat_eq entry.0.table number ≡ true
reached_in tables number (access.Point key) entry is = named_in number key entry is
reached_in tables number (access.Range range) entry is = first_true _ _ is
reached_in tables number (access.Index place range) entry is = first_true _ _ is
reached_in tables number access.Scan entry is = is

found_in : (tables : Tables) (number : ℕ) (second : Option Second) (left : List Cell) (entry : Entry) → finds tables number second left entry ≡ true → nat_eq entry.0.table number ≡ true
found_in tables number None left entry is = absurd cc
found_in tables number (Some second) left entry is = by second.access second.join is
  where
    by : (way : Access) (kind : JoinKind) → finds_by tables number way kind left entry ≡ true → nat_eq entry.0.table number ≡ true
    by way join.Nested is = reached_in tables number way entry is
    by way (join.ByKey parts) is = named_in number (map (part_cell left) parts) entry is
    by way (join.Hashed a b) is = reached_in tables number way entry (first_true _ _ is)

-- ---- one table and two

module _ (tables : Tables) (plan : Plan) (rows : Table) (tests : List Expr) where
  abbrev IsDropped : List Cell → Type 0
  IsDropped cells = kept cells tests ≡ Ok false

  pub one_table : (number : ℕ) → LeavesOut tables (number ∷ []) plan rows (λ cells. kept cells tests ≡ Ok false) →
      matches_of (number ∷ []) tests rows ≡ kept_behind tests [] (map alone (images (filter (reaches tables number plan.first) rows)))
  unfolding matches_of
  one_table number leaves =
      sym (same_kept tests alone (reaches tables number plan.first) (λ entry. nat_eq entry.0.table number) rows
      (λ a there reached. reached_in tables number plan.first a reached)
      (λ a there here missed. alone_dropped a.1 (leaves a there (eqb-true a.0.table number here) missed)))
      ∙ sym (begins tests (map alone (images (filter (reaches tables number plan.first) rows))))
    where
      alone_dropped : (row : List Cell) → kept row tests ≡ Ok false → kept (pair_cells (alone row)) tests ≡ Ok false
      alone_dropped row dropped = subst (λ (cells : List Cell). kept cells tests ≡ Ok false) (sym (append-nil row)) dropped

  module _ (left right : ℕ) (leaves : LeavesOut tables (left ∷ right ∷ []) plan rows (λ cells. kept cells tests ≡ Ok false)) where
    -- beside a left row that is reached, the tests drop the right rows that aren't found
    not_found : (a : Entry) → Contains rows a → reaches tables left plan.first a ≡ true →
        (b : Entry) → Contains rows b → nat_eq b.0.table right ≡ true → finds tables right plan.second a.1 b ≡ false → kept (pair_cells (paired a.1 b.1)) tests ≡ Ok false
    not_found a there reached b is_there here missed =
        leaves a b there is_there (eqb-true a.0.table left (reached_in tables left plan.first a reached)) (eqb-true b.0.table right here) (rw (reached, missed) refl)

    -- beside one that isn't reached, they drop all
    not_reached : (a : Entry) → Contains rows a → nat_eq a.0.table left ≡ true → reaches tables left plan.first a ≡ false →
        (b : Entry) → Contains rows b → nat_eq b.0.table right ≡ true → kept (pair_cells (paired a.1 b.1)) tests ≡ Ok false
    not_reached a there of_left missed b is_there here =
        leaves a b there is_there (eqb-true a.0.table left of_left) (eqb-true b.0.table right here) (rw missed refl)

    pub two_tables : matches_of (left ∷ right ∷ []) tests rows ≡
        kept_behind tests [] (pairs_by (λ cells. images (filter (finds tables right plan.second cells) rows)) (images (filter (reaches tables left plan.first) rows)))
    unfolding matches_of
    two_tables =
        sym (same_pairs tests (λ cells. map (paired cells) (images (filter (finds tables right plan.second cells) rows))) (λ cells. map (paired cells) (images (of_table right rows)))
        (reaches tables left plan.first) (λ entry. nat_eq entry.0.table left) rows
        (λ a there reached. reached_in tables left plan.first a reached)
        (λ a there reached. same_kept tests (paired a.1) (finds tables right plan.second a.1) (λ entry. nat_eq entry.0.table right) rows
        (λ b is_there found. found_in tables right plan.second a.1 b found) (λ b is_there here missed. not_found a there reached b is_there here missed))
        (λ a there of_left missed. none_kept tests (paired a.1) (λ entry. nat_eq entry.0.table right) rows (λ b is_there here. not_reached a there of_left missed b is_there here)))
        ∙ sym (begins tests (pairs_by (λ cells. images (filter (finds tables right plan.second cells) rows)) (images (filter (reaches tables left plan.first) rows))))

-- ---- the tables as a list

-- one table
pub by_one : (tables : Tables) (numbers : List ℕ) (plan : Plan) (rows : Table) (tests : List Expr) → length numbers ≡ 1 → LeavesOut tables numbers plan rows (λ cells. kept cells tests ≡ Ok false) →
    matches_of numbers tests rows ≡ kept_behind tests [] (map alone (images (filter (reaches tables (get_or numbers 0 0) plan.first) rows)))
by_one tables [] plan rows tests one leaves = absurd (omega (arith, one))
by_one tables (number ∷ []) plan rows tests one leaves = one_table tables plan rows tests number leaves
by_one tables (number ∷ other ∷ more) plan rows tests one leaves = absurd (omega (arith, one))

-- and two
pub two_numbers : (tables : Tables) (numbers : List ℕ) (plan : Plan) → IsPlanFor tables numbers plan → (length numbers ≡ 1 → ⊥) → get_or numbers 0 0 ∷ get_or numbers 1 0 ∷ [] ≡ numbers
two_numbers tables [] plan fits not_one = absurd fits
two_numbers tables (number ∷ []) plan fits not_one = absurd (not_one refl)
two_numbers tables (left ∷ right ∷ []) plan fits not_one = refl
two_numbers tables (left ∷ right ∷ other ∷ more) plan fits not_one = absurd fits

pub by_two : (tables : Tables) (left right : ℕ) (numbers : List ℕ) (plan : Plan) (rows : Table) (tests : List Expr) → left ∷ right ∷ [] ≡ numbers →
    LeavesOut tables numbers plan rows (λ cells. kept cells tests ≡ Ok false) →
    matches_of numbers tests rows ≡ kept_behind tests [] (pairs_by (λ cells. images (filter (finds tables right plan.second cells) rows)) (images (filter (reaches tables left plan.first) rows)))
by_two tables left right numbers plan rows tests two leaves =
    ap (λ (n : List ℕ). matches_of n tests rows) (sym two)
    ∙ two_tables tables plan rows tests left right (subst (λ (n : List ℕ). LeavesOut tables n plan rows (λ cells. kept cells tests ≡ Ok false)) (sym two) leaves)

-- the pairs beside left rows that are shown as references, where the plan's second part is read of it
pub beside_shown : (tables : Tables) (right : ℕ) (rows : Table) (tests : List Expr) (done : List Pair) (shown found : List (Bor RowImage)) (lefts : List RowImage) (second : Second) (part : Option Second) →
    shown ≡ found → map (λ row. row.now) found ≡ lefts → part ≡ Some second →
    kept_behind tests done (pairs_by (λ left. images (filter (finds tables right (Some second) left) rows)) (map (λ row. row.now) shown))
    ≡ kept_behind tests done (pairs_by (λ left. images (filter (finds tables right part left) rows)) lefts)
beside_shown tables right rows tests done shown found lefts second part same reached is =
    ap (λ (some : List RowImage). kept_behind tests done (pairs_by (λ left. images (filter (finds tables right (Some second) left) rows)) some))
    (ap (λ (some : List (Bor RowImage)). map (λ row. row.now) some) same ∙ reached)
    ∙ ap (λ (p : Option Second). kept_behind tests done (pairs_by (λ left. images (filter (finds tables right p left) rows)) lefts)) (sym is)
