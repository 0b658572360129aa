-- Rows that are handed out are rows of the table, and so are those of them that are kept.
use Rattle.std.proofs.Common.{◌≡◌, ℕ, Bool, true, false, Ok, List, [], ◌∷◌, refl, sym, subst}
use Rattle.std.specs.List.{All, filter}
use Rattle.std.proofs.lemmas.Bool.{eqb-true}
use Rattle.std.proofs.lemmas.List.Elements.{All-cons, All-filter, All-head, All-nil, All-tail}
use Rattle.geo_base.specs.declared.cell.Cell.{Cell}
use Rattle.geo_schema.specs.Rows.{IsRow}
use Rattle.geo_schema.specs.Schemas.{Tables, table_at}
use Rattle.row_source.specs.Handing.{reaches}
use Rattle.row_source.specs.Sources.{AreRowsOf, Fits, images}
use Rattle.row_source.specs.declared.plan.Access.{Access}
use Rattle.sql_exec.proofs.Entries.{are_some}
use Rattle.sql_exec.proofs.Planned.{of_its_table}
use Rattle.sql_exec.specs.inner.Plain.{kept_rows}
use Rattle.sql_expr.specs.declared.expr.Expr.{Expr}
use Rattle.write_set.specs.Overlay.{Table}

module _ (tables : Tables) (number : ℕ) where
  abbrev IsImage : List Cell → Type 0
  IsImage image = IsRow (table_at tables number) image

  from_rows : (way : Access) (rows : Table) → All (Fits tables) rows → All IsImage (images (filter (reaches tables number way) rows))
  from_rows way [] fit = All-nil IsImage
  from_rows way (e ∷ rows) fit = by (reaches tables number way e) refl (from_rows way rows (All-tail (Fits tables) e rows fit))
    where
      by : (b : Bool) → reaches tables number way e ≡ b → All IsImage (images (filter (reaches tables number way) rows)) →
          All IsImage (images (filter (reaches tables number way) (e ∷ rows)))
      by true is rest =
          let row : IsRow (table_at tables number) e.1 =
          subst (λ (n : ℕ). IsRow (table_at tables n) e.1) (eqb-true e.0.table number (of_its_table tables number way e is)) (All-head (Fits tables) e rows fit).row in
          rw is (All-cons IsImage e.1 (images (filter (reaches tables number way) rows)) row rest)
      by false is rest = rw is rest

  pub handed_rows : (way : Access) (rows : Table) → AreRowsOf tables rows → All IsImage (images (filter (reaches tables number way) rows))
  handed_rows way rows are = from_rows way rows are.fit

  -- those that the tests keep are rows of it too
  pub rows_kept : (tests : List Expr) (rows some : List (List Cell)) → kept_rows tests rows ≡ Ok some → All IsImage rows → All IsImage some
  unfolding kept_rows
  rows_kept tests rows some is all = subst (All IsImage) (sym (are_some (λ (row : List Cell). row) tests rows some is)) (All-filter _ IsImage rows all)
