-- The rows with their names that tests keep of a table, by the rows that a plan hands out.
use Rattle.std.proofs.Common.{◌≡◌, ℕ, false, nat_eq, Ok, List, [], ◌∷◌, map, sym, subst, ◌∙◌}
use Rattle.std.specs.List.{All, filter}
use Rattle.std.proofs.lemmas.List.Elements.{All-filter}
use Rattle.geo_schema.specs.Schemas.{Tables}
use Rattle.row_source.specs.Handing.{LeavesOut, reaches}
use Rattle.row_source.specs.Matches.{kept_of}
use Rattle.row_source.specs.Sources.{Entry, Fits, images, of_table}
use Rattle.row_source.specs.declared.plan.Plan.{Plan}
use Rattle.sql_exec.proofs.Entries.{IsNamed, all_named, are_some, cells_of, kept_images, names_of}
use Rattle.sql_exec.proofs.Planned.{handed_kept}
use Rattle.sql_exec.specs.inner.Naming.{name_in}
use Rattle.sql_exec.specs.inner.Plain.{kept_rows}
use Rattle.sql_expr.specs.Conditions.{kept}
use Rattle.sql_expr.specs.declared.expr.Expr.{Expr}
use Rattle.write_set.specs.Overlay.{Table}

-- their cells are those that the tests keep of what is handed out
pub entries_kept : (tables : Tables) (numbers : List ℕ) (number : ℕ) (plan : Plan) (rows : Table) (tests : List Expr) → numbers ≡ number ∷ [] →
    LeavesOut tables numbers plan rows (λ cells. kept cells tests ≡ Ok false) →
    cells_of (λ (entry : Entry). entry.1) tests (kept_of (λ (entry : Entry). entry.1) tests (of_table number rows)) ≡ kept_rows tests (images (filter (reaches tables number plan.first) rows))
entries_kept tables numbers number plan rows tests is leaves =
    kept_images tests (of_table number rows) ∙ sym (handed_kept tables numbers number plan rows tests is leaves)

-- and their names follow from their cells
pub entries_named : (tables : Tables) (number : ℕ) (tests : List Expr) (rows some : Table) → All (Fits tables) rows →
    kept_of (λ (entry : Entry). entry.1) tests (of_table number rows) ≡ Ok some → map (λ (entry : Entry). entry.0) some ≡ map (name_in tables number) (images some)
entries_named tables number tests rows some fit is =
    names_of tables number some
    (subst (All (IsNamed tables number)) (sym (are_some (λ (entry : Entry). entry.1) tests (of_table number rows) some is))
    (All-filter _ (IsNamed tables number) (of_table number rows) (all_named tables number (λ (entry : Entry). nat_eq entry.0.table number) rows (λ e here. here) fit)))
