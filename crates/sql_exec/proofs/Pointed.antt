-- What a query answers of one row, or of none.
use Rattle.std.proofs.Common.{◌≡◌, ℕ, true, false, Option, Ok, Err, List, [], ◌∷◌, refl}
use Rattle.geo_base.specs.declared.cell.Cell.{Cell}
use Rattle.row_source.specs.Matches.{in_statement}
use Rattle.row_source.specs.declared.fault.ExecFault.{ExecFault}
use Rattle.sql_bind.specs.declared.bound.Item.{Item}
use Rattle.sql_exec.specs.inner.Plain.{kept_rows, limited_lines, plain_answer}
use Rattle.sql_expr.specs.Conditions.{kept}
use Rattle.sql_expr.specs.declared.expr.Expr.{Expr}

module _ (items : List Item) (limit : Option ℕ) (tests : List Expr) where
  pub no_row : plain_answer items limit tests [] ≡ limited_lines items limit []
  unfolding plain_answer kept_rows
  no_row = refl

  module _ (row : List Cell) where
    pub kept_one : in_statement (kept row tests) ≡ Ok true → plain_answer items limit tests (row ∷ []) ≡ limited_lines items limit (row ∷ [])
    unfolding plain_answer kept_rows
    kept_one is = rw is refl

    pub dropped_one : in_statement (kept row tests) ≡ Ok false → plain_answer items limit tests (row ∷ []) ≡ limited_lines items limit []
    unfolding plain_answer kept_rows
    dropped_one is = rw is refl

    pub fault_of_one : (e : ExecFault) → in_statement (kept row tests) ≡ Err e → plain_answer items limit tests (row ∷ []) ≡ Err e
    unfolding plain_answer kept_rows
    fault_of_one e is = rw is refl
