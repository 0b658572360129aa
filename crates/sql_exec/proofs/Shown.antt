-- What a call is shown is what is meant, and so is what it answers.
use Rattle.std.proofs.Common.{◌≡◌, Option, Ok, Result, List, ℕ, map, subst, ◌∙◌, ap}
use Rattle.geo_base.specs.Results.{Fails}
use Rattle.geo_base.specs.declared.cell.Cell.{Cell}
use Rattle.geo_base.specs.declared.row_id.RowId.{RowId}
use Rattle.row_source.specs.declared.fault.ExecFault.{ExecFault}
use Rattle.row_source.specs.declared.fault.ExecFault.TheVariants as fault
use Rattle.sql_bind.specs.declared.bound.Item.{Item}
use Rattle.sql_exec.specs.inner.Plain.{kept_rows, limited_lines}
use Rattle.sql_exec.specs.inner.Removing.{removals_by}
use Rattle.sql_exec.specs.inner.Touching.{touches_by}
use Rattle.sql_expr.specs.declared.expr.Expr.{Expr}
use Rattle.write_set.specs.Overlay.{Table}
use Rattle.write_set.specs.Sets.{ChangeOfRow}
use Rattle.write_set.specs.declared.row_change.RowChange.{RowChange}

abbrev Rows : Type 0
Rows = List (List Cell)

-- the rows that the tests keep
pub kept : (rows some : Rows) {shown tests : List Expr} → shown ≡ tests → kept_rows shown rows ≡ Ok some → kept_rows tests rows ≡ Ok some
kept rows some same is = subst (λ (t : List Expr). kept_rows t rows ≡ Ok some) same is

pub kept_fails : (rows : Rows) (e : ExecFault) {shown tests : List Expr} → shown ≡ tests → Fails fault.NoMemory e (kept_rows shown rows) → Fails fault.NoMemory e (kept_rows tests rows)
kept_fails rows e same is = subst (λ (t : List Expr). Fails fault.NoMemory e (kept_rows t rows)) same is

module _ {A : Type 0} (cells : A → List Cell) where
  -- their lines
  same_lines : (limit : Option ℕ) {shown some : List A} {items own : List Item} → items ≡ own → shown ≡ some →
      limited_lines items limit (map cells shown) ≡ limited_lines own limit (map cells some)
  same_lines limit {shown} {some} {items} {own} same are =
      ap (λ (i : List Item). limited_lines i limit (map cells shown)) same ∙ ap (λ (rows : List A). limited_lines own limit (map cells rows)) are

  pub lines : (limit : Option ℕ) (made : Rows) {shown some : List A} {items own : List Item} → items ≡ own → shown ≡ some →
      limited_lines items limit (map cells shown) ≡ Ok made → limited_lines own limit (map cells some) ≡ Ok made
  lines limit made same are is = subst (λ (r : Result Rows ExecFault). r ≡ Ok made) (same_lines limit same are) is

  pub lines_fail : (limit : Option ℕ) (e : ExecFault) {shown some : List A} {items own : List Item} → items ≡ own → shown ≡ some →
      Fails fault.NoMemory e (limited_lines items limit (map cells shown)) → Fails fault.NoMemory e (limited_lines own limit (map cells some))
  lines_fail limit e same are is = subst (λ (r : Result Rows ExecFault). Fails fault.NoMemory e r) (same_lines limit same are) is

  -- what is done to them
  pub touches : (base : Table) (own : List ChangeOfRow) (name : List Cell → RowId) {shown some : List A} {made : List RowChange} → shown ≡ some →
      made ≡ touches_by base own (map name (map cells shown)) → made ≡ touches_by base own (map name (map cells some))
  touches base own name are is = is ∙ ap (λ (rows : List A). touches_by base own (map name (map cells rows))) are

  pub removals : (base : Table) (name : List Cell → RowId) {shown some : List A} {made : List RowChange} → shown ≡ some →
      made ≡ removals_by base (map name (map cells shown)) → made ≡ removals_by base (map name (map cells some))
  removals base name are is = is ∙ ap (λ (rows : List A). removals_by base (map name (map cells rows))) are
