-- The plan that scans hands out everything.
use Rattle.std.proofs.Common.{◌≡◌, ℕ, ◌≤◌, Bool, true, false, ◌&&◌, nat_eq, None, Some, Ok, List, [], ◌∷◌, length, refl, subst, arith}
use Rattle.std.proofs.lemmas.Bool.{eq-eqb}
use Rattle.geo_schema.specs.Schemas.{Tables}
use Rattle.row_source.specs.Handing.{IsPlanFor, LeavesOut}
use Rattle.row_source.specs.declared.plan.Access.TheVariants as access
use Rattle.row_source.specs.declared.plan.JoinKind.TheVariants as join
use Rattle.row_source.specs.declared.plan.Plan.{Plan}
use Rattle.sql_expr.specs.Conditions.{kept}
use Rattle.sql_expr.specs.declared.expr.Expr.{Expr}
use Rattle.write_set.specs.Overlay.{Table}

abbrev scan : Plan
scan = record { first = access.Scan; second = None }

abbrev nested : Plan
nested = record { first = access.Scan; second = Some (record { access = access.Scan; join = join.Nested }) }

pub scan_fits : (numbers : List ℕ) → length numbers ≡ 1 → (tables : Tables) → IsPlanFor tables numbers scan
scan_fits [] one tables = absurd cc
scan_fits (a ∷ []) one tables = (tt, refl)
scan_fits (a ∷ b ∷ rest) one tables = absurd (omega arith)

pub scan_leaves_out : (numbers : List ℕ) → length numbers ≡ 1 → (tables : Tables) (tests : List Expr) (rows : Table) →
    LeavesOut tables numbers scan rows (λ cells. kept cells tests ≡ Ok false)
scan_leaves_out [] one tables tests rows = absurd cc
scan_leaves_out (a ∷ []) one tables tests rows = λ row there of_table missed.
    let reached : nat_eq row.0.table a ≡ true = eq-eqb row.0.table a of_table in absurd cc
scan_leaves_out (a ∷ b ∷ rest) one tables tests rows = absurd (omega arith)

pub nested_fits : (numbers : List ℕ) → 1 ≤ length numbers → length numbers ≤ 2 → (length numbers ≡ 1 → ⊥) → (tables : Tables) → IsPlanFor tables numbers nested
nested_fits [] some few many tables = absurd (omega arith)
nested_fits (a ∷ []) some few many tables = absurd (many refl)
nested_fits (a ∷ b ∷ []) some few many tables = (tt, (tt, tt))
nested_fits (a ∷ b ∷ c ∷ rest) some few many tables = absurd (omega arith)

pub nested_leaves_out : (numbers : List ℕ) → 1 ≤ length numbers → (length numbers ≡ 1 → ⊥) → (tables : Tables) (tests : List Expr) (rows : Table) →
    LeavesOut tables numbers nested rows (λ cells. kept cells tests ≡ Ok false)
nested_leaves_out [] some many tables tests rows = absurd (omega arith)
nested_leaves_out (a ∷ []) some many tables tests rows = absurd (many refl)
nested_leaves_out (a ∷ b ∷ rest) some many tables tests rows = λ left right there here of_left of_right missed.
    let reached : nat_eq left.0.table a ≡ true = eq-eqb left.0.table a of_left in
    let found : nat_eq right.0.table b ≡ true = eq-eqb right.0.table b of_right in
    let not_found : nat_eq right.0.table b ≡ false = subst (λ (t : Bool). (t && nat_eq right.0.table b) ≡ false) reached missed in absurd cc
