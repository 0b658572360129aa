-- What a query that locks makes of the rows that are handed out, from what its steps answer.
use Rattle.std.proofs.Common.{◌≡◌, inl, inr, ℕ, ◌+◌, ◌≤◌, false, Result, Ok, Err, List, [], ◌∷◌, get_or, length, map, refl, sym, ap, subst, ◌∙◌}
use Rattle.std.specs.List.{All, filter}
use Rattle.std.proofs.lemmas.List.Elements.{All-head}
use Rattle.geo_base.specs.Results.{Fails}
use Rattle.geo_base.specs.declared.cell.Cell.{Cell}
use Rattle.geo_schema.specs.Schemas.{Tables}
use Rattle.row_source.specs.Bounds.{steps_of}
use Rattle.row_source.specs.Handing.{LeavesOut, reaches}
use Rattle.row_source.specs.Sources.{AreRowsOf, images}
use Rattle.row_source.specs.declared.fault.ExecFault.{ExecFault}
use Rattle.row_source.specs.declared.fault.ExecFault.TheVariants as fault
use Rattle.row_source.specs.declared.plan.Plan.{Plan}
use Rattle.sql_bind.specs.declared.bound.BoundSelect.{BoundSelect}
use Rattle.sql_exec.proofs.Locking.{locked}
use Rattle.sql_exec.proofs.Planned.{the_table}
use Rattle.sql_exec.specs.Effects.{lock_changes}
use Rattle.sql_exec.specs.inner.Naming.{name_in}
use Rattle.sql_exec.specs.inner.Plain.{kept_rows, limited_lines}
use Rattle.sql_exec.specs.inner.Touching.{locked_rows, touches_by}
use Rattle.sql_expr.specs.Conditions.{kept}
use Rattle.sql_expr.specs.declared.expr.Expr.{Expr}
use Rattle.sql_plan.specs.Plans.{plan_of}
use Rattle.write_set.specs.Overlay.{Table, overlay}
use Rattle.write_set.specs.Sets.{ChangeOfRow}
use Rattle.write_set.specs.declared.row_change.RowChange.{RowChange}

abbrev Rows : Type 0
Rows = List (List Cell)

abbrev Made : Type 0
Made = Result (Rows × List RowChange) ExecFault

-- ---- its steps

module _ (tables : Tables) (base : Table) (own : List ChangeOfRow) (query : BoundSelect) (number : ℕ) (handed : Rows) where
  abbrev made : Made
  made = locked_rows tables base own query number handed

  -- a condition has a fault
  kept_fault : (e : ExecFault) → kept_rows query.tests handed ≡ Err e → made ≡ Err e
  unfolding locked_rows
  kept_fault e is = rw is refl

  -- a line has one, or there are too many
  line_fault : (some : Rows) (e : ExecFault) → kept_rows query.tests handed ≡ Ok some → limited_lines query.items query.limit some ≡ Err e → made ≡ Err e
  unfolding locked_rows
  line_fault some e is limited = rw (is, limited) refl

  pub kept_fails : (e : ExecFault) → Fails fault.NoMemory e (kept_rows query.tests handed) → Fails fault.NoMemory e made
  kept_fails e (inl lost) = inl lost
  kept_fails e (inr is) = inr (kept_fault e is)

  pub line_fails : (some : Rows) (e : ExecFault) → kept_rows query.tests handed ≡ Ok some → Fails fault.NoMemory e (limited_lines query.items query.limit some) → Fails fault.NoMemory e made
  line_fails some e is (inl lost) = inl lost
  line_fails some e is (inr limited) = inr (line_fault some e is limited)

  -- there is none
  pub all_made : (some lines : Rows) (touches : List RowChange) → kept_rows query.tests handed ≡ Ok some →
      limited_lines query.items query.limit some ≡ Ok lines → touches ≡ touches_by base own (map (name_in tables number) some) → made ≡ Ok (lines, touches)
  unfolding locked_rows
  all_made some lines touches is limited are = rw (is, limited) (ap (λ (t : List RowChange). let m : Made = Ok (lines, t) in m) (sym are))

-- ---- by a plan

-- the one table of a query
pub one_table : (tables shown : List ℕ) → shown ≡ tables → length tables ≡ 1 → tables ≡ get_or shown 0 0 ∷ []
one_table tables shown same one = sym same ∙ the_table shown 0 (ap length same ∙ one)

pub of_one : (P : ℕ → Type 0) (tables : List ℕ) (number : ℕ) → tables ≡ number ∷ [] → All P tables → P number
of_one P tables number one all = All-head P number [] (subst (All P) one all)

-- so many steps by the plan of the one table are as many by that of the query
pub same_steps : (tables : Tables) (numbers : List ℕ) (number : ℕ) (tests : List Expr) (rows : Table) (old new : ℕ) → numbers ≡ number ∷ [] →
    new ≤ old + steps_of tables (number ∷ []) (plan_of tables (number ∷ []) tests) rows → new ≤ old + steps_of tables numbers (plan_of tables numbers tests) rows
same_steps tables numbers number tests rows old new one few = subst (λ (n : List ℕ). new ≤ old + steps_of tables n (plan_of tables n tests) rows) (sym one) few

-- by the plan a query that locks does to the rows that are handed out what it does to all of them
pub by_plan : (tables : Tables) (base : Table) (own : List ChangeOfRow) (query : BoundSelect) (number : ℕ) (rows : Table) (handed found : Rows) →
    rows ≡ overlay base own → AreRowsOf tables rows → query.tables ≡ number ∷ [] → query.grouped ≡ false → query.order ≡ [] →
    LeavesOut tables (number ∷ []) (plan_of tables (number ∷ []) query.tests) rows (λ cells. kept cells query.tests ≡ Ok false) →
    handed ≡ found → found ≡ images (filter (reaches tables number (plan_of tables (number ∷ []) query.tests).first) rows) →
    lock_changes query base own ≡ locked_rows tables base own query number handed
by_plan tables base own query number rows handed found laid are one ungrouped no_order leaves same is =
    let plan : Plan = plan_of tables (number ∷ []) query.tests in
    locked tables query base own number plan rows laid are one ungrouped no_order
    (subst (λ (numbers : List ℕ). LeavesOut tables numbers plan rows (λ cells. kept cells query.tests ≡ Ok false)) (sym one) leaves)
    ∙ ap (locked_rows tables base own query number) (sym (same ∙ is))
