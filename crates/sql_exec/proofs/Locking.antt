-- What a query that locks does, by a plan.
use Rattle.std.proofs.Common.{◌≡◌, ℕ, Bool, true, false, not, Result, Ok, Err, List, [], ◌∷◌, map, refl, sym, ap, subst, ◌∙◌}
use Rattle.std.specs.List.{filter}
use Rattle.geo_base.specs.Results.{◌>>=◌}
use Rattle.geo_base.specs.declared.cell.Cell.{Cell}
use Rattle.geo_schema.specs.Schemas.{Tables}
use Rattle.row_source.specs.Handing.{LeavesOut, reaches}
use Rattle.row_source.specs.Matches.{kept_of}
use Rattle.row_source.specs.Sources.{AreRowsOf, Entry, images, of_table}
use Rattle.row_source.specs.declared.fault.ExecFault.{ExecFault}
use Rattle.row_source.specs.declared.plan.Plan.{Plan}
use Rattle.sql_bind.specs.declared.bound.BoundSelect.{BoundSelect}
use Rattle.sql_exec.proofs.ByPlan.{entries_kept, entries_named}
use Rattle.sql_exec.proofs.Entries.{cells_of}
use Rattle.sql_exec.proofs.Planned.{planned}
use Rattle.sql_exec.specs.Answers.{answer_of}
use Rattle.sql_exec.specs.Effects.{change_of, lock_changes, locked_table, touches_of}
use Rattle.sql_exec.specs.inner.Naming.{name_in}
use Rattle.sql_exec.specs.inner.Plain.{kept_rows, limited_lines, plain_answer}
use Rattle.sql_exec.specs.inner.Touching.{locked_rows, touches_by}
use Rattle.sql_expr.specs.Conditions.{kept}
use Rattle.write_set.specs.Overlay.{Table, overlay}
use Rattle.write_set.specs.Sets.{ChangeOfRow, has_row}
use Rattle.write_set.specs.declared.change.Change.TheVariants.{Touch}
use Rattle.write_set.specs.declared.row_change.RowChange.{RowChange}

abbrev Rows : Type 0
Rows = List (List Cell)

abbrev Made : Type 0
Made = Result (Rows × List RowChange) ExecFault

-- touches by rows are touches by their names
same_touches : (base : Table) (own : List ChangeOfRow) (rows : Table) → touches_of base own rows ≡ touches_by base own (map (λ (entry : Entry). entry.0) rows)
unfolding touches_by
same_touches base own [] = refl
same_touches base own (e ∷ rows) = by (not (has_row e.0 own)) refl (same_touches base own rows)
  where
    by : (b : Bool) → not (has_row e.0 own) ≡ b → touches_of base own rows ≡ touches_by base own (map (λ (entry : Entry). entry.0) rows) →
        touches_of base own (e ∷ rows) ≡ touches_by base own (map (λ (entry : Entry). entry.0) (e ∷ rows))
    by true is rest = rw is (ap (λ (more : List RowChange). change_of base e.0 Touch ∷ more) rest)
    by false is rest = rw is rest

module _ (tables : Tables) (query : BoundSelect) (base : Table) (own : List ChangeOfRow) (number : ℕ) where
  -- from the rows that are kept, where they are known
  abbrev from_kept : Result Rows ExecFault → Made
  from_kept some = some >>= λ rows. limited_lines query.items query.limit rows >>= λ lines. Ok (lines, touches_by base own (map (name_in tables number) rows))

  -- the lines first, and then the rows that are kept once more
  twice : (handed : Rows) (entries : Result Table ExecFault) →
      cells_of (λ (entry : Entry). entry.1) query.tests entries ≡ kept_rows query.tests handed →
      ((rows : Table) → entries ≡ Ok rows → map (λ (entry : Entry). entry.0) rows ≡ map (name_in tables number) (images rows)) →
      (plain_answer query.items query.limit query.tests handed >>= λ lines. entries >>= λ rows. Ok (lines, touches_of base own rows)) ≡ locked_rows tables base own query number handed
  unfolding plain_answer locked_rows
  twice handed (Err e) same named =
      subst (λ (r : Result Rows ExecFault). (let l : Made = (r >>= λ some. limited_lines query.items query.limit some) >>= λ lines. Err e in l) ≡ from_kept r) same refl
  twice handed (Ok rows) same named =
      let touches : touches_of base own rows ≡ touches_by base own (map (name_in tables number) (images rows)) =
      same_touches base own rows ∙ ap (touches_by base own) (named rows refl) in
      subst (λ (r : Result Rows ExecFault). (let l : Made = (r >>= λ some. limited_lines query.items query.limit some) >>= λ lines. Ok (lines, touches_of base own rows) in l) ≡ from_kept r) same
      (ap (λ (t : List RowChange). let l : Made = limited_lines query.items query.limit (images rows) >>= λ lines. Ok (lines, t) in l) touches)

  -- what it does to the rows that it looks at, as the definition has it
  abbrev over : Table → ℕ → Made
  over rows table = answer_of query rows >>= λ lines. kept_of (λ (entry : Entry). entry.1) query.tests (of_table table rows) >>= λ some. Ok (lines, touches_of base own some)

  -- by a plan it does the same to the rows that are handed out
  pub locked : (plan : Plan) (rows : Table) → rows ≡ overlay base own → AreRowsOf tables rows → query.tables ≡ number ∷ [] → query.grouped ≡ false → query.order ≡ [] →
      LeavesOut tables query.tables plan rows (λ cells. kept cells query.tests ≡ Ok false) →
      lock_changes query base own ≡ locked_rows tables base own query number (images (filter (reaches tables number plan.first) rows))
  unfolding lock_changes
  locked plan rows laid are one ungrouped no_order leaves =
      let entries : Result Table ExecFault = kept_of (λ (entry : Entry). entry.1) query.tests (of_table number rows) in
      ap (λ (t : Table). over t (locked_table query.tables)) (sym laid) ∙ ap (λ (n : List ℕ). over rows (locked_table n)) one
      ∙ ap (λ (answer : Result Rows ExecFault). let l : Made = answer >>= λ lines. entries >>= λ some. Ok (lines, touches_of base own some) in l)
      (planned tables query plan number rows one ungrouped no_order leaves)
      ∙ twice (images (filter (reaches tables number plan.first) rows)) entries (entries_kept tables query.tables number plan rows query.tests one leaves)
      (λ some is. entries_named tables number query.tests rows some are.fit is)
