-- What a DELETE makes of the rows that are handed out, and by a plan of all of them.
use Rattle.std.proofs.Common.{◌≡◌, inl, inr, ℕ, ◌+◌, ◌<◌, false, get_or, length, take, Result, Ok, Err, List, [], ◌∷◌, ◌++◌, map, refl, sym, ap, subst, ◌∙◌}
use Rattle.std.specs.List.{filter}
use Rattle.std.proofs.lemmas.List.{map-append}
use Rattle.geo_base.specs.Results.{◌>>=◌, Fails}
use Rattle.geo_base.specs.declared.cell.Cell.{Cell}
use Rattle.geo_base.specs.declared.row_id.RowId.{RowId}
use Rattle.geo_schema.specs.Schemas.{Tables}
use Rattle.row_source.specs.Handing.{LeavesOut, reaches}
use Rattle.row_source.specs.Matches.{kept_of}
use Rattle.row_source.specs.Sources.{AreRowsOf, Entry, images, of_table}
use Rattle.row_source.specs.declared.fault.ExecFault.{ExecFault}
use Rattle.row_source.specs.declared.fault.ExecFault.TheVariants as fault
use Rattle.row_source.specs.declared.plan.Plan.{Plan}
use Rattle.sql_bind.specs.declared.bound.BoundDelete.{BoundDelete}
use Rattle.sql_exec.proofs.ByPlan.{entries_kept, entries_named}
use Rattle.sql_exec.proofs.Entries.{cells_of}
use Rattle.sql_exec.proofs.Touched.{next_name}
use Rattle.sql_exec.specs.Effects.{change_of, delete_changes}
use Rattle.sql_exec.specs.inner.Naming.{name_in}
use Rattle.sql_exec.specs.inner.Plain.{kept_rows}
use Rattle.sql_exec.specs.inner.Removing.{removals_by, removed_rows}
use Rattle.sql_expr.specs.Conditions.{kept}
use Rattle.sql_plan.specs.Plans.{plan_of}
use Rattle.write_set.specs.Overlay.{Table, overlay}
use Rattle.write_set.specs.Sets.{ChangeOfRow}
use Rattle.write_set.specs.declared.change.Change.TheVariants.{Remove}
use Rattle.write_set.specs.declared.row_change.RowChange.{RowChange}

-- ---- the loop, over anything that has cells

-- no row is removed
pub none : (base : Table) → removals_by base [] ≡ []
unfolding removals_by
none base = refl

module _ {A : Type 0} (cells : A → List Cell) where
  -- one row more
  pub pushed : (name : List Cell → RowId) (base : Table) (rows : List A) (i : ℕ) (row : A) (old made : List RowChange) (got : RowId) (removal : RowChange) →
      i < length rows → row ≡ get_or rows i row → old ≡ removals_by base (map name (map cells (take i rows))) → got ≡ name (cells row) →
      removal ≡ change_of base got Remove → made ≡ old ++ removal ∷ [] → made ≡ removals_by base (map name (map cells (take (i + 1) rows)))
  unfolding removals_by
  pushed name base rows i row old made got removal within at before is removes after =
      rw (next_name cells name rows i row within at, map-append (λ (r : RowId). change_of base r Remove) (map name (map cells (take i rows))) (name (cells row) ∷ []))
      (after ∙ ap (λ (l : List RowChange). l ++ removal ∷ []) before
      ∙ ap (λ (c : RowChange). map (λ (r : RowId). change_of base r Remove) (map name (map cells (take i rows))) ++ c ∷ []) (removes ∙ ap (λ (n : RowId). change_of base n Remove) is))

-- ---- its steps

abbrev Made : Type 0
Made = Result (List RowChange) ExecFault

module _ (tables : Tables) (base : Table) (delete : BoundDelete) (handed : List (List Cell)) where
  -- a condition has a fault
  fault_of : (e : ExecFault) → kept_rows delete.tests handed ≡ Err e → removed_rows tables base delete handed ≡ Err e
  unfolding removed_rows
  fault_of e is = rw is refl

  pub kept_fails : (e : ExecFault) → Fails fault.NoMemory e (kept_rows delete.tests handed) → Fails fault.NoMemory e (removed_rows tables base delete handed)
  kept_fails e (inl lost) = inl lost
  kept_fails e (inr is) = inr (fault_of e is)

  -- there is none
  pub removed : (some : List (List Cell)) (removals : List RowChange) → kept_rows delete.tests handed ≡ Ok some →
      removals ≡ removals_by base (map (name_in tables delete.table) some) → removed_rows tables base delete handed ≡ Ok removals
  unfolding removed_rows
  removed some removals is are = rw is (ap (λ (l : List RowChange). let made : Made = Ok l in made) (sym are))

-- ---- by a plan

-- removals by rows are removals by their names
same_removals : (base : Table) (rows : Table) → map (λ (entry : Entry). change_of base entry.0 Remove) rows ≡ removals_by base (map (λ (entry : Entry). entry.0) rows)
unfolding removals_by
same_removals base [] = refl
same_removals base (e ∷ rows) = ap (λ (more : List RowChange). change_of base e.0 Remove ∷ more) (same_removals base rows)

from_entries : (tables : Tables) (base : Table) (delete : BoundDelete) (handed : List (List Cell)) (entries : Result Table ExecFault) →
    cells_of (λ (entry : Entry). entry.1) delete.tests entries ≡ kept_rows delete.tests handed →
    ((rows : Table) → entries ≡ Ok rows → map (λ (entry : Entry). entry.0) rows ≡ map (name_in tables delete.table) (images rows)) →
    (entries >>= λ rows. Ok (map (λ (entry : Entry). change_of base entry.0 Remove) rows)) ≡ removed_rows tables base delete handed
unfolding removed_rows
from_entries tables base delete handed (Err e) same named =
    subst (λ (r : Result (List (List Cell)) ExecFault). (let made : Made = Err e in made) ≡ (r >>= λ some. Ok (removals_by base (map (name_in tables delete.table) some)))) same refl
from_entries tables base delete handed (Ok rows) same named =
    subst (λ (r : Result (List (List Cell)) ExecFault). (let made : Made = Ok (map (λ (entry : Entry). change_of base entry.0 Remove) rows) in made) ≡ (r >>= λ some. Ok (removals_by base (map (name_in tables delete.table) some)))) same
    (ap (λ (l : List RowChange). let made : Made = Ok l in made) (same_removals base rows ∙ ap (removals_by base) (named rows refl)))

-- what it does to the rows that it looks at, as the definition has it
abbrev over : BoundDelete → Table → Table → Made
over delete base rows = kept_of (λ (entry : Entry). entry.1) delete.tests (of_table delete.table rows) >>= λ some. Ok (map (λ (entry : Entry). change_of base entry.0 Remove) some)

pub by_plan : (tables : Tables) (base : Table) (own : List ChangeOfRow) (delete : BoundDelete) (rows : Table) (handed found : List (List Cell)) →
    rows ≡ overlay base own → AreRowsOf tables rows →
    LeavesOut tables (delete.table ∷ []) (plan_of tables (delete.table ∷ []) delete.tests) rows (λ cells. kept cells delete.tests ≡ Ok false) →
    handed ≡ found → found ≡ images (filter (reaches tables delete.table (plan_of tables (delete.table ∷ []) delete.tests).first) rows) →
    delete_changes delete base own ≡ removed_rows tables base delete handed
unfolding delete_changes
by_plan tables base own delete rows handed found laid are leaves same is =
    let plan : Plan = plan_of tables (delete.table ∷ []) delete.tests in
    ap (over delete base) (sym laid)
    ∙ from_entries tables base delete (images (filter (reaches tables delete.table plan.first) rows)) (kept_of (λ (entry : Entry). entry.1) delete.tests (of_table delete.table rows))
    (entries_kept tables (delete.table ∷ []) delete.table plan rows delete.tests refl leaves)
    (λ some kept_is. entries_named tables delete.table delete.tests rows some are.fit kept_is)
    ∙ ap (removed_rows tables base delete) (sym (same ∙ is))
