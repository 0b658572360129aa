-- A query answers by a plan what it answers without one: the rows that the plan leaves out are dropped by the tests.
use Rattle.std.proofs.Common.{◌≡◌, ℕ, Bool, true, false, ◌&&◌, if◌then◌else◌, nat_eq, Result, Ok, List, [], ◌∷◌, length, get_or, refl, sym, ap, subst, ◌∙◌, arith}
use Rattle.std.specs.List.{Contains, filter}
use Rattle.std.proofs.lemmas.Bool.{both_ways, eq-eqb, eqb-true}
use Rattle.std.proofs.lemmas.List.Elements.{Contains-append_left, Contains-append_right, Contains-push}
use Rattle.geo_base.specs.Results.{◌>>=◌}
use Rattle.geo_base.specs.declared.cell.Cell.{Cell}
use Rattle.geo_base.specs.declared.row_id.RowId.{RowId}
use Rattle.geo_base.specs.laws.Orders.{row_eq_decides}
use Rattle.geo_schema.specs.Schemas.{Tables}
use Rattle.row_source.specs.Handing.{LeavesOut, reaches, row_named}
use Rattle.row_source.specs.Matches.{in_statement, kept_of}
use Rattle.row_source.specs.Sources.{Entry, images, of_table}
use Rattle.row_source.specs.declared.fault.ExecFault.{ExecFault}
use Rattle.row_source.specs.declared.plan.Access.{Access}
use Rattle.row_source.specs.declared.plan.Access.TheVariants as access
use Rattle.row_source.specs.declared.plan.Plan.{Plan}
use Rattle.sql_bind.specs.declared.bound.BoundSelect.{BoundSelect}
use Rattle.sql_exec.proofs.Binding.{same_again, same_behind}
use Rattle.sql_exec.proofs.Plain.{alone_same, plain_lines}
use Rattle.sql_exec.specs.Answers.{answer_of}
use Rattle.sql_exec.specs.inner.Plain.{kept_rows, limited_lines, plain_answer}
use Rattle.sql_expr.specs.Conditions.{kept}
use Rattle.sql_expr.specs.declared.expr.Expr.{Expr}
use Rattle.write_set.specs.Overlay.{Table}

abbrev Answer : Type 0
Answer = Result (List (List Cell)) ExecFault

-- ---- a row that is reached is of the table

first_true : (a b : Bool) → (a && b) ≡ true → a ≡ true
first_true true b both = refl
first_true false b both = absurd cc

pub of_its_table : (tables : Tables) (number : ℕ) (way : Access) (entry : Entry) → reaches tables number way entry ≡ true → nat_eq entry.0.table number ≡ true
of_its_table tables number (access.Point key) entry is =
    let named = (row_eq_decides (row_named number key) entry.0).0 is in
    eq-eqb entry.0.table number (sym (ap (λ (row : RowId). row.table) named))
of_its_table tables number (access.Range range) entry is = first_true _ _ is
of_its_table tables number (access.Index place range) entry is = first_true _ _ is
of_its_table tables number access.Scan entry is = is

-- ---- rows that are left out change nothing

-- a row in front of those that are kept of the rest
abbrev in_front : List Expr → List Cell → Answer → Answer
in_front tests row rest = in_statement (kept row tests) >>= λ passes. rest >>= λ more. Ok (if passes then row ∷ more else more)

pub head : (a : Entry) (rows : Table) → Contains (a ∷ rows) a
head a rows = Contains-append_left (a ∷ []) rows a (Contains-push [] a)

pub behind : (a : Entry) (rows : Table) (b : Entry) → Contains rows b → Contains (a ∷ rows) b
behind a rows b there = Contains-append_right (a ∷ []) rows b there

module _ (tests : List Expr) (p q : Entry → Bool) where
  -- those that pass p pass q too
  abbrev IsWithin : Table → Type 0
  IsWithin rows = (a : Entry) → Contains rows a → p a ≡ true → q a ≡ true

  -- the tests drop those that pass q and not p
  abbrev DropsOthers : Table → Type 0
  DropsOthers rows = (a : Entry) → Contains rows a → q a ≡ true → p a ≡ false → kept a.1 tests ≡ Ok false

  same_kept : (rows : Table) → IsWithin rows → DropsOthers rows → kept_rows tests (images (filter p rows)) ≡ kept_rows tests (images (filter q rows))
  unfolding kept_rows
  same_kept [] within drops = refl
  same_kept (a ∷ rows) within drops =
      by (p a) refl (q a) refl (same_kept rows (λ b there. within b (behind a rows b there)) (λ b there. drops b (behind a rows b there)))
    where
      by : (b : Bool) → p a ≡ b → (c : Bool) → q a ≡ c → kept_of (λ r. r) tests (images (filter p rows)) ≡ kept_of (λ r. r) tests (images (filter q rows)) →
          kept_of (λ r. r) tests (images (filter p (a ∷ rows))) ≡ kept_of (λ r. r) tests (images (filter q (a ∷ rows)))
      by true is true has rest = rw (is, has) (ap (in_front tests a.1) rest)
      by true is false has rest = absurd (both_ways (q a) has (within a (head a rows) is))
      by false is true has rest =
          let out : kept a.1 tests ≡ Ok false = drops a (head a rows) has is in
          rw (is, has, out) (rest ∙ sym (same_again (kept_of (λ r. r) tests (images (filter q rows)))))
      by false is false has rest = rw (is, has) rest

-- ---- one table

-- the one table of a query
pub the_table : (tables : List ℕ) (d : ℕ) → length tables ≡ 1 → tables ≡ get_or tables 0 d ∷ []
the_table [] d one = absurd (omega (arith, one))
the_table (table ∷ []) d one = refl
the_table (table ∷ other ∷ more) d one = absurd (omega (arith, one))

-- what the plan leaves out of one table
pub left_out : (tables : Tables) (numbers : List ℕ) (number : ℕ) (plan : Plan) (rows : Table) (tests : List Expr) → numbers ≡ number ∷ [] →
    LeavesOut tables numbers plan rows (λ cells. kept cells tests ≡ Ok false) →
    (a : Entry) → Contains rows a → nat_eq a.0.table number ≡ true → reaches tables number plan.first a ≡ false → kept a.1 tests ≡ Ok false
left_out tables numbers number plan rows tests is leaves a there here missed =
    let one : LeavesOut tables (number ∷ []) plan rows (λ cells. kept cells tests ≡ Ok false) =
    subst (λ (n : List ℕ). LeavesOut tables n plan rows (λ cells. kept cells tests ≡ Ok false)) is leaves in
    one a there (eqb-true a.0.table number here) missed

-- the tests keep of the rows that the plan hands out what they keep of all rows of the table
pub handed_kept : (tables : Tables) (numbers : List ℕ) (number : ℕ) (plan : Plan) (rows : Table) (tests : List Expr) → numbers ≡ number ∷ [] →
    LeavesOut tables numbers plan rows (λ cells. kept cells tests ≡ Ok false) →
    kept_rows tests (images (filter (reaches tables number plan.first) rows)) ≡ kept_rows tests (images (of_table number rows))
handed_kept tables numbers number plan rows tests is leaves =
    same_kept tests (reaches tables number plan.first) (λ entry. nat_eq entry.0.table number) rows
    (λ a there reached. of_its_table tables number plan.first a reached)
    (left_out tables numbers number plan rows tests is leaves)

pub planned : (tables : Tables) (query : BoundSelect) (plan : Plan) (number : ℕ) (rows : Table) →
    query.tables ≡ number ∷ [] → query.grouped ≡ false → query.order ≡ [] →
    LeavesOut tables query.tables plan rows (λ cells. kept cells query.tests ≡ Ok false) →
    answer_of query rows ≡ plain_answer query.items query.limit query.tests (images (filter (reaches tables number plan.first) rows))
unfolding plain_answer
planned tables query plan number rows is ungrouped no_order leaves =
    alone_same query number rows is
    ∙ same_behind (kept_rows query.tests (images (of_table number rows))) _ (limited_lines query.items query.limit)
    (λ some. plain_lines query some ungrouped no_order)
    ∙ ap (λ (r : Answer). r >>= limited_lines query.items query.limit) (sym (handed_kept tables query.tables number plan rows query.tests is leaves))
