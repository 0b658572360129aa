-- Laws: the definitions of what statements do answer no want of memory, and none of the limits of a net.
use Rattle.std.proofs.Common.{◌≡◌, ◌≢◌, Bool, true, false, if◌then◌else◌, ℤ, List, [], ◌∷◌, IfErr, Result, Ok, Err, refl, sym, ap, ◌∙◌, subst}
use Rattle.geo_base.specs.Results.{◌>>=◌}
use Rattle.geo_base.specs.declared.cell.Cell.{Cell}
use Rattle.geo_base.specs.declared.cell.Cell.TheVariants as cell
use Rattle.geo_schema.specs.Schemas.{Tables}
use Rattle.group_exec.specs.Groups.{sum_cell, sum_of}
use Rattle.row_source.specs.declared.fault.ExecFault.{ExecFault}
use Rattle.row_source.specs.declared.fault.ExecFault.TheVariants as fault
use Rattle.row_source.specs.Matches.{in_statement}
use Rattle.sql_bind.specs.declared.bound.BoundDelete.{BoundDelete}
use Rattle.sql_bind.specs.declared.bound.BoundInsert.{BoundInsert}
use Rattle.sql_bind.specs.declared.bound.BoundSelect.{BoundSelect}
use Rattle.sql_bind.specs.declared.bound.BoundUpdate.{BoundUpdate}
use Rattle.sql_exec.specs.Answers.{answer_of}
use Rattle.sql_exec.specs.Effects.{IsOfStatement, IsRefused, delete_changes, insert_changes, lock_changes, touches_in, update_changes}
use Rattle.sql_exec.specs.laws.Faults.{AreSuch, answered, delete_such, in_turn, insert_such, lock_such, update_such}
use Rattle.sql_expr.specs.Conditions.{is_true, kept}
use Rattle.sql_expr.specs.declared.expr.Expr.{Expr}
use Rattle.sql_expr.specs.declared.fault.EvalFault.{EvalFault}
use Rattle.sql_expr.specs.declared.fault.EvalFault.TheVariants as eval
use Rattle.sql_expr.specs.Values.{is_i64, number, value_of}
use Rattle.write_set.specs.declared.row_change.RowChange.{RowChange}
use Rattle.write_set.specs.Overlay.{Table}
use Rattle.write_set.specs.Sets.{ChangeOfRow}

-- a fault of an expression that isn't want of memory
abbrev IsOther : EvalFault → Type 0
IsOther e = e ≢ eval.NoMemory

as_statement : {A : Type 0} (r : Result A EvalFault) → IfErr r IsOther → IfErr (in_statement r) IsOfStatement
as_statement (Ok x) other = tt
as_statement (Err eval.Overflow) other = tt
as_statement (Err eval.DivideByZero) other = tt
as_statement (Err eval.NoMemory) other = absurd (other refl)

number_other : (z : ℤ) → IfErr (number z) IsOther
number_other z = by (is_i64 z)
  where
    by : (b : Bool) → IfErr (let r : Result Cell EvalFault = (if b then Ok (cell.Int z) else Err eval.Overflow) in r) IsOther
    by true = tt
    by false = λ is. cc

sum_other : (cells : List Cell) → IfErr (sum_cell cells) IsOfStatement
sum_other [] = tt
sum_other (c ∷ cells) = as_statement (number (sum_of (c ∷ cells))) (number_other (sum_of (c ∷ cells)))

-- no expression has want of memory for its fault
module _ (never : (row : List Cell) (e : Expr) → value_of row e ≢ Err eval.NoMemory) where
  value_other : (row : List Cell) (e : Expr) → IfErr (value_of row e) IsOther
  value_other row e = by (value_of row e) refl
    where
      by : (r : Result Cell EvalFault) → value_of row e ≡ r → IfErr r IsOther
      by (Ok x) is = tt
      by (Err f) is = λ same. never row e (is ∙ ap (λ (g : EvalFault). Err g) same)

  kept_other : (row : List Cell) (tests : List Expr) → IfErr (kept row tests) IsOther
  kept_other row [] = tt
  kept_other row (test ∷ tests) =
      in_turn IsOther (value_of row test) (λ v. if is_true v then kept row tests else Ok false) (value_other row test) (λ v is. by (is_true v) (kept_other row tests))
    where
      by : (b : Bool) → IfErr (kept row tests) IsOther → IfErr (let r : Result Bool EvalFault = (if b then kept row tests else Ok false) in r) IsOther
      by true other = other
      by false other = tt

  steps : AreSuch IsOfStatement
  steps = record {
    of_value = λ row e. as_statement (value_of row e) (value_other row e);
    of_tests = λ row tests. as_statement (kept row tests) (kept_other row tests);
    of_sum = sum_other;
    null_cell = λ name. tt;
    long_text = λ name. tt;
    long_answer = tt;
  }

  pub insert_own : (tables : Tables) (insert : BoundInsert) (base : Table) (own : List ChangeOfRow) → IfErr (insert_changes tables insert base own) IsOfStatement
  insert_own tables insert base own = insert_such IsOfStatement steps tables insert base own (λ row. tt)

  pub update_own : (tables : Tables) (update : BoundUpdate) (base : Table) (own : List ChangeOfRow) → IfErr (update_changes tables update base own) IsOfStatement
  update_own = update_such IsOfStatement steps

  pub delete_own : (delete : BoundDelete) (base : Table) (own : List ChangeOfRow) → IfErr (delete_changes delete base own) IsOfStatement
  delete_own = delete_such IsOfStatement steps

  pub lock_own : (query : BoundSelect) (base : Table) (own : List ChangeOfRow) → IfErr (touches_in (lock_changes query base own)) IsOfStatement
  lock_own = lock_such IsOfStatement steps

  pub answer_own : (query : BoundSelect) (rows : Table) → IfErr (answer_of query rows) IsOfStatement
  answer_own = answered IsOfStatement steps

own_isnt_memory : (e : ExecFault) → IsOfStatement e → e ≢ fault.NoMemory
own_isnt_memory e own is = subst IsOfStatement is own

-- so no refusal is want of memory either
pub refused_apart : (own : List ChangeOfRow) (made : Result (List RowChange) ExecFault) (e : ExecFault) → IfErr made IsOfStatement → IsRefused own made e → e ≢ fault.NoMemory
refused_apart own (Err f) e such is = own_isnt_memory e (subst IsOfStatement (sym is) such)
refused_apart own (Ok changes) e such is = λ same. subst (λ (f : ExecFault). IsRefused own (Ok changes) f) same is
