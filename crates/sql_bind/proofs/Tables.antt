-- The tables of a statement: that they are shown, and the types of their columns.
use Rattle.std.proofs.Common.{◌≡◌, ℕ, ◌<◌, ◌≤◌, true, false, Option, Some, None, List, ◌++◌, length, Result, Ok, Err, refl, ap, subst, arith}
use Rattle.std.specs.Prelude.{ok_or, is_some}
use Rattle.std.specs.List.{All}
use Rattle.std.proofs.lemmas.List.{append-nil}
use Rattle.std.proofs.lemmas.List.Elements.{All-nil, All-cons}
use Rattle.std.proofs.lemmas.List.Quantifiers.{position-Some}
use Rattle.geo_base.specs.Order.{text_eq}
use Rattle.geo_base.specs.laws.Results.{ok_is, bind_ok}
use Rattle.geo_schema.specs.Schemas.{Tables, number_of}
use Rattle.geo_schema.specs.Tables.{no_table}
use Rattle.sql_ast.specs.declared.select.JoinRef.{JoinRef}
use Rattle.sql_ast.specs.declared.select.SelectStmt.{SelectStmt}
use Rattle.sql_ast.specs.declared.select.TableRef.{TableRef}
use Rattle.sql_expr.specs.declared.value_type.ValueType.{ValueType}
use Rattle.sql_bind.specs.declared.fault.BindFault.{BindFault}
use Rattle.sql_bind.specs.declared.fault.BindFault.TheVariants as fault
use Rattle.sql_bind.specs.declared.scope.Known.{Known}
use Rattle.sql_bind.specs.declared.scope.Scope.{Scope}
use Rattle.sql_bind.specs.Names.{table_named, known_name, known_of, everywhere, columns_of, column_types}
use Rattle.sql_bind.specs.Selects.{second_of, different, from_of, numbers_in, numbers_of}
use Rattle.sql_bind.specs.Sound.{types_of}
use Rattle.sql_bind.specs.Steps.{◌>>◌}
use Rattle.sql_bind.proofs.Lists.{All-one}
use Rattle.sql_bind.proofs.Typing.{scope_types}

module _ (tables : Tables) where
  -- the number is of a table that is shown
  abbrev pub IsShown : ℕ → Type 0
  IsShown number = number < length tables.shown

  pub named_shown : (name : List ℕ) (number : ℕ) → table_named tables name ≡ Ok number → IsShown number
  named_shown name number h = by (number_of tables.shown name) refl h
    where
      by : (o : Option ℕ) → number_of tables.shown name ≡ o → (let r : Result ℕ BindFault = ok_or o (fault.NoTable name) in r ≡ Ok number) → IsShown number
      by None is e = absurd cc
      by (Some n) is e = subst IsShown (ok_is n number e) (position-Some (λ t. text_eq t.name name) tables.shown n no_table is).0

  known_shown : (table : TableRef) (known : Known) → known_of tables table ≡ Ok known → IsShown known.table
  unfolding known_of
  known_shown table known h =
      let p = bind_ok (table_named tables table.name) _ known h in
      subst (λ (k : Known). IsShown k.table) (ok_is (record { name = known_name table; table = p.0 }) known p.2) (named_shown table.name p.0 p.1)

  joined_shown : (join : Option JoinRef) (right : Option Known) → second_of tables join ≡ Ok right → (is_some right ≡ is_some join) × All IsShown (numbers_in right)
  joined_shown None right h = let P : Option Known → Type 0 = λ r. (is_some r ≡ false) × All IsShown (numbers_in r) in subst P (ok_is None right h) (refl, All-nil IsShown)
  joined_shown (Some join) right h =
      let p = bind_ok (known_of tables join.table) _ right h in
      let P : Option Known → Type 0 = λ r. (is_some r ≡ true) × All IsShown (numbers_in r) in
      subst P (ok_is (Some p.0) right p.2) (refl, All-one IsShown p.0.table (known_shown join.table p.0 p.1))

  -- the scope of a query has its tables, which are shown, and each column may stand there
  pub record IsFrom (select : SelectStmt) (scope : Scope) : Type 0 where
    pub left : Known
    pub right : Option Known
    pub is : everywhere left right ≡ scope
    pub left_shown : IsShown left.table
    pub right_shown : All IsShown (numbers_in right)
    pub joined : is_some right ≡ is_some select.right

  went : (u : Result (Unit {0}) BindFault) (x scope : Scope) → (let r : Result Scope BindFault = u >> Ok x in r ≡ Ok scope) → x ≡ scope
  went (Ok _) x scope h = ok_is x scope h
  went (Err e) x scope h = absurd cc

  pub is_from : (select : SelectStmt) (scope : Scope) → from_of tables select ≡ Ok scope → IsFrom select scope
  unfolding from_of
  is_from select scope h =
      let p = bind_ok (known_of tables select.left) _ scope h in
      let q = bind_ok (second_of tables select.right) _ scope p.2 in
      let r = joined_shown select.right q.0 q.1 in
      record {
        left = p.0;
        right = q.0;
        is = went (different p.0 q.0) (everywhere p.0 q.0) scope q.2;
        left_shown = known_shown select.left p.0 p.1;
        right_shown = r.1;
        joined = r.0;
      }

  pub numbers_shown : (select : SelectStmt) (scope : Scope) → IsFrom select scope → All IsShown (numbers_of scope)
  numbers_shown select scope f = subst (λ (s : Scope). All IsShown (numbers_of s)) f.is (All-cons IsShown f.left.table (numbers_in f.right) f.left_shown f.right_shown)

  -- the types of the columns of the tables by their numbers
  pub same_types : (left right : Option Known) (group : Option (List ℕ)) → types_of tables (numbers_in left ++ numbers_in right) ≡ scope_types tables (record { left = left; right = right; group = group })
  same_types None None group = refl
  same_types None (Some r) group = append-nil (column_types (columns_of tables r.table))
  same_types (Some l) None group = refl
  same_types (Some l) (Some r) group = ap (λ (ts : List ValueType). column_types (columns_of tables l.table) ++ ts) (append-nil (column_types (columns_of tables r.table)))

pub number_count : (known : Option Known) → length (numbers_in known) ≤ 1
number_count None = omega arith
number_count (Some k) = omega arith
