-- The cells of a key that was read are a key.
use Rattle.std.proofs.Common.{◌≡◌, ℕ, ◌+◌, ◌≤◌, ◌<◌, Bool, true, false, ◌||◌, None, List, length, position, [], Ok, get_or, nat_eq, refl, sym, subst, zero-add, arith}
use Rattle.std.proofs.lemmas.Bool.{both_ways, or_right, eq-eqb}
use Rattle.std.proofs.lemmas.Bool.Decides.{nat_tests}
use Rattle.std.proofs.lemmas.List.Folds.{list_any_at}
use Rattle.geo_base.specs.declared.limits.TheConstants.{MAX_KEY_CELLS}
use Rattle.geo_base.specs.declared.cell.Cell.{Cell}
use Rattle.geo_base.specs.declared.cell.Cell.TheVariants as cell
use Rattle.geo_base.specs.Cells.{is_null, key_fault}
use Rattle.geo_schema.specs.declared.column.ColumnDef.{ColumnDef}
use Rattle.geo_schema.specs.declared.table.TableDef.{TableDef}
use Rattle.geo_schema.specs.Rows.{is_in, Suits}
use Rattle.geo_schema.specs.Tables.{TakesRows}
use Rattle.geo_schema.specs.laws.Places.{none_found}
use Rattle.row_codec.specs.Places.{AreBytes}
use Rattle.set_codec.specs.inner.Reading.{key_at}
use Rattle.set_codec.specs.laws.Rows.{taken_of, key_tells}

not_null : (key : List ℕ) (column : ColumnDef) (place : ℕ) (c : Cell) → is_in key place ≡ true → Suits key column place c → is_null c ≡ false
not_null key column place c within s = by (is_null c) refl
  where
    by : (b : Bool) → is_null c ≡ b → is_null c ≡ false
    by true e = absurd (both_ways (column.not_null || is_in key place) (s.null e) (or_right column.not_null (is_in key place) within))
    by false e = e

in_itself : (key : List ℕ) (k : ℕ) → k < length key → is_in key (get_or key k 0) ≡ true
in_itself key k lt = list_any_at (λ p. nat_eq p (get_or key k 0)) key k 0 lt (eq-eqb (get_or key k 0) (get_or key k 0) refl)

pub key_is_whole : (table : TableDef) (bytes : List ℕ) (at next : ℕ) (cells : List Cell) → TakesRows table → AreBytes bytes → key_at table bytes at ≡ Ok (cells, next) → key_fault cells ≡ None
unfolding key_fault
key_is_whole table bytes at next cells rules fits e =
    let s = (key_tells bytes table at).found fits (cells, next) e in
    let count : length cells ≡ length table.key = s.0 in
    let none : position is_null cells ≡ None = none_found is_null cells cell.Null (λ k lt.
    not_null table.key _ (get_or table.key (0 + k) 0) (get_or cells k cell.Null) (subst (λ (n : ℕ). is_in table.key (get_or table.key n 0) ≡ true) (sym (zero-add k)) (in_itself table.key k (omega (arith, lt, count)))) (taken_of [] table (λ i. get_or table.key i 0) 0 cells k s.1.taken lt)) in
    let some : 1 ≤ length cells = omega (arith, rules.key.some, count) in
    let few : length cells ≤ MAX_KEY_CELLS = omega (arith, rules.key.few, count) in
    grind (arith, nat_tests, none, some, few)
