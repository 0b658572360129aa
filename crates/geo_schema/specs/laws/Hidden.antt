-- Laws: a hidden table has what rows need.
use Rattle.std.proofs.Common.{◌≡◌, ℕ, ◌+◌, ◌<◌, ◌≤◌, List, ◌++◌, length, get_or, arith}
use Rattle.std.specs.List.{All, range_with_len}
use Rattle.std.proofs.lemmas.Bool.{ne_eqb}
use Rattle.std.proofs.lemmas.List.{length-map, length-append, get_or-map}
use Rattle.std.proofs.lemmas.List.Elements.{All-append}
use Rattle.std.proofs.lemmas.List.FromFn.{length-range_with_len, get_or-range_with_len}
use Rattle.geo_base.specs.declared.limits.TheConstants.{MAX_KEY_CELLS}
use Rattle.geo_schema.specs.declared.column.ColumnDef.{ColumnDef}
use Rattle.geo_schema.specs.declared.table.TableDef.{TableDef}
use Rattle.geo_schema.specs.declared.unique.UniqueDef.{UniqueDef}
use Rattle.geo_schema.specs.Tables.{IsColumn, ArePlaces, TakesRows, IsTable, no_table, no_column, table_in}
use Rattle.geo_schema.specs.Uniques.{HasColumns, hidden_column, hidden_columns, hidden_table}

-- columns at places of columns by the rules are by the rules
columns_are : (columns : List ColumnDef) (places : List ℕ) → All IsColumn columns → All (λ place. place < length columns) places → All IsColumn (hidden_columns columns places)
columns_are columns places rules within k d lt =
    let count = length-map places (λ (place : ℕ). hidden_column (get_or columns place no_column)) in
    let inside : k < length places = omega arith in
    let place : ℕ = get_or places k 0 in
    let there : IsColumn (get_or columns place no_column) = rules place no_column (within k 0 inside) in
    rw (get_or-map (λ (p : ℕ). hidden_column (get_or columns p no_column)) places k 0 d inside) (record { name = there.name; takes = there.takes })

-- the first places of a table are a key
first_are_places : (count columns : ℕ) → 1 ≤ count → count ≤ MAX_KEY_CELLS → count ≤ columns → ArePlaces MAX_KEY_CELLS columns (range_with_len 0 count)
first_are_places count columns some few within =
    let whole = length-range_with_len 0 count in
    record {
      some = rw whole some;
      few = rw whole few;
      within = λ k d lt.
          let low : k < count = omega arith in
          rw (get_or-range_with_len 0 count k d low) (omega arith);
      apart = λ i j d lt end.
          let high : j < count = omega arith in
          rw (get_or-range_with_len 0 count i d (omega arith), get_or-range_with_len 0 count j d high) (ne_eqb (0 + i) (0 + j) (λ same. omega arith));
    }

pub hidden_takes_rows : (tables : List TableDef) (unique : UniqueDef) → All IsTable tables → HasColumns tables unique → TakesRows (hidden_table tables unique)
hidden_takes_rows tables unique rules has =
    let table : TableDef = table_in tables unique.table in
    let good : IsTable table = rules unique.table no_table has.table in
    let mine = hidden_columns table.columns unique.columns in
    let keys = hidden_columns table.columns table.key in
    let mine_count : length mine ≡ length unique.columns = length-map unique.columns (λ (place : ℕ). hidden_column (get_or table.columns place no_column)) in
    let keys_count : length keys ≡ length table.key = length-map table.key (λ (place : ℕ). hidden_column (get_or table.columns place no_column)) in
    let count : length (mine ++ keys) ≡ length mine + length keys = length-append mine keys in
    let some : 1 ≤ length unique.columns = has.columns.some in
    let few : length unique.columns ≤ 4 = has.columns.few in
    let few_keys : length table.key ≤ 4 = good.rows.key.few in
    record {
      some = omega arith;
      few = omega arith;
      columns = All-append IsColumn mine keys (columns_are table.columns unique.columns good.rows.columns has.columns.within) (columns_are table.columns table.key good.rows.columns good.rows.key.within);
      key = first_are_places (length unique.columns) (length (mine ++ keys)) some few (omega arith);
    }
