-- Inner: how the rules of uniques are tested, and how the first that breaks one is found.
use Rattle.std.specs.Prelude.{ℕ, zero, suc, ◌+◌, Bool, not, ◌&&◌, nat_lt, if◌then◌else◌, Option, Some, None, List, length, take}
use Rattle.std.specs.List.{list_all}
use Rattle.geo_base.specs.Order.{text_eq}
use Rattle.geo_schema.specs.declared.limits.TheConstants.{MAX_UNIQUES, MAX_UNIQUE_COLUMNS}
use Rattle.geo_schema.specs.declared.table.TableDef.{TableDef}
use Rattle.geo_schema.specs.declared.unique.UniqueDef.{UniqueDef}
use Rattle.geo_schema.specs.Tables.{table_in}
use Rattle.geo_schema.specs.Uniques.{unique_in}
use Rattle.geo_schema.specs.inner.Tables.{is_name, are_places}

-- the name is not the table's, and none of its indexes'
unfoldable pub is_not_of : List ℕ → TableDef → Bool
is_not_of name table = not (text_eq table.name name) && list_all (λ index. not (text_eq index.name name)) table.indexes

-- the name is no table's, no index's, and none of the uniques'
unfoldable pub is_free : List TableDef → List UniqueDef → List ℕ → Bool
is_free tables uniques name = list_all (is_not_of name) tables && list_all (λ unique. not (text_eq unique.name name)) uniques

-- the unique's table is there, and has its columns
unfoldable pub has_columns : List TableDef → UniqueDef → Bool
has_columns tables unique =
    nat_lt unique.table (length tables) && are_places MAX_UNIQUE_COLUMNS (length (table_in tables unique.table).columns) unique.columns

-- a unique behind others keeps the rules
unfoldable pub is_unique : List TableDef → List UniqueDef → UniqueDef → Bool
is_unique tables before unique =
    nat_lt (length before) MAX_UNIQUES && (is_name unique.name && (is_free tables before unique.name && has_columns tables unique))

-- the unique at the place breaks a rule
abbrev pub is_bad_unique : List TableDef → List UniqueDef → ℕ → Bool
is_bad_unique tables uniques place = not (is_unique tables (take place uniques) (unique_in uniques place))

-- the first of so many places from one on that passes the test
abbrev pub first_place : (ℕ → Bool) → ℕ → ℕ → Option ℕ
first_place test at zero = None
first_place test at (suc count) = if test at then Some at else first_place test (at + 1) count

-- the place of the first unique that breaks a rule
abbrev pub first_bad_unique : List TableDef → List UniqueDef → Option ℕ
first_bad_unique tables uniques = first_place (is_bad_unique tables uniques) 0 (length uniques)
