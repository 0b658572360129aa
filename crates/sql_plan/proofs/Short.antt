-- Tables that are shown, and how short the lines of plans are.
use Rattle.std.proofs.Common.{◌≡◌, ℕ, ◌<◌, ◌≤◌, ◌+◌, ◌++◌, length, codes, refl, arith, length-append}
use Rattle.geo_base.specs.declared.limits.TheConstants.{MAX_NAME_BYTES, MAX_TABLES, MAX_TEXT_BYTES}
use Rattle.geo_schema.specs.declared.limits.TheConstants.{FIRST_HIDDEN}
use Rattle.geo_schema.specs.Schemas.{IsSchema, IsTableNo, Tables}
use Rattle.geo_schema.specs.Tables.{IsTable}
use Rattle.geo_schema.specs.declared.table.TableDef.{TableDef}
use Rattle.geo_schema.specs.laws.Numbers.{shown_is}
use Rattle.row_source.specs.Handing.{IsAccessTo}
use Rattle.geo_schema.specs.Indexes.{index_at, no_index}
use Rattle.row_source.specs.declared.plan.Access.{Access}
use Rattle.row_source.specs.declared.plan.Access.TheVariants as access
use Rattle.row_source.specs.declared.plan.JoinKind.{JoinKind}
use Rattle.row_source.specs.declared.plan.JoinKind.TheVariants as join
use Rattle.row_source.specs.declared.plan.Second.{Second}
use Rattle.sql_plan.specs.Lines.{access_line, access_words, join_words, second_line}

-- ---- lines

name_few : (table : TableDef) → IsTable table → length table.name ≤ MAX_NAME_BYTES
name_few table h = let name = h.name in name.few

index_few : (table : TableDef) (place : ℕ) → IsTable table → place < length table.indexes → length (index_at table place).name ≤ MAX_NAME_BYTES
index_few table place h within = let index = h.indexes place no_index within in let name = index.name in name.few

words_few : (table : TableDef) (way : Access) → IsTable table → IsAccessTo table way → length (access_words table way) ≤ 6 + MAX_NAME_BYTES
words_few table (access.Point _) h fits = let n : length (codes "point") ≡ 5 = refl in omega arith
words_few table (access.Range _) h fits = let n : length (codes "key range") ≡ 9 = refl in omega arith
words_few table (access.Index place _) h fits =
    let n : length (codes "index ") ≡ 6 = refl in
    let m : length (index_at table place).name ≤ MAX_NAME_BYTES = index_few table place h fits in
    omega (arith, length-append (codes "index ") (index_at table place).name)
words_few table access.Scan h fits = let n : length (codes "scan") ≡ 4 = refl in omega arith

join_few : (way : JoinKind) → length (join_words way) ≤ 13
join_few join.Nested = let n : length (codes ", join nested") ≡ 13 = refl in omega arith
join_few (join.ByKey _) = let n : length (codes ", join by key") ≡ 13 = refl in omega arith
join_few (join.Hashed _ _) = let n : length (codes ", join hashed") ≡ 13 = refl in omega arith

line_few : (table : TableDef) (way : Access) → IsTable table → IsAccessTo table way → length (access_line table way) ≤ 7 + (MAX_NAME_BYTES + MAX_NAME_BYTES)
line_few table way h fits =
    let n : length (codes " ") ≡ 1 = refl in
    let a : length table.name ≤ MAX_NAME_BYTES = name_few table h in
    let b : length (access_words table way) ≤ 6 + MAX_NAME_BYTES = words_few table way h fits in
    omega (arith, length-append (table.name ++ codes " ") (access_words table way), length-append table.name (codes " "))

-- the line of an access is short enough for a text
pub access_few : (table : TableDef) (way : Access) → IsTable table → IsAccessTo table way → length (access_line table way) ≤ MAX_TEXT_BYTES
access_few table way h fits = let a : length (access_line table way) ≤ 7 + (MAX_NAME_BYTES + MAX_NAME_BYTES) = line_few table way h fits in omega arith

-- so is that of a second table
pub second_few : (table : TableDef) (second : Second) → IsTable table → IsAccessTo table second.access → length (second_line table second) ≤ MAX_TEXT_BYTES
second_few table second h fits =
    let a : length (access_line table second.access) ≤ 7 + (MAX_NAME_BYTES + MAX_NAME_BYTES) = line_few table second.access h fits in
    let b : length (join_words second.join) ≤ 13 = join_few second.join in
    omega (arith, length-append (access_line table second.access) (join_words second.join))

-- ---- tables

pub has_number : (tables : Tables) (number : ℕ) → IsSchema tables → number < length tables.shown → IsTableNo tables number
has_number tables number schema within = shown_is tables number schema within

pub low_number : (tables : Tables) (number : ℕ) → IsSchema tables → number < length tables.shown → number < FIRST_HIDDEN
low_number tables number schema within =
    let few : length tables.shown ≤ MAX_TABLES = schema.shown.few in
    omega arith
