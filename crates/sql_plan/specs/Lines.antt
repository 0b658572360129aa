-- The lines of a plan, as EXPLAIN prints them.
use Rattle.std.specs.Prelude.{ℕ, Option, Some, None, List, [], ◌∷◌, ◌++◌, codes}
use Rattle.geo_schema.specs.Schemas.{Tables, table_at}
use Rattle.geo_schema.specs.declared.table.TableDef.{TableDef}
use Rattle.geo_schema.specs.Indexes.{index_at}
use Rattle.row_source.specs.declared.plan.Access.{Access}
use Rattle.row_source.specs.declared.plan.Access.TheVariants as access
use Rattle.row_source.specs.declared.plan.JoinKind.{JoinKind}
use Rattle.row_source.specs.declared.plan.JoinKind.TheVariants as join
use Rattle.row_source.specs.declared.plan.Plan.{Plan}
use Rattle.row_source.specs.declared.plan.Second.{Second}

-- an access in words; an index by its name
abbrev pub access_words : TableDef → Access → List ℕ
access_words table (access.Point _) = codes "point"
access_words table (access.Range _) = codes "key range"
access_words table (access.Index place _) = codes "index " ++ (index_at table place).name
access_words table access.Scan = codes "scan"

-- a join in words
abbrev pub join_words : JoinKind → List ℕ
join_words join.Nested = codes ", join nested"
join_words (join.ByKey _) = codes ", join by key"
join_words (join.Hashed _ _) = codes ", join hashed"

-- a table's own name, and how its rows are reached
abbrev pub access_line : TableDef → Access → List ℕ
access_line table way = table.name ++ codes " " ++ access_words table way

-- the same of the second table, and how it is joined
abbrev pub second_line : TableDef → Second → List ℕ
second_line table second = access_line table second.access ++ join_words second.join

-- the line of the second table, where there is one
abbrev pub second_lines : TableDef → Option Second → List (List ℕ)
second_lines table (Some second) = second_line table second ∷ []
second_lines table None = []

-- the lines of a plan, one for each table
abbrev pub lines_of : Tables → List ℕ → Plan → List (List ℕ)
lines_of tables [] plan = []
lines_of tables (left ∷ []) plan = access_line (table_at tables left) plan.first ∷ []
lines_of tables (left ∷ right ∷ _) plan = access_line (table_at tables left) plan.first ∷ second_lines (table_at tables right) plan.second
