-- How many rows a statement may be handed by its plan.
use Rattle.std.specs.Prelude.{ℕ, ◌+◌, Option, Some, None, List, [], ◌∷◌, filter, length}
use Rattle.geo_schema.specs.Schemas.{Tables}
use Rattle.row_source.specs.declared.plan.Access.{Access}
use Rattle.row_source.specs.declared.plan.JoinKind.{JoinKind}
use Rattle.row_source.specs.declared.plan.JoinKind.TheVariants as join
use Rattle.row_source.specs.declared.plan.Plan.{Plan}
use Rattle.row_source.specs.declared.plan.Second.{Second}
use Rattle.row_source.specs.Handing.{reaches}
use Rattle.write_set.specs.Overlay.{Table}

-- how many rows of the table an access reaches
abbrev pub reached : Tables → ℕ → Access → Table → ℕ
reached tables table way rows = length (filter (reaches tables table way) rows)

-- beside so many rows of the left table: one for each in a join by key, and else those that the right access reaches
abbrev pub steps_beside : JoinKind → ℕ → ℕ → ℕ
steps_beside (join.ByKey _) lefts rights = lefts
steps_beside join.Nested lefts rights = rights
steps_beside (join.Hashed _ _) lefts rights = rights

-- the rows of a right table, where the plan has one
abbrev pub second_steps : Tables → ℕ → Option Second → Table → ℕ → ℕ
second_steps tables right None rows lefts = 0
second_steps tables right (Some second) rows lefts = steps_beside second.join lefts (reached tables right second.access rows)

-- the bound on steps by a plan
abbrev pub steps_of : Tables → List ℕ → Plan → Table → ℕ
steps_of tables [] plan rows = 0
steps_of tables (left ∷ []) plan rows = reached tables left plan.first rows
steps_of tables (left ∷ right ∷ _) plan rows =
    reached tables left plan.first rows + second_steps tables right plan.second rows (reached tables left plan.first rows)
