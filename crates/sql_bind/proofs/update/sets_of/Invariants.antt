-- what is set so far is bound
use Rattle.std.proofs.Common.{◌≡◌, [], drop}
use Rattle.geo_schema.specs.Schemas.{table_at}
use Rattle.sql_bind.specs.Updates.{set_behind}
use Rattle.sql_bind.specs.Steps.{each_behind}
use Rattle.sql_bind.proofs.update.sets_of.Given as goal

abbrev pub invariant-loop-set : goal.invariant-loop-set
invariant-loop-set l =
    each_behind (set_behind l.schema l.scope (table_at l.schema l.table)) l.bound.items (drop l.set-index l.sets) ≡ each_behind (set_behind l.schema l.scope (table_at l.schema l.table)) [] l.sets
