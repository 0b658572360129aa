-- the values so far are bound
use Rattle.std.proofs.Common.{◌≡◌, [], drop, length}
use Rattle.sql_bind.specs.Inserts.{next_value}
use Rattle.sql_bind.specs.Steps.{each_behind}
use Rattle.sql_bind.proofs.insert.values_of.Given as goal

abbrev pub invariant-loop-place : goal.invariant-loop-place
invariant-loop-place l =
    record {
      count : length l.bound.items ≡ l.place;
      so_far : each_behind (next_value l.schema l.scope l.types) l.bound.items (drop l.place l.values) ≡ each_behind (next_value l.schema l.scope l.types) [] l.values;
    }
