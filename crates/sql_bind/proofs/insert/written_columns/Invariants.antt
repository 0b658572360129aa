-- the columns so far are found
use Rattle.std.proofs.Common.{◌≡◌, ◌<◌, [], drop, length}
use Rattle.std.specs.List.{All}
use Rattle.sql_bind.specs.Inserts.{listed_column}
use Rattle.sql_bind.specs.Steps.{each_behind}
use Rattle.sql_bind.proofs.insert.written_columns.Given as goal

abbrev pub invariant-loop-name : goal.invariant-loop-name
invariant-loop-name l =
    record {
      within : All (λ place. place < length l.columns) l.places.items;
      so_far : each_behind (listed_column l.columns) l.places.items (drop l.name-index l.names) ≡ each_behind (listed_column l.columns) [] l.names;
    }
