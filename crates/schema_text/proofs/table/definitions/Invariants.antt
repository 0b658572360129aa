use Rattle.std.proofs.Common.{◌≡◌, ◌++◌, map}
use Rattle.std.specs.Vec.Iter.{into_iter_items}
use Rattle.schema_text.proofs.table.definitions.Given as goal

abbrev pub invariant-loop-column : goal.invariant-loop-column
invariant-loop-column l =
    map (λ column. column.def) l.fn.columns.items ≡ l.defs.items ++ map (λ column. column.def) (into_iter_items l.column-iterator)
