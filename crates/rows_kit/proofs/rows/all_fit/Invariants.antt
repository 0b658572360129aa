-- each row so far fits the tables
use Rattle.std.proofs.Common.{take}
use Rattle.std.specs.List.{All}
use Rattle.row_source.specs.Lists.{table_of}
use Rattle.row_source.specs.Sources.{Fits}
use Rattle.rows_kit.proofs.rows.all_fit.Given as goal

abbrev pub invariant-loop-at : goal.invariant-loop-at
invariant-loop-at l = All (Fits l.schema) (table_of (take l.at-index l.rows))
