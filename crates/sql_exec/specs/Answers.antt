-- What a query answers: the plain program over lists, in which there are no plans, no indexes and no hash tables.
use Rattle.std.specs.Prelude.{Result, List, map}
use Rattle.geo_base.specs.Results.{◌>>=◌}
use Rattle.geo_base.specs.declared.cell.Cell.{Cell}
use Rattle.group_exec.specs.Results.{result_of}
use Rattle.row_source.specs.declared.fault.ExecFault.{ExecFault}
use Rattle.row_source.specs.Matches.{matches_of, pair_cells}
use Rattle.sql_bind.specs.declared.bound.BoundSelect.{BoundSelect}
use Rattle.write_set.specs.Overlay.{Table}

-- what a query answers over rows, or the first fault in the order of work: all rows are tested, and then the lines are
-- made, ordered and cut
unfoldable pub answer_of : BoundSelect → Table → Result (List (List Cell)) ExecFault
answer_of query rows = matches_of query.tables query.tests rows >>= λ pairs. result_of query (map pair_cells pairs)
