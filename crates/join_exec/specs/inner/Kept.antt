-- What only the bodies of this crate speak of: pairs that are kept one after another.
use Rattle.std.specs.Prelude.{Option, Result, Ok, List, ◌++◌, map}
use Rattle.std.specs.List.{flat_map}
use Rattle.geo_base.specs.Results.{◌>>=◌}
use Rattle.geo_base.specs.declared.cell.Cell.{Cell}
use Rattle.geo_base.specs.declared.row_image.RowImage.{RowImage}
use Rattle.row_source.specs.Matches.{kept_of, pair_cells, paired}
use Rattle.row_source.specs.declared.fault.ExecFault.{ExecFault}
use Rattle.row_source.specs.declared.pair.Pair.{Pair}
use Rattle.sql_expr.specs.declared.expr.Expr.{Expr}

-- a left row, and a right one where there is one
abbrev pub pair_of : RowImage → Option RowImage → Pair
pair_of left right = record { left = left; right = right }

-- pairs that were kept before, and behind them those that the tests keep
unfoldable pub kept_behind : List Expr → List Pair → List Pair → Result (List Pair) ExecFault
kept_behind tests done pairs = kept_of pair_cells tests pairs >>= λ more. Ok (done ++ more)

-- each left row beside the right rows that are found for it
abbrev pub pairs_by : (List Cell → List RowImage) → List RowImage → List Pair
pairs_by find lefts = flat_map (λ left. map (paired left) (find left)) lefts
