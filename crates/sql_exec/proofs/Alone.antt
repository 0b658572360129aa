-- A row beside no right one is the row.
use Rattle.std.proofs.Common.{◌≡◌, List, [], ◌++◌}
use Rattle.std.proofs.lemmas.List.{append-nil}
use Rattle.geo_base.specs.declared.cell.Cell.{Cell}

pub no_right : (row : List Cell) → row ++ [] ≡ row
no_right row = append-nil row
