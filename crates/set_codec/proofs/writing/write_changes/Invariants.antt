use Rattle.std.proofs.Common.{◌≡◌, ◌++◌, take}
use Rattle.std.specs.List.{All}
use Rattle.set_codec.specs.Fits.{HasCells}
use Rattle.set_codec.specs.Spelling.{changes_spelling}
use Rattle.set_codec.proofs.writing.write_changes.Given as goal

abbrev pub invariant-loop-row : goal.invariant-loop-row
invariant-loop-row l = record {
  so_far : l.out.items ≡ l.fn.out.items ++ changes_spelling l.schema (take l.row-index l.changes);
  readable : All HasCells (take l.row-index l.changes);
}
