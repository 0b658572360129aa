use Rattle.std.proofs.Common.{◌≡◌, ◌++◌, take}
use Rattle.std.specs.List.{All}
use Rattle.set_codec.specs.Fits.{HaveCells}
use Rattle.set_codec.specs.Spelling.{candidates_spelling}
use Rattle.set_codec.proofs.writing.write_candidates.Given as goal

abbrev pub invariant-loop-item : goal.invariant-loop-item
invariant-loop-item l = record {
  so_far : l.out.items ≡ l.fn.out.items ++ candidates_spelling l.schema (take l.item-index l.items);
  readable : All HaveCells (take l.item-index l.items);
}
