use Rattle.std.proofs.Common.{◌≡◌, map, take}
use Rattle.std.specs.List.{filter}
use Rattle.row_source.specs.Lists.{table_of}
use Rattle.row_source.specs.Sources.{images, is_by_key}
use Rattle.row_source.proofs.list_source.images_by_key.Given as goal

abbrev pub invariant-loop-at : goal.invariant-loop-at
invariant-loop-at l = map (λ image. image.now) l.found.items ≡ images (filter (is_by_key l.table l.range) (table_of (take l.at-index l.rows)))
