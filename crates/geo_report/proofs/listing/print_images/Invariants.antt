use Rattle.std.proofs.Common.{◌≡◌, ◌++◌, map, take, string_bytes}
use Rattle.geo_report.specs.Words.{row_lines}
use Rattle.geo_report.proofs.listing.print_images.Given as goal

abbrev pub invariant-loop-image : goal.invariant-loop-image
invariant-loop-image l = string_bytes l.out ≡ string_bytes l.initial.out ++ row_lines (map (λ image. image.now) (take l.image-index l.images))
