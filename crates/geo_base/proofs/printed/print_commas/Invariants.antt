use Rattle.std.proofs.Common.{◌≡◌, ◌++◌, take, string_bytes}
use Rattle.std.specs.List.{flat_map}
use Rattle.geo_base.specs.laws.Texts.{next}
use Rattle.geo_base.proofs.printed.print_commas.Given as goal

abbrev pub invariant-loop-item : goal.invariant-loop-item
invariant-loop-item g l = string_bytes l.out ≡ string_bytes l.initial.out ++ flat_map (next g.T.Printed.text) (take l.item-index l.others)
