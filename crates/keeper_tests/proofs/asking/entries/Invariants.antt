use Rattle.std.proofs.Common.{◌≡◌, length}
use Rattle.std.specs.Prelude.{IfSome}
use Rattle.geo_io.specs.Told.{list_of}
use Rattle.keeper_tests.proofs.asking.entries.Given as goal

abbrev pub invariant-loop-entry : goal.invariant-loop-entry
invariant-loop-entry g l = record {
  width : g.K.Keepers.width l.keepers ≡ g.K.Keepers.width l.fn.keepers;
  count : IfSome (g.K.Keepers.lists l.keepers) (λ all. l.count ≡ length (list_of all l.region));
}
