use Rattle.std.proofs.Common.{◌≡◌, ◌≤◌}
use Rattle.own_log.proofs.Loaded.{HasLoaded}
use Rattle.own_log.proofs.loading.load_entries.Given as goal

-- the batches before the place are read, and the keepers are as they were
abbrev pub invariant-loop-place : goal.invariant-loop-place
invariant-loop-place g l = record {
  loaded : HasLoaded l.schema l.regions l.region (g.L.Keepers.lists l.fn.logs) l.count l.place l.batches.items;
  lists : g.L.Keepers.lists l.logs ≡ g.L.Keepers.lists l.fn.logs;
  width : g.L.Keepers.width l.logs ≡ g.L.Keepers.width l.fn.logs;
  later : g.L.Keepers.faults l.fn.logs ≤ g.L.Keepers.faults l.logs;
}
