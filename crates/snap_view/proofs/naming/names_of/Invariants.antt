use Rattle.std.proofs.Common.{◌≡◌, map, take}
use Rattle.row_source.specs.Handing.{row_named}
use Rattle.snap_view.proofs.naming.names_of.Given as goal

-- the keys so far are named
abbrev pub invariant-loop-key : goal.invariant-loop-key
invariant-loop-key l = l.names.items ≡ map (λ key. row_named l.table key.now) (take l.key-index l.keys)
