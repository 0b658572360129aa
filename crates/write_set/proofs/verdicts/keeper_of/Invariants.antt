use Rattle.std.proofs.Common.{◌≡◌, None, drop}
use Rattle.std.specs.Option.{option_copied}
use Rattle.write_set.specs.inner.Entrants.{best_of}
use Rattle.write_set.proofs.verdicts.keeper_of.Given as goal

-- with the candidates that follow, the best so far ends at the best of all
abbrev pub invariant-loop-d : goal.invariant-loop-d
invariant-loop-d l = best_of (option_copied l.best) (drop l.d-index l.fresh) l.row ≡ best_of None l.fresh l.row
