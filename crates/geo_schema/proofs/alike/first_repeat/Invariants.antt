-- no item so far is like an earlier one
use Rattle.std.proofs.Common.{◌≡◌, [], take, drop}
use Rattle.geo_schema.specs.inner.Repeats.{first_repeat_after}
use Rattle.geo_schema.proofs.alike.first_repeat.Given as goal

abbrev pub invariant-loop-place : goal.invariant-loop-place
invariant-loop-place g l =
    first_repeat_after g.T.Alike.same [] l.items ≡ first_repeat_after g.T.Alike.same (take l.place l.items) (drop l.place l.items)
