use Rattle.std.proofs.Common.{◌≡◌, ℕ, subst, arith}
use Rattle.std.specs.List.{range_with_len}
use Rattle.sql_bind.proofs.Places.{all_below, one_more}
use Rattle.sql_bind.proofs.insert.all_columns.Goals as goal

pub loop-place-preserved : goal.loop-place-preserved
loop-place-preserved c =
    rw c.in_ok-push.ensures.items
    (one_more c.loop-place.places.items c.loop-place.place c.loop-place.invariant)

pub returns-clause-places : goal.returns-clause-places
returns-clause-places c =
    let whole : c.loop-place.place ≡ c.args.count = omega arith in
    subst (λ (n : ℕ). c.loop-place.places.items ≡ range_with_len 0 n) whole c.loop-place.invariant

pub returns-clause-within : goal.returns-clause-within
returns-clause-within c =
    let whole : c.loop-place.place ≡ c.args.count = omega arith in
    all_below c.loop-place.places.items c.args.count (subst (λ (n : ℕ). c.loop-place.places.items ≡ range_with_len 0 n) whole c.loop-place.invariant)
