use Rattle.std.proofs.Common.{◌≡◌, true, not, ap, refl}
use Rattle.std.specs.Ordering.{is_gt}
use Rattle.std.specs.Cmp.{IsTotalOrder}
use Rattle.std.specs.declared.cmp.Ordering.{Ordering}
use Rattle.std.specs.declared.cmp.Ordering.TheVariants.{Less}
use Rattle.std.proofs.lemmas.Bool.{not-true}
use Rattle.page_map.specs.laws.Borders.{border_from_order}
use Rattle.page_map.specs.laws.Orders.{under_by}
use Rattle.map_tests.proofs.borders.place_behind.Goals as goal

-- a key below one that isn't above another isn't above it either
falls : {K : Type 0} (R : K → K → Ordering) (total : IsTotalOrder R) (key a b : K) → R a b ≡ Less → not (is_gt (R b key)) ≡ true → not (is_gt (R a key)) ≡ true
falls R total key a b less h = ap (λ o. not (is_gt o)) (under_by R total key b a (R b key) refl (not-true (is_gt (R b key)) h) less)

pub place_where-requires : goal.place_where-requires
place_where-requires g c =
    border_from_order g.K.Ord.cmp (λ other. not (is_gt (g.K.Ord.cmp other c.args.key.now))) (falls g.K.Ord.cmp g.met.K.Ord.total c.args.key.now) c.args.map.now c.rises.ensures
