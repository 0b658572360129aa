-- The places of batches in an inbox.
use Rattle.std.proofs.Common.{◌≡◌, ℕ, Bool, ◌&&◌, ◌==◌, refl, ap₂, ◌∙◌, arith}
use Rattle.std.specs.declared.cmp.Ordering.{Ordering}
use Rattle.std.specs.declared.cmp.Ordering.TheVariants.{Less, Equal, Greater}
use Rattle.std.specs.Ordering.{is_eq, nat_cmp, ordering_then}
use Rattle.std.proofs.lemmas.Bool.Decides.{nat_tests}
use Rattle.geo_world.specs.inner.Arrivals.{place_cmp}

is_then : (o p : Ordering) → is_eq (ordering_then o p) ≡ (is_eq o && is_eq p)
is_then Less p = refl
is_then Equal p = refl
is_then Greater p = refl

is_same : (x y : ℕ) → is_eq (nat_cmp x y) ≡ (x == y)
is_same x y = grind (arith, nat_tests)

-- places are one where their regions and their epochs are
pub same_place : (a b c d : ℕ) → is_eq (place_cmp (a, b) (c, d)) ≡ ((a == c) && (b == d))
same_place a b c d = is_then (nat_cmp a c) (nat_cmp b d) ∙ ap₂ (λ (x y : Bool). x && y) (is_same a c) (is_same b d)
