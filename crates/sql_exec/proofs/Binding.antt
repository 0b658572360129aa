-- Steps behind one another.
use Rattle.std.proofs.Common.{◌≡◌, Result, Ok, Err, refl}
use Rattle.geo_base.specs.Results.{◌>>=◌}

-- a step that only answers again changes nothing
pub same_again : {A E : Type 0} (r : Result A E) → (r >>= λ x. Ok x) ≡ r
same_again (Ok x) = refl
same_again (Err e) = refl

-- two steps behind one are one step behind it
pub both_behind : {A B C E : Type 0} (r : Result A E) (f : A → B) (g : B → Result C E) → (r >>= λ x. g (f x)) ≡ ((r >>= λ x. Ok (f x)) >>= g)
both_behind (Ok x) f g = refl
both_behind (Err e) f g = refl

-- steps that give the same behind one give the same
pub same_behind : {A B E : Type 0} (r : Result A E) (f g : A → Result B E) → ((x : A) → f x ≡ g x) → (r >>= f) ≡ (r >>= g)
same_behind (Ok x) f g same = same x
same_behind (Err e) f g same = refl
