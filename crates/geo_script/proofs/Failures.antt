-- What steps answered where the whole of them failed.
use Rattle.std.proofs.Common.{◌≡◌, Bool, true, false, cond, Option, Some, None, Result, Ok, Err, refl, inl, inr, ◌⊎◌}
use Rattle.std.specs.Option.{ok_or}
use Rattle.geo_base.specs.Results.{◌>>=◌}

pub or_err : {A E : Type 0} (o : Option A) (e k : E) → ok_or o e ≡ Err k → (o ≡ None) × (e ≡ k)
or_err None e k is = (refl, cc)
or_err (Some x) e k is = cc

pub option_err : {A B E : Type 0} (o : Option A) (e : E) (next : A → Result B E) (k : E) → (ok_or o e >>= next) ≡ Err k →
    ((o ≡ None) × (e ≡ k)) ⊎ ((x : A) × (o ≡ Some x) × (next x ≡ Err k))
option_err None e next k is = inl (refl, cc)
option_err (Some x) e next k is = inr (x, refl, is)

pub if_err : {A E : Type 0} (b : Bool) (x : A) (e k : E) → cond b (Ok x) (Err e) ≡ Err k → (b ≡ false) × (e ≡ k)
if_err true x e k is = cc
if_err false x e k is = (refl, cc)

-- the step that is taken where the test holds, or where it doesn't
pub when_err : {A E : Type 0} (b : Bool) (r : Result A E) (e k : E) → cond b r (Err e) ≡ Err k → ((b ≡ false) × (e ≡ k)) ⊎ ((b ≡ true) × (r ≡ Err k))
when_err true r e k is = inr (refl, is)
when_err false r e k is = inl (refl, cc)

pub unless_err : {A E : Type 0} (b : Bool) (r : Result A E) (e k : E) → cond b (Err e) r ≡ Err k → ((b ≡ true) × (e ≡ k)) ⊎ ((b ≡ false) × (r ≡ Err k))
unless_err true r e k is = inl (refl, cc)
unless_err false r e k is = inr (refl, is)

pub no_both : {A E : Type 0} (r : Result A E) (x : A) (k : E) → r ≡ Ok x → r ≡ Err k → ⊥
no_both r x k good bad = cc

pub no_option : {A : Type 0} (o : Option A) (x : A) → o ≡ None → o ≡ Some x → ⊥
no_option o x none some = cc

pub err_same : {A E : Type 0} (r : Result A E) (a b : E) → r ≡ Err a → r ≡ Err b → a ≡ b
err_same r a b one other = cc
