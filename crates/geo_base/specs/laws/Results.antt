-- Laws: two steps, of which the first went well or failed, and a test that lets one of two ways through.
use Rattle.std.proofs.Common.{◌≡◌, Bool, true, false, cond, Result, Ok, Err, refl, ap, ◌⊎◌, inl, inr}
use Rattle.geo_base.specs.Results.{◌>>=◌}

module _ {E : Type 0} where
  abbrev pub done : {A : Type 0} → A → Result A E
  done x = Ok x

  abbrev pub lost : {A : Type 0} → E → Result A E
  lost e = Err e

  pub ok_is : {A : Type 0} (x y : A) → done x ≡ done y → x ≡ y
  ok_is x y e = cc

  pub fault_is : {A : Type 0} (c d : E) → lost {A = A} c ≡ lost d → c ≡ d
  fault_is c d e = cc

  pub not_done : {A P : Type 0} (x : A) (d : E) → done x ≡ lost d → P
  not_done x d e = absurd cc

  -- two steps that went well
  pub bind_ok : {A B : Type 0} (r : Result A E) (f : A → Result B E) (y : B) → (r >>= f) ≡ Ok y → (x : A) × (r ≡ Ok x) × (f x ≡ Ok y)
  bind_ok (Ok x) f y e = (x, refl, e)
  bind_ok (Err d) f y e = absurd cc

  -- two steps of which one failed
  pub failed : {A B : Type 0} (r : Result A E) (f : A → Result B E) (d : E) → (r >>= f) ≡ Err d → (r ≡ Err d) ⊎ ((x : A) × (r ≡ Ok x) × (f x ≡ Err d))
  failed (Ok x) f d e = inr (x, refl, e)
  failed {A} {B} (Err c) f d e = inl (ap lost (fault_is {A = B} c d e))

  -- a test that lets the second through
  pub passed : {A : Type 0} (b : Bool) (d : E) (r : Result A E) (y : A) → cond b (Err d) r ≡ Ok y → (b ≡ false) × (r ≡ Ok y)
  passed true d r y e = absurd cc
  passed false d r y e = (refl, e)

  -- a test that lets the first through
  pub held : {A : Type 0} (b : Bool) (d : E) (r : Result A E) (y : A) → cond b r (Err d) ≡ Ok y → (b ≡ true) × (r ≡ Ok y)
  held true d r y e = (refl, e)
  held false d r y e = absurd cc

-- a test went one of its two ways
pub chosen : {A : Type 0} (b : Bool) (x y z : A) → cond b x y ≡ z → ((b ≡ true) × (x ≡ z)) ⊎ ((b ≡ false) × (y ≡ z))
chosen true x y z e = inl (refl, e)
chosen false x y z e = inr (refl, e)
