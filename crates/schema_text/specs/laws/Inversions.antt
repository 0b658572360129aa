-- What steps answered where the whole of them answered something.
use Rattle.std.proofs.Common.{◌≡◌, Bool, true, false, cond, Option, Some, None, Result, Ok, Err, refl}
use Rattle.std.specs.Option.{option_map, option_and_then, ok_or}

pub or_ok : {A E : Type 0} (o : Option A) (e : E) (x : A) → ok_or o e ≡ Ok x → o ≡ Some x
or_ok None e x is = cc
or_ok (Some y) e x is = cc

pub then_some : {A B : Type 0} (f : A → Option B) (o : Option A) (y : B) → option_and_then f o ≡ Some y → (x : A) × (o ≡ Some x) × (f x ≡ Some y)
then_some f None y is = cc
then_some f (Some x) y is = (x, refl, is)

pub map_some : {A B : Type 0} (f : A → B) (o : Option A) (y : B) → option_map f o ≡ Some y → (x : A) × (o ≡ Some x) × (f x ≡ y)
map_some f None y is = cc
map_some f (Some x) y is = (x, refl, cc)

pub if_ok : {A E : Type 0} (b : Bool) (x y : A) (e : E) → cond b (Ok x) (Err e) ≡ Ok y → (b ≡ true) × (x ≡ y)
if_ok true x y e is = (refl, cc)
if_ok false x y e is = cc

pub unless_ok : {A E : Type 0} (b : Bool) (x y : A) (e : E) → cond b (Err e) (Ok x) ≡ Ok y → (b ≡ false) × (x ≡ y)
unless_ok true x y e is = cc
unless_ok false x y e is = (refl, cc)

-- the step that is taken where the test holds, or where it doesn't
pub when_ok : {A E : Type 0} (b : Bool) (r : Result A E) (y : A) (e : E) → cond b r (Err e) ≡ Ok y → (b ≡ true) × (r ≡ Ok y)
when_ok true r y e is = (refl, is)
when_ok false r y e is = cc

pub if_some : {A : Type 0} (b : Bool) (x y : A) → cond b (Some x) None ≡ Some y → (b ≡ true) × (x ≡ y)
if_some true x y is = (refl, cc)
if_some false x y is = cc

pub when_some : {A : Type 0} (b : Bool) (o : Option A) (y : A) → cond b o None ≡ Some y → (b ≡ true) × (o ≡ Some y)
when_some true o y is = (refl, is)
when_some false o y is = cc

pub some_same : {A : Type 0} {x y : A} → Some x ≡ Some y → x ≡ y
some_same is = cc
