-- A whole number is an i64 exactly where it fits one.
use Rattle.std.proofs.Common.{◌≡◌, ◌^◌, Bool, true, false, if◌then◌else◌, Ok, Err, refl, sym, ap, subst, ◌∙◌, to_z, of_z}
use Rattle.std.specs.Prelude.{ℤ, pos, negsuc, FitsSigned}
use Rattle.std.specs.Int.{w64}
use Rattle.std.proofs.lemmas.Bool.Decides.{Decides-ltb}
use Rattle.std.proofs.lemmas.Int.{to_z-of_z}
use Rattle.geo_base.specs.declared.cell.Cell.TheVariants.{Int}
use Rattle.sql_expr.specs.declared.expr.Op.{Op}
use Rattle.sql_expr.specs.declared.fault.EvalFault.TheVariants.{Overflow, DivideByZero}
use Rattle.sql_expr.specs.Values.{ValueOrFault, is_i64, number, whole, divides_by_zero, calculated}

pub in_i64 : (z : ℤ) → FitsSigned w64 z → is_i64 z ≡ true
unfolding is_i64
in_i64 (pos n) h = (Decides-ltb n (2 ^ 63)).1 h.sfits
in_i64 (negsuc n) h = (Decides-ltb n (2 ^ 63)).1 h.sfits

of_i64 : (z : ℤ) → is_i64 z ≡ true → FitsSigned w64 z
unfolding is_i64
of_i64 (pos n) e = record { sfits = (Decides-ltb n (2 ^ 63)).0 e }
of_i64 (negsuc n) e = record { sfits = (Decides-ltb n (2 ^ 63)).0 e }

unless : {P : Type 0} (b : Bool) → (b ≡ true → P) → ¬ P → b ≡ false
unless true f h = absurd (h (f refl))
unless false f h = refl

pub out_of_i64 : (z : ℤ) → ¬ (FitsSigned w64 z) → is_i64 z ≡ false
out_of_i64 z h = unless (is_i64 z) (of_i64 z) h

-- what an operator gives, as the code holds it
pub calculated_fits : (o : Op) (x y z : ℤ) → divides_by_zero o y ≡ false → FitsSigned w64 (whole o x y) × (z ≡ whole o x y) →
    calculated o x y ≡ Ok (Int (to_z w64 (of_z w64 z)))
unfolding calculated
calculated_fits o x y z d h =
    ap (λ (b : Bool). let v : ValueOrFault = if b then Err DivideByZero else number (whole o x y) in v) d
    ∙ ap (λ (b : Bool). let v : ValueOrFault = if b then Ok (Int (whole o x y)) else Err Overflow in v) (in_i64 (whole o x y) h.0)
    ∙ ap (λ (w : ℤ). let v : ValueOrFault = Ok (Int w) in v) (sym h.1 ∙ sym (to_z-of_z w64 z (subst (FitsSigned w64) (sym h.1) h.0)))
