-- Whole sums, and that a whole number is an i64 exactly where it fits one.
use Rattle.std.proofs.Common.{◌≡◌, ℕ, ◌+◌, ◌<◌, ◌^◌, Bool, true, false, nat_eq, List, [], ◌∷◌, drop, get_or, length, map, Result, Ok, refl, sym, ap, subst, ◌∙◌, arith, ◌+ℤ◌, to_z, of_z}
use denote.Ref.{Bor}
use Rattle.std.specs.Prelude.{ℤ, pos, negsuc, FitsSigned}
use Rattle.std.specs.Int.{w64}
use Rattle.std.proofs.lemmas.Bool.Decides.{Decides-ltb}
use Rattle.std.proofs.lemmas.Int.{ints, to_z-of_z}
use Rattle.std.proofs.lemmas.List.{drop_more}
use Rattle.geo_base.specs.declared.cell.Cell.{Cell}
use Rattle.geo_base.specs.declared.cell.Cell.TheVariants.{Int}
use Rattle.row_source.specs.declared.fault.ExecFault.{ExecFault}
use Rattle.sql_expr.specs.Values.{is_i64}
use Rattle.group_exec.specs.Groups.{integer, sum_cell, sum_of}

pub in_i64 : (z : ℤ) → FitsSigned w64 z → is_i64 z ≡ true
unfolding is_i64
in_i64 (pos n) h = (Decides-ltb n (2 ^ 63)).1 h.sfits
in_i64 (negsuc n) h = (Decides-ltb n (2 ^ 63)).1 h.sfits

of_i64 : (z : ℤ) → is_i64 z ≡ true → FitsSigned w64 z
unfolding is_i64
of_i64 (pos n) e = record { sfits = (Decides-ltb n (2 ^ 63)).0 e }
of_i64 (negsuc n) e = record { sfits = (Decides-ltb n (2 ^ 63)).0 e }

unless : {P : Type 0} (b : Bool) → (b ≡ true → P) → ¬ P → b ≡ false
unless true f h = absurd (h (f refl))
unless false f h = refl

pub out_of_i64 : (z : ℤ) → ¬ (FitsSigned w64 z) → is_i64 z ≡ false
out_of_i64 z h = unless (is_i64 z) (of_i64 z) h

-- the sum of the cells from a place on
pub sum_more : (cells : List (Bor Cell)) (i : ℕ) (d : Bor Cell) → i < length cells →
    sum_of (map (λ cell. cell.now) (drop i cells)) ≡ integer (get_or cells i d).now +ℤ sum_of (map (λ cell. cell.now) (drop (i + 1) cells))
sum_more cells i d within = ap (λ (rest : List (Bor Cell)). sum_of (map (λ cell. cell.now) rest)) (drop_more cells i d within)

-- SUM of some cells, where the whole sum fits
pub sum_fits : (cells : List (Bor Cell)) (z n : ℤ) → nat_eq (length cells) 0 ≡ false → z ≡ sum_of (map (λ cell. cell.now) cells) → FitsSigned w64 z × (n ≡ z) →
    sum_cell (map (λ cell. cell.now) cells) ≡ Ok (Int (to_z w64 (of_z w64 n)))
sum_fits [] z n some is fits = absurd cc
sum_fits (c ∷ cells) z n some is fits =
    let whole : FitsSigned w64 (sum_of (map (λ cell. cell.now) (c ∷ cells))) = subst (FitsSigned w64) is fits.0 in
    rw (in_i64 (sum_of (map (λ cell. cell.now) (c ∷ cells))) whole)
    (ap (λ (w : ℤ). let v : Result Cell ExecFault = Ok (Int w) in v) (sym is ∙ sym fits.1 ∙ sym (to_z-of_z w64 n (subst (FitsSigned w64) (sym fits.1) fits.0))))

moved : (a b c : ℤ) → (a +ℤ b) +ℤ c ≡ a +ℤ (b +ℤ c)
moved a b c = omega (arith, ints)

-- one more number
pub sum_step : (cells : List (Bor Cell)) (i : ℕ) (c : Bor Cell) (total n next whole : ℤ) → i < length cells → c ≡ get_or cells i c → n ≡ integer c.now → next ≡ total +ℤ n →
    total +ℤ sum_of (map (λ cell. cell.now) (drop i cells)) ≡ whole → next +ℤ sum_of (map (λ cell. cell.now) (drop (i + 1) cells)) ≡ whole
sum_step cells i c total n next whole within at is more h =
    let rest : ℤ = sum_of (map (λ cell. cell.now) (drop (i + 1) cells)) in
    let first : integer (get_or cells i c).now ≡ n = ap (λ (b : Bor Cell). integer b.now) (sym at) ∙ sym is in
    let split : total +ℤ (n +ℤ rest) ≡ whole = ap (λ (m : ℤ). total +ℤ (m +ℤ rest)) (sym first) ∙ ap (λ (s : ℤ). total +ℤ s) (sym (sum_more cells i c within)) ∙ h in
    ap (λ (m : ℤ). m +ℤ rest) more ∙ moved total n rest ∙ split
