-- An expression has a fault exactly where it is at fault, and that is never want of memory.
use Rattle.std.proofs.Common.{◌≡◌, ◌≢◌, zero, suc, Bool, true, false, if◌then◌else◌, List, Ok, Err, ◌↔◌, refl, sym, ap, subst, ◌∙◌}
use Rattle.std.specs.Prelude.{ℤ, pos, negsuc, neg_ℤ, slice_index_or}
use Rattle.geo_base.specs.Results.{◌>>=◌}
use Rattle.geo_base.specs.laws.Results.{not_done, fault_is}
use Rattle.geo_base.specs.declared.cell.Cell.{Cell}
use Rattle.geo_base.specs.declared.cell.Cell.TheVariants.{Null, Int, Text, Truth}
use Rattle.sql_expr.specs.declared.expr.Expr.{Expr}
use Rattle.sql_expr.specs.declared.expr.Expr.TheOpen.{Expr-F}
use Rattle.sql_expr.specs.declared.expr.Expr.TheViews.{roll-Expr}
use Rattle.sql_expr.specs.declared.expr.Expr.TheFolds.{map-Expr, ind-Expr}
use Rattle.sql_expr.specs.declared.expr.Expr.TheVariants as expr
use Rattle.sql_expr.specs.declared.expr.Expr.TheVariants.{rolls-Lit, rolls-Col, rolls-Neg, rolls-Not, rolls-Arith, rolls-Cmp, rolls-And, rolls-Or, rolls-IsNull}
use Rattle.sql_expr.specs.declared.expr.Op.{Op}
use Rattle.sql_expr.specs.declared.expr.Op.TheVariants as op
use Rattle.sql_expr.specs.declared.expr.Test.{Test}
use Rattle.sql_expr.specs.declared.fault.EvalFault.{EvalFault}
use Rattle.sql_expr.specs.declared.fault.EvalFault.TheVariants.{Overflow, DivideByZero, NoMemory}
use Rattle.sql_expr.specs.Faults.{Overflows, HasNoResult, IsFirst, IsSecond, IsAtFault, first, second, calculation, negation, first_of_neg, first_of_not, first_of_arithmetic, first_of_comparison, first_of_and, first_of_or, first_of_null_test, second_of_arithmetic, second_of_comparison, second_of_and, second_of_or}
use Rattle.sql_expr.specs.Kleene.{not_3, and_3, or_3, truth_in, truth_cell}
use Rattle.sql_expr.specs.Values.{ValueOrFault, is_i64, number, whole, divides_by_zero, calculated, arithmetic, negated, compared, null_test, both, either, value_of}
use Rattle.sql_expr.proofs.Levels as levels
use Rattle.sql_expr.proofs.Levels.{turned}
use Rattle.sql_expr.proofs.Numbers.{in_i64, out_of_i64}

-- ---- steps on numbers

overflows : (f : EvalFault) (z : ℤ) → Overflows f z → number z ≡ Err f
overflows Overflow z r = ap (λ (b : Bool). let v : ValueOrFault = if b then Ok (Int z) else Err Overflow in v) (out_of_i64 z r)
overflows DivideByZero z r = absurd r
overflows NoMemory z r = absurd r

overflows_by : (f : EvalFault) (z : ℤ) (b : Bool) → is_i64 z ≡ b → (let v : ValueOrFault = if b then Ok (Int z) else Err Overflow in v ≡ Err f) → Overflows f z
overflows_by f z true q h = not_done (Int z) f h
overflows_by f z false q h = subst (λ (e : EvalFault). Overflows e z) (fault_is {A = Cell} Overflow f h) (λ fits. let p : true ≡ false = sym (in_i64 z fits) ∙ q in cc)

overflowed : (f : EvalFault) (z : ℤ) → number z ≡ Err f → Overflows f z
overflowed f z h = overflows_by f z (is_i64 z) refl h

no_zero : (o : Op) (y : ℤ) → ¬ ((o ≡ op.Divide) × (y ≡ pos 0)) → divides_by_zero o y ≡ false
no_zero op.Plus y n = refl
no_zero op.Minus y n = refl
no_zero op.Times y n = refl
no_zero op.Divide (pos zero) n = absurd (n (refl, refl))
no_zero op.Divide (pos (suc m)) n = refl
no_zero op.Divide (negsuc m) n = refl

a_zero : (o : Op) (y : ℤ) → (o ≡ op.Divide) × (y ≡ pos 0) → divides_by_zero o y ≡ true
a_zero o y h = subst (λ (p : Op). divides_by_zero p y ≡ true) (sym h.0) (subst (λ (z : ℤ). divides_by_zero op.Divide z ≡ true) (sym h.1) refl)

zero_found : (o : Op) (y : ℤ) → divides_by_zero o y ≡ true → (o ≡ op.Divide) × (y ≡ pos 0)
zero_found op.Plus y h = cc
zero_found op.Minus y h = cc
zero_found op.Times y h = cc
zero_found op.Divide (pos zero) h = (refl, refl)
zero_found op.Divide (pos (suc m)) h = cc
zero_found op.Divide (negsuc m) h = cc

no_result : (f : EvalFault) (o : Op) (x y : ℤ) → HasNoResult f o x y → calculated o x y ≡ Err f
unfolding calculated
no_result Overflow o x y r =
    ap (λ (b : Bool). let v : ValueOrFault = if b then Err DivideByZero else number (whole o x y) in v) (no_zero o y r.0) ∙ overflows Overflow (whole o x y) r.1
no_result DivideByZero o x y r = ap (λ (b : Bool). let v : ValueOrFault = if b then Err DivideByZero else number (whole o x y) in v) (a_zero o y r)
no_result NoMemory o x y r = absurd r

undivided : (f : EvalFault) (o : Op) (x y : ℤ) → divides_by_zero o y ≡ false → Overflows f (whole o x y) → HasNoResult f o x y
undivided Overflow o x y q r = ((λ h. let p : true ≡ false = sym (a_zero o y h) ∙ q in cc), r)
undivided DivideByZero o x y q r = absurd r
undivided NoMemory o x y q r = absurd r

no_result_by : (f : EvalFault) (o : Op) (x y : ℤ) (b : Bool) → divides_by_zero o y ≡ b →
    (let v : ValueOrFault = if b then Err DivideByZero else number (whole o x y) in v ≡ Err f) → HasNoResult f o x y
no_result_by f o x y true q h = subst (λ (e : EvalFault). HasNoResult e o x y) (fault_is {A = Cell} DivideByZero f h) (zero_found o y q)
no_result_by f o x y false q h = undivided f o x y q (overflowed f (whole o x y) h)

had_no_result : (f : EvalFault) (o : Op) (x y : ℤ) → calculated o x y ≡ Err f → HasNoResult f o x y
unfolding calculated
had_no_result f o x y h = no_result_by f o x y (divides_by_zero o y) refl h

-- ---- sides that don't settle AND or OR

open_and : (x : Cell) (b : ValueOrFault) → x ≢ Truth false → both (Ok x) b ≡ (b >>= λ c. Ok (truth_cell (and_3 (truth_in x) (truth_in c))))
open_and Null b n = refl
open_and (Int x) b n = refl
open_and (Text x) b n = refl
open_and (Truth true) b n = refl
open_and (Truth false) b n = absurd (n refl)

open_or : (x : Cell) (b : ValueOrFault) → x ≢ Truth true → either (Ok x) b ≡ (b >>= λ c. Ok (truth_cell (or_3 (truth_in x) (truth_in c))))
open_or Null b n = refl
open_or (Int x) b n = refl
open_or (Text x) b n = refl
open_or (Truth false) b n = refl
open_or (Truth true) b n = absurd (n refl)

module _ (row : List Cell) where
  -- ---- where an expression is at fault it has that fault

  first_fault : (a e : Expr) (f : EvalFault) → IsFirst a e → value_of row a ≡ Err f → value_of row e ≡ Err f
  first_fault a _ f first_of_neg h = levels.of_neg row a ∙ ap (λ (v : ValueOrFault). v >>= negated) h
  first_fault a _ f first_of_not h = levels.of_not row a ∙ ap turned h
  first_fault a _ f (first_of_arithmetic o b) h = levels.left_of_arithmetic row o a b f h
  first_fault a _ f (first_of_comparison t b) h = levels.left_of_comparison row t a b f h
  first_fault a _ f (first_of_and b) h = levels.left_of_and row a b f h
  first_fault a _ f (first_of_or b) h = levels.left_of_or row a b f h
  first_fault a _ f (first_of_null_test is_not) h = levels.of_null_test row a is_not ∙ ap (λ (v : ValueOrFault). v >>= λ x. Ok (null_test is_not x)) h

  second_fault : (a b e : Expr) (x : Cell) (f : EvalFault) → value_of row a ≡ Ok x → IsSecond x a b e → value_of row b ≡ Err f → value_of row e ≡ Err f
  second_fault a b _ x f p (second_of_arithmetic o) h =
      levels.of_arithmetic row o a b ∙ ap (λ (v : ValueOrFault). v >>= λ u. value_of row b >>= λ w. arithmetic o u w) p ∙ ap (λ (v : ValueOrFault). v >>= λ w. arithmetic o x w) h
  second_fault a b _ x f p (second_of_comparison t) h =
      levels.of_comparison row t a b ∙ ap (λ (v : ValueOrFault). v >>= λ u. value_of row b >>= λ w. Ok (compared t u w)) p ∙ ap (λ (v : ValueOrFault). v >>= λ w. Ok (compared t x w)) h
  second_fault a b _ x f p (second_of_and n) h =
      levels.of_and row a b ∙ ap (λ (v : ValueOrFault). both v (value_of row b)) p ∙ open_and x (value_of row b) n ∙ ap (λ (v : ValueOrFault). v >>= λ c. Ok (truth_cell (and_3 (truth_in x) (truth_in c)))) h
  second_fault a b _ x f p (second_of_or n) h =
      levels.of_or row a b ∙ ap (λ (v : ValueOrFault). either v (value_of row b)) p ∙ open_or x (value_of row b) n ∙ ap (λ (v : ValueOrFault). v >>= λ c. Ok (truth_cell (or_3 (truth_in x) (truth_in c)))) h

  has_fault : (f : EvalFault) (e : Expr) → IsAtFault row f e → value_of row e ≡ Err f
  has_fault f e (first a _ is at) = first_fault a e f is (has_fault f a at)
  has_fault f e (second a b _ x p is at) = second_fault a b e x f p is (has_fault f b at)
  has_fault f _ (calculation o a b x y p q r) =
      levels.of_arithmetic row o a b ∙ ap (λ (v : ValueOrFault). v >>= λ u. value_of row b >>= λ w. arithmetic o u w) p ∙ ap (λ (v : ValueOrFault). v >>= λ w. arithmetic o (Int x) w) q ∙ no_result f o x y r
  has_fault f _ (negation a x p r) = levels.of_neg row a ∙ ap (λ (v : ValueOrFault). v >>= negated) p ∙ overflows f (neg_ℤ x) r

  -- ---- where it has a fault it is at fault

  abbrev IsTold : Expr → Type 0
  IsTold e = (f : EvalFault) → value_of row e ≡ Err f → IsAtFault row f e

  module _ (a : Expr) (at_a : IsTold a) where
    told_neg_by : (f : EvalFault) (v : ValueOrFault) → value_of row a ≡ v → (v >>= negated) ≡ Err f → IsAtFault row f (expr.Neg a)
    told_neg_by f (Err e) p h = first a (expr.Neg a) first_of_neg (at_a f (p ∙ h))
    told_neg_by f (Ok (Int x)) p h = negation a x p (overflowed f (neg_ℤ x) h)
    told_neg_by f (Ok Null) p h = not_done Null f h
    told_neg_by f (Ok (Text x)) p h = not_done Null f h
    told_neg_by f (Ok (Truth x)) p h = not_done Null f h

    told_neg : IsTold (expr.Neg a)
    told_neg f h = told_neg_by f (value_of row a) refl (sym (levels.of_neg row a) ∙ h)

    told_not_by : (f : EvalFault) (v : ValueOrFault) → value_of row a ≡ v → turned v ≡ Err f → IsAtFault row f (expr.Not a)
    told_not_by f (Err e) p h = first a (expr.Not a) first_of_not (at_a f (p ∙ h))
    told_not_by f (Ok x) p h = not_done (truth_cell (not_3 (truth_in x))) f h

    told_not : IsTold (expr.Not a)
    told_not f h = told_not_by f (value_of row a) refl (sym (levels.of_not row a) ∙ h)

    told_null_test_by : (is_not : Bool) (f : EvalFault) (v : ValueOrFault) → value_of row a ≡ v → (v >>= λ x. Ok (null_test is_not x)) ≡ Err f → IsAtFault row f (expr.IsNull a is_not)
    told_null_test_by is_not f (Err e) p h = first a (expr.IsNull a is_not) (first_of_null_test is_not) (at_a f (p ∙ h))
    told_null_test_by is_not f (Ok x) p h = not_done (null_test is_not x) f h

    told_null_test : (is_not : Bool) → IsTold (expr.IsNull a is_not)
    told_null_test is_not f h = told_null_test_by is_not f (value_of row a) refl (sym (levels.of_null_test row a is_not) ∙ h)

    module _ (b : Expr) (at_b : IsTold b) where
      told_arithmetic_by : (o : Op) (f : EvalFault) (v w : ValueOrFault) → value_of row a ≡ v → value_of row b ≡ w → (v >>= λ x. w >>= λ y. arithmetic o x y) ≡ Err f → IsAtFault row f (expr.Arith o a b)
      told_arithmetic_by o f (Err e) w p q h = first a (expr.Arith o a b) (first_of_arithmetic o b) (at_a f (p ∙ h))
      told_arithmetic_by o f (Ok x) (Err e) p q h = second a b (expr.Arith o a b) x p (second_of_arithmetic o) (at_b f (q ∙ h))
      told_arithmetic_by o f (Ok (Int x)) (Ok (Int y)) p q h = calculation o a b x y p q (had_no_result f o x y h)
      told_arithmetic_by o f (Ok (Int x)) (Ok Null) p q h = not_done Null f h
      told_arithmetic_by o f (Ok (Int x)) (Ok (Text y)) p q h = not_done Null f h
      told_arithmetic_by o f (Ok (Int x)) (Ok (Truth y)) p q h = not_done Null f h
      told_arithmetic_by o f (Ok Null) (Ok y) p q h = not_done Null f h
      told_arithmetic_by o f (Ok (Text x)) (Ok y) p q h = not_done Null f h
      told_arithmetic_by o f (Ok (Truth x)) (Ok y) p q h = not_done Null f h

      told_arithmetic : (o : Op) → IsTold (expr.Arith o a b)
      told_arithmetic o f h = told_arithmetic_by o f (value_of row a) (value_of row b) refl refl (sym (levels.of_arithmetic row o a b) ∙ h)

      told_comparison_by : (t : Test) (f : EvalFault) (v w : ValueOrFault) → value_of row a ≡ v → value_of row b ≡ w → (v >>= λ x. w >>= λ y. Ok (compared t x y)) ≡ Err f → IsAtFault row f (expr.Cmp t a b)
      told_comparison_by t f (Err e) w p q h = first a (expr.Cmp t a b) (first_of_comparison t b) (at_a f (p ∙ h))
      told_comparison_by t f (Ok x) (Err e) p q h = second a b (expr.Cmp t a b) x p (second_of_comparison t) (at_b f (q ∙ h))
      told_comparison_by t f (Ok x) (Ok y) p q h = not_done (compared t x y) f h

      told_comparison : (t : Test) → IsTold (expr.Cmp t a b)
      told_comparison t f h = told_comparison_by t f (value_of row a) (value_of row b) refl refl (sym (levels.of_comparison row t a b) ∙ h)

      open_and_by : (f : EvalFault) (x : Cell) (w : ValueOrFault) → value_of row a ≡ Ok x → value_of row b ≡ w → x ≢ Truth false →
          (w >>= λ c. Ok (truth_cell (and_3 (truth_in x) (truth_in c)))) ≡ Err f → IsAtFault row f (expr.And a b)
      open_and_by f x (Err e) p q n h = second a b (expr.And a b) x p (second_of_and n) (at_b f (q ∙ h))
      open_and_by f x (Ok c) p q n h = not_done (truth_cell (and_3 (truth_in x) (truth_in c))) f h

      told_and_by : (f : EvalFault) (v : ValueOrFault) → value_of row a ≡ v → both v (value_of row b) ≡ Err f → IsAtFault row f (expr.And a b)
      told_and_by f (Err e) p h = first a (expr.And a b) (first_of_and b) (at_a f (p ∙ h))
      told_and_by f (Ok (Truth false)) p h = not_done (Truth false) f h
      told_and_by f (Ok (Truth true)) p h = open_and_by f (Truth true) (value_of row b) p refl (λ e. cc) h
      told_and_by f (Ok Null) p h = open_and_by f Null (value_of row b) p refl (λ e. cc) h
      told_and_by f (Ok (Int x)) p h = open_and_by f (Int x) (value_of row b) p refl (λ e. cc) h
      told_and_by f (Ok (Text x)) p h = open_and_by f (Text x) (value_of row b) p refl (λ e. cc) h

      told_and : IsTold (expr.And a b)
      told_and f h = told_and_by f (value_of row a) refl (sym (levels.of_and row a b) ∙ h)

      open_or_by : (f : EvalFault) (x : Cell) (w : ValueOrFault) → value_of row a ≡ Ok x → value_of row b ≡ w → x ≢ Truth true →
          (w >>= λ c. Ok (truth_cell (or_3 (truth_in x) (truth_in c)))) ≡ Err f → IsAtFault row f (expr.Or a b)
      open_or_by f x (Err e) p q n h = second a b (expr.Or a b) x p (second_of_or n) (at_b f (q ∙ h))
      open_or_by f x (Ok c) p q n h = not_done (truth_cell (or_3 (truth_in x) (truth_in c))) f h

      told_or_by : (f : EvalFault) (v : ValueOrFault) → value_of row a ≡ v → either v (value_of row b) ≡ Err f → IsAtFault row f (expr.Or a b)
      told_or_by f (Err e) p h = first a (expr.Or a b) (first_of_or b) (at_a f (p ∙ h))
      told_or_by f (Ok (Truth true)) p h = not_done (Truth true) f h
      told_or_by f (Ok (Truth false)) p h = open_or_by f (Truth false) (value_of row b) p refl (λ e. cc) h
      told_or_by f (Ok Null) p h = open_or_by f Null (value_of row b) p refl (λ e. cc) h
      told_or_by f (Ok (Int x)) p h = open_or_by f (Int x) (value_of row b) p refl (λ e. cc) h
      told_or_by f (Ok (Text x)) p h = open_or_by f (Text x) (value_of row b) p refl (λ e. cc) h

      told_or : IsTold (expr.Or a b)
      told_or f h = told_or_by f (value_of row a) refl (sym (levels.of_or row a b) ∙ h)

  -- each kind of expression, where its operands are so
  told_level : (z : Expr-F ((e : Expr) × IsTold e)) → IsTold (roll-Expr (map-Expr ((e : Expr) × IsTold e) Expr (λ p. p.0) z))
  told_level (Expr-F.Lit c) = subst IsTold (sym (rolls-Lit c)) (λ f h. not_done c f (sym (levels.of_literal row c) ∙ h))
  told_level (Expr-F.Col place) = subst IsTold (sym (rolls-Col place)) (λ f h. not_done (slice_index_or row place Null) f (sym (levels.of_column row place) ∙ h))
  told_level (Expr-F.Neg a) = subst IsTold (sym (rolls-Neg a.0)) (told_neg a.0 a.1)
  told_level (Expr-F.Not a) = subst IsTold (sym (rolls-Not a.0)) (told_not a.0 a.1)
  told_level (Expr-F.Arith o a b) = subst IsTold (sym (rolls-Arith o a.0 b.0)) (told_arithmetic a.0 a.1 b.0 b.1 o)
  told_level (Expr-F.Cmp t a b) = subst IsTold (sym (rolls-Cmp t a.0 b.0)) (told_comparison a.0 a.1 b.0 b.1 t)
  told_level (Expr-F.And a b) = subst IsTold (sym (rolls-And a.0 b.0)) (told_and a.0 a.1 b.0 b.1)
  told_level (Expr-F.Or a b) = subst IsTold (sym (rolls-Or a.0 b.0)) (told_or a.0 a.1 b.0 b.1)
  told_level (Expr-F.IsNull a is_not) = subst IsTold (sym (rolls-IsNull a.0 is_not)) (told_null_test a.0 a.1 is_not)

  told : (e : Expr) → IsTold e
  told = ind-Expr IsTold (λ x y is. subst (λ (z : Expr-F Expr). IsTold (roll-Expr z)) is (told_level y))

pub faults_are_first : (row : List Cell) (e : Expr) (f : EvalFault) → (value_of row e ≡ Err f) ↔ IsAtFault row f e
faults_are_first row e f = (told row e f, has_fault row f e)

-- ---- no step has want of memory for its fault

no_step : (row : List Cell) (e : Expr) → IsAtFault row NoMemory e → ⊥
no_step row e (first a _ is at) = no_step row a at
no_step row e (second a b _ x p is at) = no_step row b at
no_step row _ (calculation o a b x y p q r) = r
no_step row _ (negation a x p r) = r

pub never_no_memory : (row : List Cell) (e : Expr) → value_of row e ≢ Err NoMemory
never_no_memory row e h = no_step row e (told row e NoMemory h)

pub other_fault : (row : List Cell) (e : Expr) (f : EvalFault) → value_of row e ≡ Err f → f ≢ NoMemory
other_fault row e f h is = never_no_memory row e (subst (λ (g : EvalFault). value_of row e ≡ Err g) is h)
