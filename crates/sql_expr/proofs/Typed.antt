-- The value of an expression that has a type is of that type. Each operator answers a cell of its own type, whatever its operands are.
use Rattle.std.proofs.Common.{◌≡◌, ℕ, zero, suc, [], ◌∷◌, Bool, true, false, ◌&&◌, ◌||◌, if◌then◌else◌, List, Option, Some, None, Ok, Err, IfOk, refl, sym, subst}
use Rattle.std.specs.Prelude.{⊤, ℤ, neg_ℤ, slice_get, slice_index_or}
use Rattle.std.specs.Option.{option_and_then, option_map}
use Rattle.geo_base.specs.Cells.{is_null}
use Rattle.geo_base.specs.Order.{cell_cmp}
use Rattle.geo_base.specs.Results.{◌>>=◌}
use Rattle.geo_base.specs.declared.cell.Cell.{Cell}
use Rattle.geo_base.specs.declared.cell.Cell.TheVariants.{Null, Int, Text, Truth}
use Rattle.sql_expr.specs.declared.expr.Expr.{Expr}
use Rattle.sql_expr.specs.declared.expr.Expr.TheOpen.{Expr-F}
use Rattle.sql_expr.specs.declared.expr.Expr.TheViews.{out-Expr, roll-Expr, roll-out-Expr}
use Rattle.sql_expr.specs.declared.expr.Expr.TheFolds.{fold-roll-Expr}
use Rattle.sql_expr.specs.declared.expr.Op.{Op}
use Rattle.sql_expr.specs.declared.expr.Test.{Test}
use Rattle.sql_expr.specs.declared.fault.EvalFault.TheVariants as fault
use Rattle.sql_expr.specs.declared.value_type.ValueType.{ValueType}
use Rattle.sql_expr.specs.declared.value_type.ValueType.TheVariants as type
use Rattle.sql_expr.specs.Kleene.{truth_cell, truth_in, and_3, or_3, not_3}
use Rattle.sql_expr.specs.Rows.{HasTypes}
use Rattle.sql_expr.specs.Types.{literal_type, has_type, takes, one_operand, two_operands, comparison, of_both, level_type, type_of}
use Rattle.sql_expr.specs.Values.{ValueOrFault, is_i64, number, whole, divides_by_zero, calculated, arithmetic, negated, holds, compared, null_test, both, either, level_value, value_of}

-- a value is of the type, and a fault of each
abbrev IsOf : ValueType → ValueOrFault → Type 0
IsOf t v = IfOk v (λ c. has_type t c ≡ true)

-- the same, if there is a type
abbrev Suits : Option ValueType → ValueOrFault → Type 0
Suits None v = ⊤
Suits (Some t) v = IsOf t v

-- there is no type but this one
abbrev IsOnly : ValueType → Option ValueType → Type 0
IsOnly t None = ⊤
IsOnly t (Some u) = u ≡ t

-- ---- types that an operator can have

pick : (t : ValueType) (b : Bool) → IsOnly t (if b then Some t else None)
pick t true = refl
pick t false = tt

one : (t : ValueType) (a : Option ValueType) → IsOnly t (option_and_then (one_operand t) a)
one t None = tt
one t (Some a) = pick t (takes t a)

two : (t : ValueType) (a b : Option ValueType) → IsOnly t (of_both (two_operands t) a b)
two t None b = tt
two t (Some a) None = tt
two t (Some a) (Some b) = pick t (takes t a && takes t b)

two_alike : (a b : Option ValueType) → IsOnly type.Truth (of_both comparison a b)
two_alike None b = tt
two_alike (Some a) None = tt
two_alike (Some a) (Some b) = pick type.Truth (takes a b || takes b a)

always : (a : Option ValueType) → IsOnly type.Truth (option_map (λ _. type.Truth) a)
always None = tt
always (Some a) = refl

suits : (t : ValueType) (o : Option ValueType) (v : ValueOrFault) → IsOnly t o → IsOf t v → Suits o v
suits t None v h p = tt
suits t (Some u) v h p = subst (λ (w : ValueType). IsOf w v) (sym h) p

-- ---- values of operators

after : (t : ValueType) (v : ValueOrFault) (f : Cell → ValueOrFault) → ((c : Cell) → IsOf t (f c)) → IsOf t (v >>= f)
after t (Ok c) f h = h c
after t (Err e) f h = tt

chosen : (b : Bool) (z : ℤ) → IsOf type.Int (if b then Ok (Int z) else Err fault.Overflow)
chosen true z = refl
chosen false z = tt

divided : (b : Bool) (v : ValueOrFault) → IsOf type.Int v → IsOf type.Int (if b then Err fault.DivideByZero else v)
divided true v h = tt
divided false v h = h

calculated_Int : (o : Op) (x y : ℤ) → IsOf type.Int (calculated o x y)
unfolding calculated
calculated_Int o x y = divided (divides_by_zero o y) (number (whole o x y)) (chosen (is_i64 (whole o x y)) (whole o x y))

arithmetic_Int : (o : Op) (a b : Cell) → IsOf type.Int (arithmetic o a b)
arithmetic_Int o Null b = refl
arithmetic_Int o (Text x) b = refl
arithmetic_Int o (Truth x) b = refl
arithmetic_Int o (Int x) Null = refl
arithmetic_Int o (Int x) (Int y) = calculated_Int o x y
arithmetic_Int o (Int x) (Text y) = refl
arithmetic_Int o (Int x) (Truth y) = refl

negated_Int : (a : Cell) → IsOf type.Int (negated a)
negated_Int Null = refl
negated_Int (Int x) = chosen (is_i64 (neg_ℤ x)) (neg_ℤ x)
negated_Int (Text x) = refl
negated_Int (Truth x) = refl

truth_Truth : (x : Option Bool) → has_type type.Truth (truth_cell x) ≡ true
truth_Truth None = refl
truth_Truth (Some x) = refl

tested : (b truth : Bool) → has_type type.Truth (if b then Null else Truth truth) ≡ true
tested true truth = refl
tested false truth = refl

compared_Truth : (t : Test) (a b : Cell) → has_type type.Truth (compared t a b) ≡ true
compared_Truth t a b = tested (is_null a || is_null b) (holds t (cell_cmp a b))

both_Truth : (a b : ValueOrFault) → IsOf type.Truth (both a b)
both_Truth (Err e) b = tt
both_Truth (Ok (Truth false)) b = refl
both_Truth (Ok (Truth true)) b = after type.Truth b (λ c. Ok (truth_cell (and_3 (Some true) (truth_in c)))) (λ c. truth_Truth (and_3 (Some true) (truth_in c)))
both_Truth (Ok Null) b = after type.Truth b (λ c. Ok (truth_cell (and_3 None (truth_in c)))) (λ c. truth_Truth (and_3 None (truth_in c)))
both_Truth (Ok (Int x)) b = after type.Truth b (λ c. Ok (truth_cell (and_3 None (truth_in c)))) (λ c. truth_Truth (and_3 None (truth_in c)))
both_Truth (Ok (Text x)) b = after type.Truth b (λ c. Ok (truth_cell (and_3 None (truth_in c)))) (λ c. truth_Truth (and_3 None (truth_in c)))

either_Truth : (a b : ValueOrFault) → IsOf type.Truth (either a b)
either_Truth (Err e) b = tt
either_Truth (Ok (Truth true)) b = refl
either_Truth (Ok (Truth false)) b = after type.Truth b (λ c. Ok (truth_cell (or_3 (Some false) (truth_in c)))) (λ c. truth_Truth (or_3 (Some false) (truth_in c)))
either_Truth (Ok Null) b = after type.Truth b (λ c. Ok (truth_cell (or_3 None (truth_in c)))) (λ c. truth_Truth (or_3 None (truth_in c)))
either_Truth (Ok (Int x)) b = after type.Truth b (λ c. Ok (truth_cell (or_3 None (truth_in c)))) (λ c. truth_Truth (or_3 None (truth_in c)))
either_Truth (Ok (Text x)) b = after type.Truth b (λ c. Ok (truth_cell (or_3 None (truth_in c)))) (λ c. truth_Truth (or_3 None (truth_in c)))

-- ---- literals and columns

literal_typed : (c : Cell) → has_type (literal_type c) c ≡ true
literal_typed Null = refl
literal_typed (Int x) = refl
literal_typed (Text x) = refl
literal_typed (Truth x) = refl

null_typed : (t : ValueType) → has_type t Null ≡ true
null_typed type.Int = refl
null_typed type.Text = refl
null_typed type.Truth = refl
null_typed type.Any = refl

cell_typed : (t : ValueType) (row : List Cell) (place : ℕ) → ((c : Cell) → slice_get row place ≡ Some c → has_type t c ≡ true) → has_type t (slice_index_or row place Null) ≡ true
cell_typed t [] place h = null_typed t
cell_typed t (c ∷ row) zero h = h c refl
cell_typed t (c ∷ row) (suc place) h = cell_typed t row place h

-- ---- expressions

carry : (a b : Option ValueType) (v w : ValueOrFault) → a ≡ b → v ≡ w → Suits b w → Suits a v
carry a b v w p q s = subst (λ (o : Option ValueType). Suits o v) (sym p) (subst (λ (u : ValueOrFault). Suits b u) (sym q) s)

module _ (columns : List ValueType) (row : List Cell) (fits : HasTypes columns row) where
  column_typed : (place : ℕ) (o : Option ValueType) → slice_get columns place ≡ o → Suits o (Ok (slice_index_or row place Null))
  column_typed place None e = tt
  column_typed place (Some t) e = cell_typed t row place (λ c h. fits.types place t c e h)

  at : (z : Expr-F Expr) (b : Option ValueType) (w : ValueOrFault) →
      type_of columns (roll-Expr z) ≡ b → value_of row (roll-Expr z) ≡ w → Suits b w → Suits (type_of columns (roll-Expr z)) (value_of row (roll-Expr z))
  at z b w p q s = carry (type_of columns (roll-Expr z)) b (value_of row (roll-Expr z)) w p q s

  typed_roll : (z : Expr-F Expr) → Suits (type_of columns (roll-Expr z)) (value_of row (roll-Expr z))
  unfolding type_of value_of
  typed_roll (Expr-F.Lit c) = at _ _ _ (fold-roll-Expr (Option ValueType) (level_type columns) (Expr-F.Lit c)) (fold-roll-Expr ValueOrFault (level_value row) (Expr-F.Lit c)) (literal_typed c)
  typed_roll (Expr-F.Col place) = at _ _ _ (fold-roll-Expr (Option ValueType) (level_type columns) (Expr-F.Col place)) (fold-roll-Expr ValueOrFault (level_value row) (Expr-F.Col place)) (column_typed place (slice_get columns place) refl)
  typed_roll (Expr-F.Neg a) = at _ _ _ (fold-roll-Expr (Option ValueType) (level_type columns) (Expr-F.Neg a)) (fold-roll-Expr ValueOrFault (level_value row) (Expr-F.Neg a))
      (suits type.Int _ _ (one type.Int (type_of columns a)) (after type.Int (value_of row a) negated negated_Int))
  typed_roll (Expr-F.Not a) = at _ _ _ (fold-roll-Expr (Option ValueType) (level_type columns) (Expr-F.Not a)) (fold-roll-Expr ValueOrFault (level_value row) (Expr-F.Not a))
      (suits type.Truth _ _ (one type.Truth (type_of columns a)) (after type.Truth (value_of row a) (λ x. Ok (truth_cell (not_3 (truth_in x)))) (λ x. truth_Truth (not_3 (truth_in x)))))
  typed_roll (Expr-F.Arith o a b) = at _ _ _ (fold-roll-Expr (Option ValueType) (level_type columns) (Expr-F.Arith o a b)) (fold-roll-Expr ValueOrFault (level_value row) (Expr-F.Arith o a b))
      (suits type.Int _ _ (two type.Int (type_of columns a) (type_of columns b))
      (after type.Int (value_of row a) (λ x. value_of row b >>= λ y. arithmetic o x y) (λ x. after type.Int (value_of row b) (arithmetic o x) (arithmetic_Int o x))))
  typed_roll (Expr-F.Cmp t a b) = at _ _ _ (fold-roll-Expr (Option ValueType) (level_type columns) (Expr-F.Cmp t a b)) (fold-roll-Expr ValueOrFault (level_value row) (Expr-F.Cmp t a b))
      (suits type.Truth _ _ (two_alike (type_of columns a) (type_of columns b))
      (after type.Truth (value_of row a) (λ x. value_of row b >>= λ y. Ok (compared t x y)) (λ x. after type.Truth (value_of row b) (λ y. Ok (compared t x y)) (compared_Truth t x))))
  typed_roll (Expr-F.And a b) = at _ _ _ (fold-roll-Expr (Option ValueType) (level_type columns) (Expr-F.And a b)) (fold-roll-Expr ValueOrFault (level_value row) (Expr-F.And a b))
      (suits type.Truth _ _ (two type.Truth (type_of columns a) (type_of columns b)) (both_Truth (value_of row a) (value_of row b)))
  typed_roll (Expr-F.Or a b) = at _ _ _ (fold-roll-Expr (Option ValueType) (level_type columns) (Expr-F.Or a b)) (fold-roll-Expr ValueOrFault (level_value row) (Expr-F.Or a b))
      (suits type.Truth _ _ (two type.Truth (type_of columns a) (type_of columns b)) (either_Truth (value_of row a) (value_of row b)))
  typed_roll (Expr-F.IsNull a is_not) = at _ _ _ (fold-roll-Expr (Option ValueType) (level_type columns) (Expr-F.IsNull a is_not)) (fold-roll-Expr ValueOrFault (level_value row) (Expr-F.IsNull a is_not))
      (suits type.Truth _ _ (always (type_of columns a)) (after type.Truth (value_of row a) (λ x. Ok (null_test is_not x)) (λ x. refl)))

  pub typed : (e : Expr) (t : ValueType) → type_of columns e ≡ Some t → IfOk (value_of row e) (λ c. has_type t c ≡ true)
  typed e t h =
      let whole : Suits (type_of columns e) (value_of row e) = subst (λ (x : Expr). Suits (type_of columns x) (value_of row x)) (roll-out-Expr e) (typed_roll (out-Expr e)) in
      subst (λ (o : Option ValueType). Suits o (value_of row e)) h whole
