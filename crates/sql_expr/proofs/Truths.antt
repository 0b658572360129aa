-- NOT through AND and OR, and NOT twice.
use Rattle.std.proofs.Common.{◌≡◌, ℕ, Bool, true, false, List, Option, Some, None, Ok, Err, IfOk, refl, sym, ap, ◌∙◌}
use Rattle.std.specs.Prelude.{ℤ}
use Rattle.geo_base.specs.Results.{◌>>=◌}
use Rattle.geo_base.specs.declared.cell.Cell.{Cell}
use Rattle.geo_base.specs.declared.cell.Cell.TheVariants.{Null, Int, Text, Truth}
use Rattle.sql_expr.specs.declared.expr.Expr.{Expr}
use Rattle.sql_expr.specs.declared.expr.Expr.TheVariants as expr
use Rattle.sql_expr.specs.declared.value_type.ValueType.{ValueType}
use Rattle.sql_expr.specs.declared.value_type.ValueType.TheVariants as type
use Rattle.sql_expr.specs.Kleene.{not_3, and_3, or_3, truth_in, truth_cell}
use Rattle.sql_expr.specs.Rows.{HasTypes}
use Rattle.sql_expr.specs.Types.{type_of, has_type, is_condition}
use Rattle.sql_expr.specs.Values.{ValueOrFault, both, either, value_of}
use Rattle.sql_expr.proofs.Levels.{turned, of_not, of_and, of_or}
use Rattle.sql_expr.proofs.Typed.{typed}

-- ---- the tables

held : (x : Option Bool) → truth_in (truth_cell x) ≡ x
held None = refl
held (Some truth) = refl

not_and : (x y : Option Bool) → not_3 (and_3 x y) ≡ or_3 (not_3 x) (not_3 y)
not_and (Some true) (Some true) = refl
not_and (Some true) (Some false) = refl
not_and (Some true) None = refl
not_and (Some false) (Some true) = refl
not_and (Some false) (Some false) = refl
not_and (Some false) None = refl
not_and None (Some true) = refl
not_and None (Some false) = refl
not_and None None = refl

not_or : (x y : Option Bool) → not_3 (or_3 x y) ≡ and_3 (not_3 x) (not_3 y)
not_or (Some true) (Some true) = refl
not_or (Some true) (Some false) = refl
not_or (Some true) None = refl
not_or (Some false) (Some true) = refl
not_or (Some false) (Some false) = refl
not_or (Some false) None = refl
not_or None (Some true) = refl
not_or None (Some false) = refl
not_or None None = refl

-- ---- values

middle_and : (x : Option Bool) (b : ValueOrFault) → turned (b >>= λ c. Ok (truth_cell (and_3 x (truth_in c)))) ≡ (turned b >>= λ c. Ok (truth_cell (or_3 (not_3 x) (truth_in c))))
middle_and x (Err e) = refl
middle_and x (Ok c) = ap (λ (z : Option Bool). Ok (truth_cell z)) (ap not_3 (held (and_3 x (truth_in c))) ∙ not_and x (truth_in c) ∙ ap (or_3 (not_3 x)) (sym (held (not_3 (truth_in c)))))

middle_or : (x : Option Bool) (b : ValueOrFault) → turned (b >>= λ c. Ok (truth_cell (or_3 x (truth_in c)))) ≡ (turned b >>= λ c. Ok (truth_cell (and_3 (not_3 x) (truth_in c))))
middle_or x (Err e) = refl
middle_or x (Ok c) = ap (λ (z : Option Bool). Ok (truth_cell z)) (ap not_3 (held (or_3 x (truth_in c))) ∙ not_or x (truth_in c) ∙ ap (and_3 (not_3 x)) (sym (held (not_3 (truth_in c)))))

turned_both : (a b : ValueOrFault) → turned (both a b) ≡ either (turned a) (turned b)
turned_both (Err e) b = refl
turned_both (Ok (Truth false)) b = refl
turned_both (Ok (Truth true)) b = middle_and (Some true) b
turned_both (Ok Null) b = middle_and None b
turned_both (Ok (Int x)) b = middle_and None b
turned_both (Ok (Text x)) b = middle_and None b

turned_either : (a b : ValueOrFault) → turned (either a b) ≡ both (turned a) (turned b)
turned_either (Err e) b = refl
turned_either (Ok (Truth true)) b = refl
turned_either (Ok (Truth false)) b = middle_or (Some false) b
turned_either (Ok Null) b = middle_or None b
turned_either (Ok (Int x)) b = middle_or None b
turned_either (Ok (Text x)) b = middle_or None b

no_number : (t : ValueType) (x : ℤ) → is_condition t ≡ true → has_type t (Int x) ≡ true → ⊥
no_number type.Int x h k = cc
no_number type.Text x h k = cc
no_number type.Truth x h k = cc
no_number type.Any x h k = cc

no_text : (t : ValueType) (x : List ℕ) → is_condition t ≡ true → has_type t (Text x) ≡ true → ⊥
no_text type.Int x h k = cc
no_text type.Text x h k = cc
no_text type.Truth x h k = cc
no_text type.Any x h k = cc

turned_twice : (t : ValueType) (v : ValueOrFault) → is_condition t ≡ true → IfOk v (λ c. has_type t c ≡ true) → turned (turned v) ≡ v
turned_twice t (Err e) h k = refl
turned_twice t (Ok Null) h k = refl
turned_twice t (Ok (Truth true)) h k = refl
turned_twice t (Ok (Truth false)) h k = refl
turned_twice t (Ok (Int x)) h k = absurd (no_number t x h k)
turned_twice t (Ok (Text x)) h k = absurd (no_text t x h k)

-- ---- expressions

pub not_through_and : (row : List Cell) (a b : Expr) → value_of row (expr.Not (expr.And a b)) ≡ value_of row (expr.Or (expr.Not a) (expr.Not b))
not_through_and row a b =
    let left : value_of row (expr.Not (expr.And a b)) ≡ either (turned (value_of row a)) (turned (value_of row b)) =
    of_not row (expr.And a b) ∙ ap turned (of_and row a b) ∙ turned_both (value_of row a) (value_of row b) in
    let right : value_of row (expr.Or (expr.Not a) (expr.Not b)) ≡ either (turned (value_of row a)) (turned (value_of row b)) =
    of_or row (expr.Not a) (expr.Not b) ∙ ap (λ (v : ValueOrFault). either v (value_of row (expr.Not b))) (of_not row a) ∙ ap (either (turned (value_of row a))) (of_not row b) in
    left ∙ sym right

pub not_through_or : (row : List Cell) (a b : Expr) → value_of row (expr.Not (expr.Or a b)) ≡ value_of row (expr.And (expr.Not a) (expr.Not b))
not_through_or row a b =
    let left : value_of row (expr.Not (expr.Or a b)) ≡ both (turned (value_of row a)) (turned (value_of row b)) =
    of_not row (expr.Or a b) ∙ ap turned (of_or row a b) ∙ turned_either (value_of row a) (value_of row b) in
    let right : value_of row (expr.And (expr.Not a) (expr.Not b)) ≡ both (turned (value_of row a)) (turned (value_of row b)) =
    of_and row (expr.Not a) (expr.Not b) ∙ ap (λ (v : ValueOrFault). both v (value_of row (expr.Not b))) (of_not row a) ∙ ap (both (turned (value_of row a))) (of_not row b) in
    left ∙ sym right

pub not_twice : (columns : List ValueType) (row : List Cell) (a : Expr) (t : ValueType) → HasTypes columns row → type_of columns a ≡ Some t → is_condition t ≡ true →
    value_of row (expr.Not (expr.Not a)) ≡ value_of row a
not_twice columns row a t fits h is =
    of_not row (expr.Not a) ∙ ap turned (of_not row a) ∙ turned_twice t (value_of row a) is (typed columns row fits a t h)
