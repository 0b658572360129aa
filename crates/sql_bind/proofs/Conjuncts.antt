-- The conjuncts of an AND are those of its sides, and every other expression is one itself.
use Rattle.std.proofs.Common.{◌≡◌, ◌≢◌, Bool, true, false, ◌&&◌, if◌then◌else◌, Option, Some, None, List, [], ◌∷◌, ◌++◌, refl, sym, ap, subst, ◌∙◌, append_assoc}
use Rattle.std.specs.List.{All}
use Rattle.std.proofs.lemmas.Bool.{both_ways}
use Rattle.std.proofs.lemmas.List.Elements.{All-append}
use Rattle.sql_expr.specs.declared.expr.Expr.{Expr, out-Expr}
use Rattle.sql_expr.specs.declared.expr.Expr.TheFolds.{map-Expr, ind-Expr, para-roll-Expr}
use Rattle.sql_expr.specs.declared.expr.Expr.TheOpen.{Expr-F}
use Rattle.sql_expr.specs.declared.expr.Expr.TheVariants as expr
use Rattle.sql_expr.specs.declared.expr.Expr.TheVariants.{rolls-And, outs-And}
use Rattle.sql_expr.specs.declared.expr.Expr.TheViews.{roll-Expr, roll-out-Expr, out-roll-Expr}
use Rattle.sql_expr.specs.declared.value_type.ValueType.{ValueType}
use Rattle.sql_expr.specs.declared.value_type.ValueType.TheVariants as type
use Rattle.sql_expr.specs.Types.{takes, two_operands, of_both, type_of}
use Rattle.sql_bind.specs.Conditions.{split, conjuncts}
use Rattle.sql_bind.specs.Sound.{IsTypedFor, IsTest}
use Rattle.sql_bind.proofs.Levels.{type_and}
use Rattle.sql_bind.proofs.Lists.{All-one}

pub of_and : (a b : Expr) → conjuncts (expr.And a b) ≡ conjuncts a ++ conjuncts b
unfolding conjuncts
of_and a b = ap conjuncts (sym (rolls-And a b)) ∙ para-roll-Expr (List Expr) split (Expr-F.And a b)

-- the level is no AND
abbrev is_other : Expr-F Expr → Bool
is_other (Expr-F.And a b) = false
is_other _ = true

at_level : (z : Expr-F Expr) → is_other z ≡ true → conjuncts (roll-Expr z) ≡ roll-Expr z ∷ []
unfolding conjuncts
at_level (Expr-F.Lit c) h = para-roll-Expr (List Expr) split (Expr-F.Lit c)
at_level (Expr-F.Col place) h = para-roll-Expr (List Expr) split (Expr-F.Col place)
at_level (Expr-F.Neg a) h = para-roll-Expr (List Expr) split (Expr-F.Neg a)
at_level (Expr-F.Not a) h = para-roll-Expr (List Expr) split (Expr-F.Not a)
at_level (Expr-F.Arith o a b) h = para-roll-Expr (List Expr) split (Expr-F.Arith o a b)
at_level (Expr-F.Cmp t a b) h = para-roll-Expr (List Expr) split (Expr-F.Cmp t a b)
at_level (Expr-F.And a b) h = absurd cc
at_level (Expr-F.Or a b) h = para-roll-Expr (List Expr) split (Expr-F.Or a b)
at_level (Expr-F.IsNull a is_not) h = para-roll-Expr (List Expr) split (Expr-F.IsNull a is_not)

-- an expression that is no AND has such a level, and the other way round
no_and : (z : Expr-F Expr) → ((a b : Expr) → roll-Expr z ≢ expr.And a b) → is_other z ≡ true
no_and (Expr-F.Lit c) h = refl
no_and (Expr-F.Col place) h = refl
no_and (Expr-F.Neg a) h = refl
no_and (Expr-F.Not a) h = refl
no_and (Expr-F.Arith o a b) h = refl
no_and (Expr-F.Cmp t a b) h = refl
no_and (Expr-F.And a b) h = absurd (h a b (rolls-And a b))
no_and (Expr-F.Or a b) h = refl
no_and (Expr-F.IsNull a is_not) h = refl

pub is_no_and : (z : Expr-F Expr) → is_other z ≡ true → (a b : Expr) → roll-Expr z ≢ expr.And a b
is_no_and z h a b e =
    let same : z ≡ Expr-F.And a b = sym (out-roll-Expr z) ∙ ap out-Expr e ∙ outs-And a b in
    both_ways (is_other z) (ap is_other same) h

pub of_other : (e : Expr) → ((a b : Expr) → e ≢ expr.And a b) → conjuncts e ≡ e ∷ []
of_other e h =
    subst (λ (x : Expr). ((a b : Expr) → x ≢ expr.And a b) → conjuncts x ≡ x ∷ []) (roll-out-Expr e)
    (λ none. at_level (out-Expr e) (no_and (out-Expr e) none)) h

-- ---- conjuncts that are added

pub after_both : (old middle new : List Expr) (a b x y e : Expr) → e ≡ expr.And a b → x ≡ a → y ≡ b → middle ≡ old ++ conjuncts x → new ≡ middle ++ conjuncts y → new ≡ old ++ conjuncts e
after_both old middle new a b x y e is left right first second =
    rw (is, of_and a b, ← left, ← right, second, first) (append_assoc old (conjuncts x) (conjuncts y))

pub after_other : (old new : List Expr) (e : Expr) → ((a b : Expr) → e ≢ expr.And a b) → new ≡ old ++ e ∷ [] → new ≡ old ++ conjuncts e
after_other old new e none is = rw (of_other e none) is

-- ---- the conjuncts of a condition are conditions, and no ANDs

module _ (columns : List ValueType) where
  abbrev IsCondition : Expr → Type 0
  IsCondition = IsTypedFor type.Truth columns

  -- the operands of an operator that has a type have types that its rule takes
  both_have : (rule : ValueType → ValueType → Option ValueType) (a b : Option ValueType) (t : ValueType) → of_both rule a b ≡ Some t →
      (x : ValueType) × (y : ValueType) × (a ≡ Some x) × (b ≡ Some y) × (rule x y ≡ Some t)
  both_have rule None b t h = absurd cc
  both_have rule (Some x) None t h = absurd cc
  both_have rule (Some x) (Some y) t h = (x, y, refl, refl, h)

  both_taken : (x y : ValueType) (t : ValueType) → two_operands type.Truth x y ≡ Some t → (takes type.Truth x ≡ true) × (takes type.Truth y ≡ true)
  both_taken x y t h = by (takes type.Truth x) (takes type.Truth y) refl refl h
    where
      by : (p q : Bool) → takes type.Truth x ≡ p → takes type.Truth y ≡ q → (let o : Option ValueType = if p && q then Some type.Truth else None in o ≡ Some t) → (takes type.Truth x ≡ true) × (takes type.Truth y ≡ true)
      by true true e f h = (e, f)
      by true false e f h = absurd cc
      by false q e f h = absurd cc

  sides : (a b : Expr) → IsCondition (expr.And a b) → IsCondition a × IsCondition b
  sides a b c =
      let p = both_have (two_operands type.Truth) (type_of columns a) (type_of columns b) c.type (sym (type_and columns a b) ∙ c.is) in
      let q = both_taken p.0 p.1 c.type p.4 in
      (record { type = p.0; is = p.2; taken = q.0 }, record { type = p.1; is = p.3; taken = q.1 })

  abbrev IsSplit : Expr → Type 0
  IsSplit e = IsCondition e → All (IsTest columns) (conjuncts e)

  split_other : (z : Expr-F Expr) → is_other z ≡ true → IsSplit (roll-Expr z)
  split_other z h c = rw (at_level z h) (All-one (IsTest columns) (roll-Expr z) (record { truth = c; whole = is_no_and z h }))

  split_level : (y : Expr-F ((e : Expr) × IsSplit e)) → IsSplit (roll-Expr (map-Expr ((e : Expr) × IsSplit e) Expr (λ e. e.0) y))
  split_level (Expr-F.Lit c) = split_other (Expr-F.Lit c) refl
  split_level (Expr-F.Col place) = split_other (Expr-F.Col place) refl
  split_level (Expr-F.Neg a) = split_other (Expr-F.Neg a.0) refl
  split_level (Expr-F.Not a) = split_other (Expr-F.Not a.0) refl
  split_level (Expr-F.Arith o a b) = split_other (Expr-F.Arith o a.0 b.0) refl
  split_level (Expr-F.Cmp t a b) = split_other (Expr-F.Cmp t a.0 b.0) refl
  split_level (Expr-F.And a b) = subst IsSplit (sym (rolls-And a.0 b.0)) (λ c.
      let both = sides a.0 b.0 c in
      rw (of_and a.0 b.0) (All-append (IsTest columns) (conjuncts a.0) (conjuncts b.0) (a.1 both.0) (b.1 both.1)))
  split_level (Expr-F.Or a b) = split_other (Expr-F.Or a.0 b.0) refl
  split_level (Expr-F.IsNull a is_not) = split_other (Expr-F.IsNull a.0 is_not) refl

  pub all_tests : (e : Expr) → IsSplit e
  all_tests = ind-Expr IsSplit (λ x y is. subst (λ (z : Expr-F Expr). IsSplit (roll-Expr z)) is (split_level y))
