-- Bound expressions have the types that binding gives them, and where only columns of GROUP BY may stand they have no others.
use Rattle.std.proofs.Common.{◌≡◌, ℕ, zero, suc, ◌+◌, ◌<◌, Bool, true, false, ◌&&◌, if◌then◌else◌, Option, Some, None, List, [], ◌∷◌, ◌++◌, length, Result, Ok, refl, sym, ap, subst, ◌∙◌, zero-add, arith}
use Rattle.std.specs.Prelude.{⊤, slice_get}
use Rattle.std.specs.Option.{option_and_then, option_map}
use Rattle.std.proofs.lemmas.Bool.{and_from}
use Rattle.std.proofs.lemmas.List.Quantifiers.{position-Some}
use Rattle.geo_base.specs.Order.{text_eq}
use Rattle.geo_base.specs.Results.{◌>>=◌}
use Rattle.geo_base.specs.laws.Results.{ok_is, bind_ok}
use Rattle.geo_schema.specs.declared.column.ColumnDef.{ColumnDef}
use Rattle.geo_schema.specs.Schemas.{Tables}
use Rattle.geo_schema.specs.Tables.{no_column}
use Rattle.sql_ast.specs.declared.ast.Ast.{Ast}
use Rattle.sql_ast.specs.declared.ast.Ast.TheFolds.{map-Ast, ind-Ast}
use Rattle.sql_ast.specs.declared.ast.Ast.TheOpen.{Ast-F}
use Rattle.sql_ast.specs.declared.ast.Ast.TheVariants as ast
use Rattle.sql_ast.specs.declared.ast.Ast.TheViews.{roll-Ast}
use Rattle.sql_ast.specs.declared.ast.AstOp.{AstOp}
use Rattle.sql_ast.specs.declared.ast.AstOp.TheVariants as written
use Rattle.sql_ast.specs.declared.ast.ColRef.{ColRef}
use Rattle.sql_expr.specs.declared.expr.Expr.{Expr}
use Rattle.sql_expr.specs.declared.expr.Expr.TheVariants as expr
use Rattle.sql_expr.specs.declared.expr.Op.{Op}
use Rattle.sql_expr.specs.declared.expr.Op.TheVariants as op
use Rattle.sql_expr.specs.declared.expr.Test.{Test}
use Rattle.sql_expr.specs.declared.expr.Test.TheVariants as test
use Rattle.sql_expr.specs.declared.value_type.ValueType.{ValueType}
use Rattle.sql_expr.specs.declared.value_type.ValueType.TheVariants as type
use Rattle.sql_expr.specs.Types.{takes, one_operand, two_operands, comparison, of_both, type_of}
use Rattle.sql_bind.specs.declared.expressions.Typed.{Typed}
use Rattle.sql_bind.specs.declared.fault.BindFault.{BindFault}
use Rattle.sql_bind.specs.declared.fault.BindFault.TheVariants as fault
use Rattle.sql_bind.specs.declared.names.Found.{Found}
use Rattle.sql_bind.specs.declared.scope.Known.{Known}
use Rattle.sql_bind.specs.declared.scope.Scope.{Scope}
use Rattle.sql_bind.specs.Expressions.{typed, operator, negated, denied, null_test, joined, expression_of, taken_by, of_any_type}
use Rattle.sql_bind.specs.Names.{columns_of, known_columns, column_types, type_at, place_named, is_meant, found_at, found_in, only_one, found_of, is_allowed, column_meant}
use Rattle.sql_bind.specs.Sound.{IsTypedFor, HasType, is_of_columns}
use Rattle.sql_bind.specs.Steps.{◌>>◌, refused_unless}
use Rattle.sql_bind.proofs.Levels as levels

-- ---- columns

-- a column that was found in a table is one of its columns
pub record IsFoundIn (first : ℕ) (columns : List ColumnDef) (found : Found) : Type 0 where
  pub place : ℕ
  pub within : place < length columns
  pub is : found ≡ found_at first columns place

module _ (tables : Tables) (first : ℕ) (name : ColRef) (found : Found) where
  placed : (columns : List ColumnDef) (o : Option ℕ) → place_named columns name.name ≡ o → option_map (found_at first columns) o ≡ Some found → IsFoundIn first columns found
  placed columns None is h = absurd cc
  placed columns (Some place) is h = record {
    place = place;
    within = (position-Some (λ c. text_eq c.name name.name) columns place no_column is).0;
    is = by (found_at first columns place) h;
  }
    where
      by : (f : Found) → (let o : Option Found = Some f in o ≡ Some found) → found ≡ f
      by f e = cc

  meant : (columns : List ColumnDef) (b : Bool) → (if b then option_map (found_at first columns) (place_named columns name.name) else None) ≡ Some found → IsFoundIn first columns found
  meant columns true h = placed columns (place_named columns name.name) refl h
  meant columns false h = absurd cc

  pub is_found_in : (known : Option Known) → found_in tables first name known ≡ Some found → IsFoundIn first (known_columns tables known) found
  is_found_in None h = absurd cc
  is_found_in (Some known) h = meant (columns_of tables known.table) (is_meant name.table known) h

-- the type of a column among those of all
type_in : (columns : List ColumnDef) (place : ℕ) → place < length columns → slice_get (column_types columns) place ≡ Some (type_at columns place)
type_in [] place h = absurd (omega arith)
type_in (c ∷ columns) zero h = refl
type_in (c ∷ columns) (suc place) h = type_in columns place (omega arith)

in_left : {A : Type 0} (xs ys : List A) (k : ℕ) (x : A) → slice_get xs k ≡ Some x → slice_get (xs ++ ys) k ≡ Some x
in_left [] ys k x h = absurd cc
in_left (y ∷ xs) ys zero x h = h
in_left (y ∷ xs) ys (suc k) x h = in_left xs ys k x h

in_right : {A : Type 0} (xs ys : List A) (k : ℕ) → slice_get (xs ++ ys) (length xs + k) ≡ slice_get ys k
in_right {A} [] ys k = ap (λ (n : ℕ). slice_get ys n) (zero-add k)
in_right {A} (x ∷ xs) ys k =
    let next : length (x ∷ xs) + k ≡ suc (length xs + k) = omega arith in
    ap (λ (n : ℕ). slice_get (x ∷ (xs ++ ys)) n) next ∙ in_right xs ys k

pub types_count : (columns : List ColumnDef) → length (column_types columns) ≡ length columns
types_count [] = refl
types_count (c ∷ columns) = ap suc (types_count columns)

module _ (tables : Tables) (scope : Scope) where
  abbrev pub left_columns : List ColumnDef
  left_columns = known_columns tables scope.left

  abbrev pub right_columns : List ColumnDef
  right_columns = known_columns tables scope.right

  -- the types of the columns of the tables
  abbrev pub scope_types : List ValueType
  scope_types = column_types left_columns ++ column_types right_columns

  -- the column has a number among those of the tables, and its type
  abbrev pub IsColumn : Found → Type 0
  IsColumn found = slice_get scope_types found.place ≡ Some found.value_type

  from_left : (found : Found) → IsFoundIn 0 left_columns found → IsColumn found
  from_left found r =
      let here = type_in left_columns r.place r.within in
      subst IsColumn (sym r.is) (subst (λ (n : ℕ). slice_get scope_types n ≡ Some (type_at left_columns r.place)) (sym (zero-add r.place)) (in_left (column_types left_columns) (column_types right_columns) r.place _ here))

  from_right : (found : Found) → IsFoundIn (length left_columns) right_columns found → IsColumn found
  from_right found r =
      let here = type_in right_columns r.place r.within in
      let behind = in_right (column_types left_columns) (column_types right_columns) r.place ∙ here in
      subst IsColumn (sym r.is) (subst (λ (n : ℕ). slice_get scope_types (n + r.place) ≡ Some (type_at right_columns r.place)) (types_count left_columns) behind)

  chosen : (name : ColRef) (found : Found) (a b : Option Found) → only_one name a b ≡ Ok found →
      ((x : Found) → a ≡ Some x → IsColumn x) → ((x : Found) → b ≡ Some x → IsColumn x) → IsColumn found
  chosen name found None None h f g = absurd cc
  chosen name found (Some x) None h f g = subst IsColumn (ok_is x found h) (f x refl)
  chosen name found None (Some x) h f g = subst IsColumn (ok_is x found h) (g x refl)
  chosen name found (Some x) (Some y) h f g = absurd cc

  is_column : (name : ColRef) (found : Found) → found_of tables scope name ≡ Ok found → IsColumn found
  unfolding found_of
  is_column name found h =
      chosen name found (found_in tables 0 name scope.left) (found_in tables (length left_columns) name scope.right) h
      (λ x e. from_left x (is_found_in tables 0 name x scope.left e)) (λ x e. from_right x (is_found_in tables (length left_columns) name x scope.right e))

  allowed : (b : Bool) (e : BindFault) (x found : Found) → (let r : Result Found BindFault = refused_unless b e >> Ok x in r ≡ Ok found) → (b ≡ true) × (x ≡ found)
  allowed true e x found h = (refl, ok_is x found h)
  allowed false e x found h = absurd cc

  -- a column that may stand there
  pub record IsAllowed (found : Found) : Type 0 where
    pub column : IsColumn found
    pub group : is_allowed scope.group found.place ≡ true

  pub column_allowed : (name : ColRef) (found : Found) → column_meant tables scope name ≡ Ok found → IsAllowed found
  unfolding column_meant
  column_allowed name found h =
      let p = bind_ok (found_of tables scope name) _ found h in
      let q = allowed (is_allowed scope.group p.0.place) _ p.0 found p.2 in
      subst IsAllowed q.1 (record { column = is_column name p.0 p.1; group = q.0 })

-- ---- operators

-- the expression has columns of the list alone, where there is one
abbrev pub IsWithin : Option (List ℕ) → Expr → Type 0
IsWithin None e = ⊤
IsWithin (Some group) e = is_of_columns group e ≡ true

within_same : (group : Option (List ℕ)) (a b : Expr) → ((g : List ℕ) → is_of_columns g b ≡ is_of_columns g a) → IsWithin group a → IsWithin group b
within_same None a b e w = tt
within_same (Some g) a b e w = e g ∙ w

within_both : (group : Option (List ℕ)) (a b c : Expr) → ((g : List ℕ) → is_of_columns g c ≡ (is_of_columns g a && is_of_columns g b)) → IsWithin group a → IsWithin group b → IsWithin group c
within_both None a b c e v w = tt
within_both (Some g) a b c e v w = e g ∙ and_from (is_of_columns g a) (is_of_columns g b) v w

module _ (columns : List ValueType) (group : Option (List ℕ)) where
  -- the expression has its type, and its columns may stand there
  pub record Fits (t : Typed) : Type 0 where
    pub type : type_of columns t.expr ≡ Some t.value_type
    pub within : IsWithin group t.expr

  by_operator : (o : Option ValueType) (e : Expr) (t : Typed) → operator o e ≡ Ok t → type_of columns e ≡ o → IsWithin group e → Fits t
  by_operator None e t h same within = absurd cc
  by_operator (Some u) e t h same within = subst Fits (ok_is (typed e u) t h) (record { type = same; within = within })

  both_types : (rule : ValueType → ValueType → Option ValueType) (a b : Typed) → Fits a → Fits b → of_both rule (type_of columns a.expr) (type_of columns b.expr) ≡ rule a.value_type b.value_type
  both_types rule a b f g = rw (f.type, g.type) refl

  negated_fits : (x t : Typed) → Fits x → negated x ≡ Ok t → Fits t
  negated_fits x t f h =
      by_operator (one_operand type.Int x.value_type) (expr.Neg x.expr) t h (levels.type_neg columns x.expr ∙ ap (option_and_then (one_operand type.Int)) f.type)
      (within_same group x.expr (expr.Neg x.expr) (λ g. levels.within_neg g x.expr) f.within)

  denied_fits : (x t : Typed) → Fits x → denied x ≡ Ok t → Fits t
  denied_fits x t f h =
      by_operator (one_operand type.Truth x.value_type) (expr.Not x.expr) t h (levels.type_not columns x.expr ∙ ap (option_and_then (one_operand type.Truth)) f.type)
      (within_same group x.expr (expr.Not x.expr) (λ g. levels.within_not g x.expr) f.within)

  null_test_fits : (x : Typed) (is_not : Bool) → Fits x → Fits (null_test x is_not)
  null_test_fits x is_not f = record {
    type = levels.type_null_test columns x.expr is_not ∙ ap (option_map (λ (_ : ValueType). type.Truth)) f.type;
    within = within_same group x.expr (expr.IsNull x.expr is_not) (λ g. levels.within_null_test g x.expr is_not) f.within;
  }

  calculation_fits : (o : Op) (x y t : Typed) → Fits x → Fits y → operator (two_operands type.Int x.value_type y.value_type) (expr.Arith o x.expr y.expr) ≡ Ok t → Fits t
  calculation_fits o x y t f g h =
      by_operator (two_operands type.Int x.value_type y.value_type) (expr.Arith o x.expr y.expr) t h (levels.type_arithmetic columns o x.expr y.expr ∙ both_types (two_operands type.Int) x y f g)
      (within_both group x.expr y.expr _ (λ l. levels.within_arithmetic l o x.expr y.expr) f.within g.within)

  compared_fits : (o : Test) (x y t : Typed) → Fits x → Fits y → operator (comparison x.value_type y.value_type) (expr.Cmp o x.expr y.expr) ≡ Ok t → Fits t
  compared_fits o x y t f g h =
      by_operator (comparison x.value_type y.value_type) (expr.Cmp o x.expr y.expr) t h (levels.type_comparison columns o x.expr y.expr ∙ both_types comparison x y f g)
      (within_both group x.expr y.expr _ (λ l. levels.within_comparison l o x.expr y.expr) f.within g.within)

  joined_fits : (o : AstOp) (x y t : Typed) → Fits x → Fits y → joined o x y ≡ Ok t → Fits t
  joined_fits written.Plus x y t f g h = calculation_fits op.Plus x y t f g h
  joined_fits written.Minus x y t f g h = calculation_fits op.Minus x y t f g h
  joined_fits written.Times x y t f g h = calculation_fits op.Times x y t f g h
  joined_fits written.Divide x y t f g h = calculation_fits op.Divide x y t f g h
  joined_fits written.Equal x y t f g h = compared_fits test.Equal x y t f g h
  joined_fits written.Differ x y t f g h = compared_fits test.Differ x y t f g h
  joined_fits written.Less x y t f g h = compared_fits test.Less x y t f g h
  joined_fits written.LessEqual x y t f g h = compared_fits test.LessEqual x y t f g h
  joined_fits written.More x y t f g h = compared_fits test.More x y t f g h
  joined_fits written.MoreEqual x y t f g h = compared_fits test.MoreEqual x y t f g h
  joined_fits written.And x y t f g h =
      by_operator (two_operands type.Truth x.value_type y.value_type) (expr.And x.expr y.expr) t h (levels.type_and columns x.expr y.expr ∙ both_types (two_operands type.Truth) x y f g)
      (within_both group x.expr y.expr _ (λ l. levels.within_and l x.expr y.expr) f.within g.within)
  joined_fits written.Or x y t f g h =
      by_operator (two_operands type.Truth x.value_type y.value_type) (expr.Or x.expr y.expr) t h (levels.type_or columns x.expr y.expr ∙ both_types (two_operands type.Truth) x y f g)
      (within_both group x.expr y.expr _ (λ l. levels.within_or l x.expr y.expr) f.within g.within)

-- ---- expressions

column_within : (group : Option (List ℕ)) (place : ℕ) → is_allowed group place ≡ true → IsWithin group (expr.Col place)
column_within None place e = tt
column_within (Some g) place e = levels.within_column g place ∙ e

literal_within : (group : Option (List ℕ)) (c : _) → IsWithin group (expr.Lit c)
literal_within None c = tt
literal_within (Some g) c = levels.within_literal g c

module _ (tables : Tables) (scope : Scope) where
  abbrev pub IsFitting : Typed → Type 0
  IsFitting = Fits (scope_types tables scope) scope.group

  -- what binding the expression gives fits
  abbrev pub IsTold : Ast → Type 0
  IsTold a = (t : Typed) → expression_of tables scope a ≡ Ok t → IsFitting t

  told_column : (name : ColRef) → IsTold (ast.Column name)
  told_column name t h =
      let p = bind_ok (column_meant tables scope name) _ t (sym (levels.of_column tables scope name) ∙ h) in
      let found = p.0 in
      let r = column_allowed tables scope name found p.1 in
      subst IsFitting (ok_is (typed (expr.Col found.place) found.value_type) t p.2) (record {
        type = levels.type_column (scope_types tables scope) found.place ∙ r.column;
        within = column_within scope.group found.place r.group;
      })

  told_neg : (a : Ast) → IsTold a → IsTold (ast.Neg a)
  told_neg a told t h =
      let p = bind_ok (expression_of tables scope a) (λ x. negated x) t (sym (levels.of_neg tables scope a) ∙ h) in
      negated_fits (scope_types tables scope) scope.group p.0 t (told p.0 p.1) p.2

  told_not : (a : Ast) → IsTold a → IsTold (ast.Not a)
  told_not a told t h =
      let p = bind_ok (expression_of tables scope a) (λ x. denied x) t (sym (levels.of_not tables scope a) ∙ h) in
      denied_fits (scope_types tables scope) scope.group p.0 t (told p.0 p.1) p.2

  told_binary : (o : AstOp) (a b : Ast) → IsTold a → IsTold b → IsTold (ast.Binary o a b)
  told_binary o a b told_a told_b t h =
      let p = bind_ok (expression_of tables scope a) (λ x. expression_of tables scope b >>= λ y. joined o x y) t (sym (levels.of_binary tables scope o a b) ∙ h) in
      let q = bind_ok (expression_of tables scope b) (λ y. joined o p.0 y) t p.2 in
      joined_fits (scope_types tables scope) scope.group o p.0 q.0 t (told_a p.0 p.1) (told_b q.0 q.1) q.2

  told_null_test : (a : Ast) (is_not : Bool) → IsTold a → IsTold (ast.IsNull a is_not)
  told_null_test a is_not told t h =
      let p = bind_ok (expression_of tables scope a) (λ x. Ok (null_test x is_not)) t (sym (levels.of_null_test tables scope a is_not) ∙ h) in
      subst IsFitting (ok_is (null_test p.0 is_not) t p.2) (null_test_fits (scope_types tables scope) scope.group p.0 is_not (told p.0 p.1))

  told_level : (y : Ast-F ((a : Ast) × IsTold a)) → IsTold (roll-Ast (map-Ast ((a : Ast) × IsTold a) Ast (λ e. e.0) y))
  told_level (Ast-F.Lit c) = subst IsTold (sym (ast.rolls-Lit c)) (λ t h.
      subst IsFitting (ok_is _ t (sym (levels.of_literal tables scope c) ∙ h)) (record { type = levels.type_literal (scope_types tables scope) c; within = literal_within scope.group c }))
  told_level (Ast-F.Column name) = subst IsTold (sym (ast.rolls-Column name)) (told_column name)
  told_level (Ast-F.Neg a) = subst IsTold (sym (ast.rolls-Neg a.0)) (told_neg a.0 a.1)
  told_level (Ast-F.Not a) = subst IsTold (sym (ast.rolls-Not a.0)) (told_not a.0 a.1)
  told_level (Ast-F.Binary o a b) = subst IsTold (sym (ast.rolls-Binary o a.0 b.0)) (told_binary o a.0 b.0 a.1 b.1)
  told_level (Ast-F.IsNull a is_not) = subst IsTold (sym (ast.rolls-IsNull a.0 is_not)) (told_null_test a.0 is_not a.1)

  pub fitting : (a : Ast) → IsTold a
  fitting = ind-Ast IsTold (λ x y is. subst (λ (z : Ast-F Ast). IsTold (roll-Ast z)) is (told_level y))

  -- ---- as a whole

  -- a bound expression: of any type, or of a type that is taken
  pub record IsBoundTo (e : Expr) : Type 0 where
    pub type : HasType (scope_types tables scope) e
    pub within : IsWithin scope.group e

  pub any_fits : (a : Ast) (e : Expr) → of_any_type tables scope a ≡ Ok e → IsBoundTo e
  unfolding of_any_type
  any_fits a e h =
      let p = bind_ok (expression_of tables scope a) (λ x. Ok x.expr) e h in
      let f = fitting a p.0 p.1 in
      subst IsBoundTo (ok_is p.0.expr e p.2) (record { type = record { type = p.0.value_type; is = f.type }; within = f.within })

  taken : (b : Bool) (x e : Expr) → (let r : Result Expr BindFault = refused_unless b fault.TypeClash >> Ok x in r ≡ Ok e) → (b ≡ true) × (x ≡ e)
  taken true x e h = (refl, ok_is x e h)
  taken false x e h = absurd cc

  pub taken_fits : (wanted : ValueType) (a : Ast) (e : Expr) → taken_by wanted tables scope a ≡ Ok e → IsTypedFor wanted (scope_types tables scope) e
  unfolding taken_by
  taken_fits wanted a e h =
      let p = bind_ok (expression_of tables scope a) _ e h in
      let q = taken (takes wanted p.0.value_type) p.0.expr e p.2 in
      let f = fitting a p.0 p.1 in
      subst (IsTypedFor wanted (scope_types tables scope)) q.1 (record { type = p.0.value_type; is = f.type; taken = q.0 })
