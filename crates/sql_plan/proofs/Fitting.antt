-- The chosen plan fits its tables: what it names is theirs.
use Rattle.std.proofs.Common.{◌≡◌, ℕ, ◌+◌, ◌-◌, ◌<◌, ◌≤◌, Bool, true, false, ◌&&◌, ◌||◌, nat_eq, nat_le, nat_lt, if◌then◌else◌, Option, Some, None, List, [], ◌∷◌, length, refl, sym, subst, arith}
use Rattle.std.specs.List.{All, cons_option, filter_map, find, list_any}
use Rattle.std.specs.Option.{option_and_then, option_map, option_or}
use Rattle.std.proofs.lemmas.Bool.{and_parts, leb-true, ltb-true}
use Rattle.std.proofs.lemmas.List.Elements.{All-nil, All-cons, All-head}
use Rattle.std.proofs.lemmas.List.Quantifiers.{position-Some}
use Rattle.geo_base.specs.declared.cell.Cell.{Cell}
use Rattle.geo_schema.specs.Schemas.{Tables, table_at}
use Rattle.geo_schema.specs.declared.index.IndexDef.{IndexDef}
use Rattle.geo_schema.specs.declared.table.TableDef.{TableDef}
use Rattle.row_source.specs.Handing.{IsAccessTo, IsJoinOf, IsPartBeside, IsPlanFor}
use Rattle.geo_schema.specs.Indexes.{no_index}
use Rattle.row_source.specs.declared.plan.Access.TheVariants as access
use Rattle.row_source.specs.declared.plan.JoinKind.TheVariants as join
use Rattle.row_source.specs.declared.plan.KeyPart.{KeyPart}
use Rattle.row_source.specs.declared.plan.KeyPart.TheVariants as part
use Rattle.row_source.specs.declared.plan.Plan.{Plan}
use Rattle.sql_expr.specs.declared.expr.Expr.{Expr, out-Expr}
use Rattle.sql_expr.specs.declared.expr.Expr.TheOpen.{Expr-F}
use Rattle.sql_expr.specs.declared.expr.Test.{Test}
use Rattle.sql_expr.specs.declared.expr.Test.TheVariants as test
use Rattle.sql_plan.specs.Plans.{access_of, equal_cell, first_is, fixed_cells, index_access, index_where, is_bounded, is_fixed, is_left, join_by_links, join_by_parts, join_of, linked_column, part_of, parts_of, plan_of, width}
use Rattle.sql_plan.specs.Tests.{ColumnTest, Link, column_tests, compared_columns, link_in, links_of, safe_tests, tests_of}
use Rattle.sql_plan.proofs.Reached.{found}

either_way : {X : Type 0} (R : X → Type 0) (b : Bool) (x y : X) → R x → R y → R (if b then x else y)
either_way R true x y p q = p
either_way R false x y p q = q

-- ---- the access

chosen_by : (table : TableDef) (ts : List ColumnTest) (a b : Option ℕ) → index_where (is_fixed ts) table ≡ a → index_where (is_bounded ts) table ≡ b →
    IsAccessTo table (index_access table ts (option_or a b))
chosen_by table ts (Some place) b p q = let s = position-Some (λ (index : IndexDef). first_is (is_fixed ts) index.columns) table.indexes place no_index p in s.0
chosen_by table ts None (Some place) p q = let s = position-Some (λ (index : IndexDef). first_is (is_bounded ts) index.columns) table.indexes place no_index q in s.0
chosen_by table ts None None p q = tt

access_fits : (table : TableDef) (ts : List ColumnTest) → IsAccessTo table (access_of table ts)
unfolding access_of
access_fits table ts =
    either_way (IsAccessTo table) (nat_eq (length (fixed_cells ts table.key)) (length table.key)) (access.Point (fixed_cells ts table.key)) _ tt
    (either_way (IsAccessTo table) (first_is (λ column. is_fixed ts column || is_bounded ts column) table.key) (access.Range _) _ tt
    (chosen_by table ts (index_where (is_fixed ts) table) (index_where (is_bounded ts) table) refl refl))

-- ---- the links

-- the two columns of a link are those of their tables, which have so many
record IsBetween (lefts rights : ℕ) (l : Link) : Type 0 where
  pub left : l.left < lefts
  pub right : l.right < rights

module _ (lefts rights : ℕ) where
  -- what the test of two places asks
  abbrev are_sides : ℕ → ℕ → Bool
  are_sides a b = nat_lt a lefts && (nat_le lefts b && nat_lt b (lefts + rights))

  between : (a b : ℕ) → are_sides a b ≡ true → IsBetween lefts rights (record { left = a; right = b - lefts })
  between a b h =
      let p = and_parts (nat_lt a lefts) (nat_le lefts b && nat_lt b (lefts + rights)) h in
      let q = and_parts (nat_le lefts b) (nat_lt b (lefts + rights)) p.1 in
      let low : lefts ≤ b = leb-true lefts b q.0 in
      let high : b < lefts + rights = ltb-true b (lefts + rights) q.1 in
      record { left = ltb-true a lefts p.0; right = omega arith }

  of_places : (a b : ℕ) (rest : List Link) (s t : Bool) → are_sides a b ≡ s → are_sides b a ≡ t → All (IsBetween lefts rights) rest →
      All (IsBetween lefts rights) (cons_option (if s then Some (record { left = a; right = b - lefts }) else if t then Some (record { left = b; right = a - lefts }) else None) rest)
  of_places a b rest true t p q all = All-cons (IsBetween lefts rights) _ rest (between a b p) all
  of_places a b rest false true p q all = All-cons (IsBetween lefts rights) _ rest (between b a q) all
  of_places a b rest false false p q all = all

  of_sides : (t : Test) (z w : Expr-F Expr) (rest : List Link) → All (IsBetween lefts rights) rest → All (IsBetween lefts rights) (cons_option (compared_columns lefts rights t z w) rest)
  of_sides test.Equal (Expr-F.Col a) (Expr-F.Col b) rest all = of_places a b rest (are_sides a b) (are_sides b a) refl refl all
  of_sides _ _ _ rest all = all

  of_level : (z : Expr-F Expr) (rest : List Link) → All (IsBetween lefts rights) rest → All (IsBetween lefts rights) (cons_option (link_in lefts rights z) rest)
  of_level (Expr-F.Cmp t a b) rest all = of_sides t (out-Expr a) (out-Expr b) rest all
  of_level _ rest all = all

  all_between : (es : List Expr) → All (IsBetween lefts rights) (filter_map (λ e. link_in lefts rights (out-Expr e)) es)
  all_between [] = All-nil (IsBetween lefts rights)
  all_between (e ∷ es) = of_level (out-Expr e) (filter_map (λ x. link_in lefts rights (out-Expr x)) es) (all_between es)

  links_between : (tests : List Expr) → All (IsBetween lefts rights) (links_of lefts rights tests)
  unfolding links_of
  links_between tests = all_between (safe_tests tests)

-- ---- the join

module _ (left right : TableDef) (ts : List ColumnTest) (ls : List Link) (all : All (IsBetween (width left) (width right)) ls) where
  beside_by : (column place : ℕ) (o : Option Link) → find (λ l. nat_eq l.right column) ls ≡ o → option_map (λ l. l.left) o ≡ Some place → place < width left
  beside_by column place None q h = absurd cc
  beside_by column place (Some l) q h =
      let (s, p) = found (λ (k : Link). nat_eq k.right column) (IsBetween (width left) (width right)) ls l all q in
      let there : l.left ≡ place = cc in
      subst (λ (n : ℕ). n < width left) there p.left

  part_by : (column : ℕ) (p : KeyPart) (o : Option Cell) (q : Option ℕ) → linked_column ls column ≡ q →
      option_or (option_map part.Lit o) (option_map part.Left q) ≡ Some p → IsPartBeside left p
  part_by column p (Some c) q y h =
      let e : part.Lit c ≡ p = cc in
      subst (IsPartBeside left) e tt
  part_by column p None (Some place) y h =
      let e : part.Left place ≡ p = cc in
      subst (IsPartBeside left) e (beside_by column place (find (λ l. nat_eq l.right column) ls) refl y)
  part_by column p None None y h = absurd cc

  more_parts : (column : ℕ) (columns : List ℕ) (parts : List KeyPart) (o : Option KeyPart) (rest : Option (List KeyPart)) → part_of ts ls column ≡ o →
      ((ps : List KeyPart) → rest ≡ Some ps → All (IsPartBeside left) ps) →
      option_and_then (λ p. option_map (λ ps. p ∷ ps) rest) o ≡ Some parts → All (IsPartBeside left) parts
  more_parts column columns parts None rest x later h = absurd cc
  more_parts column columns parts (Some p) None x later h = absurd cc
  more_parts column columns parts (Some p) (Some ps) x later h =
      let e : p ∷ ps ≡ parts = cc in
      let first : IsPartBeside left p = part_by column p (equal_cell ts column) (linked_column ls column) refl x in
      subst (All (IsPartBeside left)) e (All-cons (IsPartBeside left) p ps first (later ps refl))

  parts_beside : (columns : List ℕ) (parts : List KeyPart) → parts_of ts ls columns ≡ Some parts → All (IsPartBeside left) parts
  parts_beside [] parts h =
      let e : (let none : List KeyPart = [] in none ≡ parts) = cc in
      subst (All (IsPartBeside left)) e (All-nil (IsPartBeside left))
  parts_beside (column ∷ columns) parts h =
      more_parts column columns parts (part_of ts ls column) (parts_of ts ls columns) refl (parts_beside columns) h

  by_links : (some : List Link) → All (IsBetween (width left) (width right)) some → IsJoinOf left right (join_by_links some)
  by_links [] h = tt
  by_links (l ∷ some) h = let p = All-head (IsBetween (width left) (width right)) l some h in (p.left, p.right)

  by_parts : (o : Option (List KeyPart)) → parts_of ts ls right.key ≡ o → IsJoinOf left right (join_by_parts ls o)
  by_parts None h = by_links ls all
  by_parts (Some parts) h =
      either_way (IsJoinOf left right) (list_any is_left parts) (join.ByKey parts) (join_by_links ls) (parts_beside right.key parts h) (by_links ls all)

  join_fits : IsJoinOf left right (join_of right ts ls)
  unfolding join_of
  join_fits = by_parts (parts_of ts ls right.key) refl

-- ---- the plan

pub plan_fits : (tables : Tables) (numbers : List ℕ) (tests : List Expr) → 1 ≤ length numbers → length numbers ≤ 2 → IsPlanFor tables numbers (plan_of tables numbers tests)
unfolding plan_of
plan_fits tables [] tests some few = absurd (omega arith)
plan_fits tables (left ∷ []) tests some few = (access_fits (table_at tables left) (tests_of 0 (width (table_at tables left)) (column_tests tests)), refl)
plan_fits tables (left ∷ right ∷ []) tests some few =
    let x = table_at tables left in
    let y = table_at tables right in
    let ts = tests_of (width x) (width y) (column_tests tests) in (
      access_fits x (tests_of 0 (width x) (column_tests tests)),
      (access_fits y ts, join_fits x y ts (links_of (width x) (width y) tests) (links_between (width x) (width y) tests)),
    )
plan_fits tables (left ∷ right ∷ _ ∷ _) tests some few = absurd (omega arith)

-- a plan that is the chosen one fits
pub chosen_fits : (tables : Tables) (numbers : List ℕ) (tests : List Expr) (plan : Plan) → 1 ≤ length numbers → length numbers ≤ 2 →
    plan ≡ plan_of tables numbers tests → IsPlanFor tables numbers plan
chosen_fits tables numbers tests plan some few is = subst (IsPlanFor tables numbers) (sym is) (plan_fits tables numbers tests some few)
