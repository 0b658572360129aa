-- A right row whose pair with a left row passes the usable links and tests is found beside it by the chosen join.
use Rattle.std.proofs.Common.{map, ◌≡◌, ℕ, ◌+◌, ◌-◌, ◌<◌, ◌≤◌, Bool, true, false, not, ◌&&◌, nat_eq, nat_le, nat_lt, if◌then◌else◌, Option, Some, None, List, [], ◌∷◌, ◌++◌, length, refl, sym, ap, subst, ◌∙◌, arith}
use Rattle.std.specs.List.{All, cons_option, filter_map, find, list_any}
use Rattle.std.specs.Option.{option_and_then, option_map, option_or}
use Rattle.std.specs.Ordering.{is_eq}
use Rattle.std.proofs.lemmas.Bool.{and_parts, eqb-true, leb-true, ltb-true}
use Rattle.std.proofs.lemmas.List.{get_or_append_left, get_or-append_right}
use Rattle.std.proofs.lemmas.List.Elements.{All-nil, All-cons, All-head, All-tail}
use Rattle.geo_base.specs.Cells.{is_null}
use Rattle.geo_base.specs.Order.{cell_cmp}
use Rattle.geo_base.specs.declared.cell.Cell.{Cell}
use Rattle.geo_base.specs.declared.cell.Cell.TheVariants.{Null}
use Rattle.geo_base.specs.laws.Orders.{same_cell}
use Rattle.geo_schema.specs.Schemas.{Tables, table_at}
use Rattle.row_source.specs.Handing.{are_linked, cell_at, finds_by, part_cell}
use Rattle.row_source.specs.Sources.{Entry, Fits}
use Rattle.row_source.specs.declared.plan.JoinKind.{JoinKind}
use Rattle.row_source.specs.declared.plan.JoinKind.TheVariants as join
use Rattle.row_source.specs.declared.plan.KeyPart.{KeyPart}
use Rattle.row_source.specs.declared.plan.KeyPart.TheVariants as part
use Rattle.sql_expr.specs.declared.expr.Expr.{Expr, out-Expr}
use Rattle.sql_expr.specs.declared.expr.Expr.TheOpen.{Expr-F}
use Rattle.sql_expr.specs.declared.expr.Expr.TheViews.{roll-Expr, roll-out-Expr}
use Rattle.sql_expr.specs.declared.expr.Test.{Test}
use Rattle.sql_expr.specs.declared.expr.Test.TheVariants as test
use Rattle.sql_plan.specs.Plans.{access_of, equal_cell, is_left, join_by_links, join_by_parts, join_of, linked_column, part_of, parts_of}
use Rattle.sql_plan.specs.Tests.{ColumnTest, Link, compared_columns, link_in, link_of, links_of, safe_tests}
use Rattle.sql_plan.proofs.Passing.{AreCompared, Passes, level_sides, seen_sides, turned_so}
use Rattle.sql_plan.proofs.Reached.{equal_is, found, is_equal, named, reached}
use Rattle.sql_plan.proofs.Safe.{IsPassed, value_at}

-- ---- cells that are linked

linked_by : (x y z : Bool) → x ≡ false → y ≡ false → z ≡ true → (not x && (not y && z)) ≡ true
linked_by true y z p q r = absurd cc
linked_by false true z p q r = absurd cc
linked_by false false z p q r = r

linked : (a b : Cell) → AreCompared test.Equal a b → are_linked a b ≡ true
linked a b r = linked_by (is_null a) (is_null b) (is_eq (cell_cmp a b)) r.left r.right r.holds

equal_by : (x y z : Bool) → (not x && (not y && z)) ≡ true → z ≡ true
equal_by true y z h = absurd cc
equal_by false true z h = absurd cc
equal_by false false z h = h

linked_same : (a b : Cell) → are_linked a b ≡ true → a ≡ b
linked_same a b h = same_cell a b (is_equal (cell_cmp a b) (equal_by (is_null a) (is_null b) (is_eq (cell_cmp a b)) h))

-- ---- links that are true

no_link : {P : Type 0} (u : Link) → None ≡ Some u → P
no_link u h = absurd cc

-- a link between two cells of a pair of rows
pub record Ties (left right : List Cell) (l : Link) : Type 0 where
  pub so : are_linked (cell_at left l.left) (cell_at right l.right) ≡ true

module _ (left right : List Cell) (lefts rights : ℕ) (wide : length left ≡ lefts) where
  abbrev row : List Cell
  row = left ++ right

  left_cell : (a : ℕ) → a < lefts → cell_at row a ≡ cell_at left a
  left_cell a h =
      let within : a < length left = omega arith in
      get_or_append_left left right Null a within

  right_cell : (b : ℕ) → lefts ≤ b → cell_at row b ≡ cell_at right (b - lefts)
  right_cell b h = get_or-append_right left right lefts b Null wide h

  tied : (a b : ℕ) → a < lefts → lefts ≤ b → AreCompared test.Equal (cell_at row a) (cell_at row b) → Ties left right (record { left = a; right = b - lefts })
  tied a b p q r =
      record {
        so = linked (cell_at left a) (cell_at right (b - lefts))
            (subst (λ (c : Cell). AreCompared test.Equal c (cell_at right (b - lefts))) (left_cell a p)
            (subst (λ (c : Cell). AreCompared test.Equal (cell_at row a) c) (right_cell b q) r));
      }

  -- what the test of two places asks
  abbrev are_sides : ℕ → ℕ → Bool
  are_sides a b = nat_lt a lefts && (nat_le lefts b && nat_lt b (lefts + rights))

  sided : (a b : ℕ) → are_sides a b ≡ true → (a < lefts) × (lefts ≤ b)
  sided a b h =
      let p = and_parts (nat_lt a lefts) (nat_le lefts b && nat_lt b (lefts + rights)) h in
      let q = and_parts (nat_le lefts b) (nat_lt b (lefts + rights)) p.1 in
      (ltb-true a lefts p.0, leb-true lefts b q.0)

  of_places_by : (a b : ℕ) (u : Link) (s t : Bool) → are_sides a b ≡ s → are_sides b a ≡ t → AreCompared test.Equal (cell_at row a) (cell_at row b) →
      (if s then Some (record { left = a; right = b - lefts }) else if t then Some (record { left = b; right = a - lefts }) else None) ≡ Some u → Ties left right u
  of_places_by a b u true t p q r h =
      let (x, y) = sided a b p in
      let e : (let l : Link = record { left = a; right = b - lefts } in l ≡ u) = cc in
      subst (Ties left right) e (tied a b x y r)
  of_places_by a b u false true p q r h =
      let (x, y) = sided b a q in
      let e : (let l : Link = record { left = b; right = a - lefts } in l ≡ u) = cc in
      subst (Ties left right) e (tied b a x y (turned_so test.Equal (cell_at row a) (cell_at row b) r))
  of_places_by a b u false false p q r h = no_link u h

  of_places : (a b : ℕ) (u : Link) → AreCompared test.Equal (cell_at row a) (cell_at row b) → link_of lefts rights a b ≡ Some u → Ties left right u
  of_places a b u r h = of_places_by a b u (are_sides a b) (are_sides b a) refl refl r h

  of_sides : (t : Test) (z w : Expr-F Expr) (u : Link) → IsPassed row (roll-Expr (Expr-F.Cmp t (roll-Expr z) (roll-Expr w))) → compared_columns lefts rights t z w ≡ Some u → Ties left right u
  of_sides test.Equal (Expr-F.Col a) (Expr-F.Col b) u h is =
      of_places a b u (level_sides row test.Equal (Expr-F.Col a) (Expr-F.Col b) (cell_at row a) (cell_at row b) (value_at row (Expr-F.Col a)) (value_at row (Expr-F.Col b)) h) is
  of_sides _ _ _ u h is = no_link u is

  of_level : (z : Expr-F Expr) (u : Link) → IsPassed row (roll-Expr z) → link_in lefts rights z ≡ Some u → Ties left right u
  of_level (Expr-F.Cmp t a b) u h is = of_sides t (out-Expr a) (out-Expr b) u (seen_sides row t a b h) is
  of_level _ u h is = no_link u is

  of_expression : (e : Expr) (u : Link) → IsPassed row e → link_in lefts rights (out-Expr e) ≡ Some u → Ties left right u
  of_expression e u h is = of_level (out-Expr e) u (subst (IsPassed row) (sym (roll-out-Expr e)) h) is

  added : (e : Expr) (o : Option Link) (rest : List Link) → IsPassed row e → link_in lefts rights (out-Expr e) ≡ o → All (Ties left right) rest → All (Ties left right) (cons_option o rest)
  added e None rest h is all = all
  added e (Some u) rest h is all = All-cons (Ties left right) u rest (of_expression e u h is) all

  all_tie : (es : List Expr) → All (IsPassed row) es → All (Ties left right) (filter_map (λ e. link_in lefts rights (out-Expr e)) es)
  all_tie [] h = All-nil (Ties left right)
  all_tie (e ∷ es) h =
      added e (link_in lefts rights (out-Expr e)) (filter_map (λ x. link_in lefts rights (out-Expr x)) es) (All-head (IsPassed row) e es h) refl (all_tie es (All-tail (IsPassed row) e es h))

  pub links_tie : (tests : List Expr) → All (IsPassed row) (safe_tests tests) → All (Ties left right) (links_of lefts rights tests)
  unfolding links_of
  links_tie tests h = all_tie (safe_tests tests) h

-- ---- the chosen join

module _ (left cells : List Cell) (ts : List ColumnTest) (pass : All (Passes cells) ts) (ls : List Link) (tie : All (Ties left cells) ls) where
  linked_cell_by : (column place : ℕ) (o : Option Link) → find (λ l. nat_eq l.right column) ls ≡ o → option_map (λ l. l.left) o ≡ Some place → cell_at left place ≡ cell_at cells column
  linked_cell_by column place None q h = absurd cc
  linked_cell_by column place (Some l) q h =
      let (s, p) = found (λ (k : Link). nat_eq k.right column) (Ties left cells) ls l tie q in
      let here : l.right ≡ column = eqb-true l.right column s in
      let there : l.left ≡ place = cc in
      let same : cell_at left l.left ≡ cell_at cells l.right = linked_same (cell_at left l.left) (cell_at cells l.right) p.so in
      ap (cell_at left) (sym there) ∙ same ∙ ap (cell_at cells) here

  linked_cell : (column place : ℕ) → linked_column ls column ≡ Some place → cell_at left place ≡ cell_at cells column
  linked_cell column place h = linked_cell_by column place (find (λ l. nat_eq l.right column) ls) refl h

  part_by : (column : ℕ) (p : KeyPart) (o : Option Cell) (q : Option ℕ) → equal_cell ts column ≡ o → linked_column ls column ≡ q →
      option_or (option_map part.Lit o) (option_map part.Left q) ≡ Some p → part_cell left p ≡ cell_at cells column
  part_by column p (Some c) q x y h =
      let e : part.Lit c ≡ p = cc in
      sym (ap (part_cell left) e) ∙ equal_is cells ts pass column c x
  part_by column p None (Some place) x y h =
      let e : part.Left place ≡ p = cc in
      sym (ap (part_cell left) e) ∙ linked_cell column place y
  part_by column p None None x y h = absurd cc

  part_is : (column : ℕ) (p : KeyPart) → part_of ts ls column ≡ Some p → part_cell left p ≡ cell_at cells column
  part_is column p h = part_by column p (equal_cell ts column) (linked_column ls column) refl refl h

  more_parts : (column : ℕ) (columns : List ℕ) (parts : List KeyPart) (o : Option KeyPart) (rest : Option (List KeyPart)) → part_of ts ls column ≡ o → parts_of ts ls columns ≡ rest →
      ((ps : List KeyPart) → rest ≡ Some ps → map (part_cell left) ps ≡ map (cell_at cells) columns) →
      option_and_then (λ p. option_map (λ ps. p ∷ ps) rest) o ≡ Some parts → map (part_cell left) parts ≡ map (cell_at cells) (column ∷ columns)
  more_parts column columns parts None rest x y later h = absurd cc
  more_parts column columns parts (Some p) None x y later h = absurd cc
  more_parts column columns parts (Some p) (Some ps) x y later h =
      let e : p ∷ ps ≡ parts = cc in
      let first : part_cell left p ≡ cell_at cells column = part_is column p x in
      let rest : map (part_cell left) ps ≡ map (cell_at cells) columns = later ps refl in
      let both : map (part_cell left) (p ∷ ps) ≡ map (cell_at cells) (column ∷ columns) = cc in
      sym (ap (map (part_cell left)) e) ∙ both

  parts_are : (columns : List ℕ) (parts : List KeyPart) → parts_of ts ls columns ≡ Some parts → map (part_cell left) parts ≡ map (cell_at cells) columns
  parts_are [] parts h =
      let e : (let none : List KeyPart = [] in none ≡ parts) = cc in
      sym (ap (map (part_cell left)) e)
  parts_are (column ∷ columns) parts h =
      more_parts column columns parts (part_of ts ls column) (parts_of ts ls columns) refl refl (parts_are columns) h

either_way : (R : JoinKind → Type 0) (b : Bool) (x y : JoinKind) → R x → R y → R (if b then x else y)
either_way R true x y p q = p
either_way R false x y p q = q

hold_both : (a b : Bool) → a ≡ true → b ≡ true → (a && b) ≡ true
hold_both true true p q = refl
hold_both true false p q = absurd cc
hold_both false b p q = absurd cc

module _ (tables : Tables) (number : ℕ) (entry : Entry) (fits : Fits tables entry) (here : entry.0.table ≡ number) (ts : List ColumnTest) (pass : All (Passes entry.1) ts)
    (left : List Cell) (ls : List Link) (tie : All (Ties left entry.1) ls) where
  abbrev IsFound : JoinKind → Type 0
  IsFound kind = finds_by tables number (access_of (table_at tables number) ts) kind left entry ≡ true

  by_links : (some : List Link) → All (Ties left entry.1) some → IsFound (join_by_links some)
  by_links [] all = reached tables number entry fits here ts pass
  by_links (l ∷ some) all = let p = All-head (Ties left entry.1) l some all in hold_both _ _ (reached tables number entry fits here ts pass) p.so

  by_parts : (o : Option (List KeyPart)) → parts_of ts ls (table_at tables number).key ≡ o → IsFound (join_by_parts ls o)
  by_parts None h = by_links ls tie
  by_parts (Some parts) h =
      either_way IsFound (list_any is_left parts) (join.ByKey parts) (join_by_links ls)
      (named tables number entry fits here ts pass (map (part_cell left) parts) (parts_are left entry.1 ts pass ls tie (table_at tables number).key parts h))
      (by_links ls tie)

  pub joined : IsFound (join_of (table_at tables number) ts ls)
  unfolding join_of
  joined = by_parts (parts_of ts ls (table_at tables number).key) refl
