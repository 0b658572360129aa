-- Laws: what steps give that are done for each item of a list, and lists that are made of some items of others, in their
-- order.
use Rattle.std.proofs.Common.{◌≡◌, ◌⊎◌, inl, inr, ℕ, zero, suc, Bool, true, false, if◌then◌else◌, Some, List, [], ◌∷◌, ◌++◌, map, filter, All, IfOk, Result, Ok, Err, refl, sym, ap, ◌∙◌, subst, append_assoc, append-nil}
use Rattle.std.specs.List.{AllByRecursion, AllZip, slice_get}
use Rattle.std.specs.List.Sorted.{IsStrictlySortedBy}
use Rattle.std.specs.declared.cmp.Ordering.{Ordering}
use Rattle.std.specs.declared.cmp.Ordering.TheVariants.{Less}
use Rattle.std.proofs.lemmas.List.Elements.{All-cons, All-head, All-nil, All-tail}
use Rattle.std.proofs.lemmas.Option.{none-some, same_Some}
use Rattle.geo_base.specs.Results.{◌>>=◌}
use Rattle.geo_base.specs.declared.cell.Cell.{Cell}
use Rattle.geo_base.specs.laws.Results.{bind_ok, ok_is}
use Rattle.row_source.specs.Matches.{in_statement, kept_of}
use Rattle.row_source.specs.Sources.{Entry}
use Rattle.row_source.specs.declared.fault.ExecFault.{ExecFault}
use Rattle.sql_bind.specs.Steps.{each, each_behind}
use Rattle.sql_exec.specs.Effects.{updates_of}
use Rattle.sql_expr.specs.Conditions.{kept}
use Rattle.sql_expr.specs.declared.expr.Expr.{Expr}
use Rattle.sql_expr.specs.declared.fault.EvalFault.{EvalFault}
use Rattle.write_set.specs.Overlay.{Table}
use Rattle.write_set.specs.declared.row_change.RowChange.{RowChange}

-- ---- steps for each item

module _ {A B E : Type 0} where
  -- what each step keeps holds of the whole, where each item is as the steps need it
  pub all_behind : (step : List B → A → Result B E) (P : List B → Type 0) (Q : A → Type 0) →
      ((done : List B) (x : A) (y : B) → P done → Q x → step done x ≡ Ok y → P (done ++ y ∷ [])) →
      (done : List B) (items : List A) (out : List B) → P done → All Q items → each_behind step done items ≡ Ok out → P out
  all_behind step P Q keeps done [] out p q h = subst P (ok_is done out h) p
  all_behind step P Q keeps done (x ∷ items) out p q h =
      let made = bind_ok (step done x) (λ y. each_behind step (done ++ y ∷ []) items) out h in
      all_behind step P Q keeps (done ++ made.0 ∷ []) items out (keeps done x made.0 p (All-head Q x items q) made.1) (All-tail Q x items q) made.2

  -- each item gives the one at its place
  module _ (f : A → Result B E) where
    abbrev Gave : List A → List B → Type 0
    Gave items out = AllZip (λ x y. f x ≡ Ok y) items out

    each_from : (done : List B) (items : List A) (out : List B) → each_behind (λ _. f) done items ≡ Ok out → (rest : List B) × (out ≡ done ++ rest) × Gave items rest
    each_from done [] out h = ([], sym (append-nil done ∙ ok_is done out h), tt)
    each_from done (x ∷ items) out h =
        let made = bind_ok (f x) (λ y. each_behind (λ _. f) (done ++ y ∷ []) items) out h in
        let more : (rest : List B) × (out ≡ (done ++ made.0 ∷ []) ++ rest) × Gave items rest = each_from (done ++ made.0 ∷ []) items out made.2 in
        (made.0 ∷ more.0, more.1 ∙ append_assoc done (made.0 ∷ []) more.0, (made.1, more.2))

    pub each_gave : (items : List A) (out : List B) → each f items ≡ Ok out → Gave items out
    each_gave items out h = let r = each_from [] items out h in subst (Gave items) (sym r.1) r.2

-- what goes with the item at a place
pub zip_at : {A B : Type 0} (R : A → B → Type 0) (xs : List A) (ys : List B) (k : ℕ) (x : A) → AllZip R xs ys → slice_get xs k ≡ Some x → (y : B) × (slice_get ys k ≡ Some y) × R x y
zip_at R [] ys k x z h = absurd (none-some x h)
zip_at R (a ∷ xs) [] k x z h = absurd z
zip_at {A} {B} R (a ∷ xs) (b ∷ ys) zero x z h = (b, refl, subst (λ (w : A). R w b) (same_Some a x h) z.0)
zip_at R (a ∷ xs) (b ∷ ys) (suc k) x z h = zip_at R xs ys k x z.1 h

-- what holds of the value of an expression, if it has one, holds of the statement's
pub of_value : (P : Cell → Type 0) (r : Result Cell EvalFault) (v : Cell) → IfOk r P → in_statement r ≡ Ok v → P v
of_value P (Ok x) v p h = subst P (ok_is x v h) p
of_value P (Err e) v p h = absurd cc

-- ---- some items, in their order

module _ {X Y : Type 0} (Makes : X → Y → Type 0) where
  -- the second list is made of some items of the first, in their order
  abbrev pub IsMadeOf : List X → List Y → Type 0
  IsMadeOf [] made = made ≡ []
  IsMadeOf (x ∷ xs) made = IsMadeOf xs made ⊎ ((y : Y) × (rest : List Y) × (made ≡ y ∷ rest) × Makes x y × IsMadeOf xs rest)

  pub all_made : (Q : X → Type 0) (P : Y → Type 0) → ((x : X) (y : Y) → Q x → Makes x y → P y) → (xs : List X) (made : List Y) → All Q xs → IsMadeOf xs made → All P made
  all_made Q P makes [] made q m = subst (All P) (sym m) (All-nil P)
  all_made Q P makes (x ∷ xs) made q (inl m) = all_made Q P makes xs made (All-tail Q x xs q) m
  all_made Q P makes (x ∷ xs) made q (inr (y, rest, is, by, m)) =
      subst (All P) (sym is) (All-cons P y rest (makes x y (All-head Q x xs q) by) (all_made Q P makes xs rest (All-tail Q x xs q) m))

  -- what is made of items in rising order rises, where it has their keys
  module _ {K : Type 0} (compare : K → K → Ordering) (of : X → K) (key : Y → K) (same : (x : X) (y : Y) → Makes x y → key y ≡ of x) where
    above_made : (a : K) (xs : List X) (made : List Y) → AllByRecursion (λ k. compare a k ≡ Less) (map of xs) → IsMadeOf xs made →
        AllByRecursion (λ k. compare a k ≡ Less) (map key made)
    above_made a [] made above m = subst (λ (some : List Y). AllByRecursion (λ k. compare a k ≡ Less) (map key some)) (sym m) tt
    above_made a (x ∷ xs) made above (inl m) = above_made a xs made above.1 m
    above_made a (x ∷ xs) made above (inr (y, rest, is, by, m)) =
        subst (λ (some : List Y). AllByRecursion (λ k. compare a k ≡ Less) (map key some)) (sym is)
        (subst (λ (k : K). compare a k ≡ Less) (sym (same x y by)) above.0, above_made a xs rest above.1 m)

    pub rising_made : (xs : List X) (made : List Y) → IsStrictlySortedBy compare (map of xs) → IsMadeOf xs made → IsStrictlySortedBy compare (map key made)
    unfolding IsStrictlySortedBy
    rising_made [] made rising m = subst (λ (some : List Y). IsStrictlySortedBy compare (map key some)) (sym m) tt
    rising_made (x ∷ xs) made rising (inl m) = rising_made xs made rising.1 m
    rising_made (x ∷ xs) made rising (inr (y, rest, is, by, m)) =
        subst (λ (some : List Y). IsStrictlySortedBy compare (map key some)) (sym is)
        (subst (λ (k : K). AllByRecursion (λ j. compare k j ≡ Less) (map key rest)) (sym (same x y by)) (above_made (of x) xs rest rising.0 m), rising_made xs rest rising.1 m)

-- ---- what tests keep

-- those that pass a test are some, in their order
pub filter_some : {X : Type 0} (test : X → Bool) (xs : List X) → IsMadeOf (λ a b. b ≡ a) xs (filter test xs)
filter_some test [] = refl
filter_some {X} test (x ∷ xs) = by (test x) refl (filter_some test xs)
  where
    by : (b : Bool) → test x ≡ b → IsMadeOf (λ a b. b ≡ a) xs (filter test xs) → IsMadeOf (λ a b. b ≡ a) (x ∷ xs) (filter test (x ∷ xs))
    by true is m = inr (x, filter test xs, rw is refl, refl, m)
    by false is m = rw is (inl m)

-- those that tests keep are some, in their order
pub kept_some : {X : Type 0} (cells : X → List Cell) (tests : List Expr) (xs out : List X) → kept_of cells tests xs ≡ Ok out → IsMadeOf (λ a b. b ≡ a) xs out
kept_some cells tests [] out h = sym (ok_is [] out h)
kept_some {X} cells tests (x ∷ xs) out h =
    let test = bind_ok (in_statement (kept (cells x) tests)) (λ passes. kept_of cells tests xs >>= λ rest. Ok (if passes then x ∷ rest else rest)) out h in
    let more = bind_ok (kept_of cells tests xs) (λ rest. Ok (if test.0 then x ∷ rest else rest)) out test.2 in
    by test.0 more.0 (ok_is (if test.0 then x ∷ more.0 else more.0) out more.2) (kept_some cells tests xs more.0 more.1)
  where
    by : (b : Bool) (rest : List X) → (if b then x ∷ rest else rest) ≡ out → IsMadeOf (λ a b. b ≡ a) xs rest → IsMadeOf (λ a b. b ≡ a) (x ∷ xs) out
    by true rest is m = inr (x, rest, sym is, refl, m)
    by false rest is m = inl (subst (IsMadeOf (λ a b. b ≡ a) xs) is m)

-- changes that are made of some rows, in their order
abbrev pub AreMadeBy : (Entry → Result RowChange ExecFault) → Table → List RowChange → Type 0
AreMadeBy make = IsMadeOf (λ entry c. make entry ≡ Ok c)

-- the changes of an UPDATE are made of some rows
pub updates_some : (tests : List Expr) (make : Entry → Result RowChange ExecFault) (rows : Table) (changes : List RowChange) → updates_of tests make rows ≡ Ok changes → AreMadeBy make rows changes
updates_some tests make [] changes h = sym (ok_is [] changes h)
updates_some tests make (entry ∷ rows) changes h =
    let test = bind_ok (in_statement (kept entry.1 tests)) (λ passes. (if passes then (make entry >>= λ c. Ok (c ∷ [])) else Ok []) >>= λ made. updates_of tests make rows >>= λ rest. Ok (made ++ rest)) changes h in
    let one = bind_ok (if test.0 then (make entry >>= λ c. Ok (c ∷ [])) else Ok []) (λ made. updates_of tests make rows >>= λ rest. Ok (made ++ rest)) changes test.2 in
    let more = bind_ok (updates_of tests make rows) (λ rest. Ok (one.0 ++ rest)) changes one.2 in
    by test.0 one.0 more.0 one.1 (ok_is (one.0 ++ more.0) changes more.2) (updates_some tests make rows more.0 more.1)
  where
    by : (b : Bool) (made rest : List RowChange) → (if b then (make entry >>= λ c. Ok (c ∷ [])) else Ok []) ≡ Ok made → made ++ rest ≡ changes → AreMadeBy make rows rest →
        AreMadeBy make (entry ∷ rows) changes
    by true made rest h is m =
        let p = bind_ok (make entry) (λ c. Ok (c ∷ [])) made h in
        inr (p.0, rest, sym is ∙ ap (λ (some : List RowChange). some ++ rest) (sym (ok_is (p.0 ∷ []) made p.2)), p.1, m)
    by false made rest h is m = inl (subst (AreMadeBy make rows) (ap (λ (some : List RowChange). some ++ rest) (ok_is [] made h) ∙ is) m)
