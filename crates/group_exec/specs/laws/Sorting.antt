-- Laws: the lines in order are a stable sort of them, and the only one.
use Rattle.std.proofs.Common.{◌≡◌, Bool, true, false, cond, All, IsPermutation, List, [], ◌∷◌, filter, get_or, map, refl, sym, ap, ◌∙◌, subst}
use Rattle.std.specs.List.Sorted.{IsSorted, IsSortedBy, IsStable, IsStableBy, ties}
use Rattle.std.specs.Ordering.{is_gt}
use Rattle.std.proofs.lemmas.Bool.{false≢true}
use Rattle.std.proofs.lemmas.List.Elements.{All-map}
use Rattle.std.proofs.lemmas.List.Sorted.{All-permutation, IsPermutation-cons, IsPermutation-middle, IsPermutation-refl, IsPermutation-trans}
use Rattle.sql_bind.specs.declared.bound.Sort.{Sort}
use Rattle.group_exec.specs.Results.{LineOfRow, by_all, ordered, put_in}
use Rattle.group_exec.specs.laws.Orders.{greater_is_less, is_less, less_is_weak}
use Rattle.group_exec.specs.laws.Stable.{same_sorted, sorted_front, sorted_more, sorted_none, sorted_one, sorted_rest, tied_both}

-- ---- without ORDER BY

stays : (l : LineOfRow) (lines : List LineOfRow) → put_in [] l lines ≡ l ∷ lines
stays l [] = refl
stays l (m ∷ lines) = refl

-- the lines stay as they are
pub unordered : (lines : List LineOfRow) → ordered [] lines ≡ lines
unordered [] = refl
unordered (l ∷ lines) = ap (put_in [] l) (unordered lines) ∙ stays l lines

module _ (sorts : List Sort) where
  abbrev Lines : Type 0
  Lines = List LineOfRow

  -- ---- the same lines

  put_permutes : (l : LineOfRow) (ms : Lines) → IsPermutation (l ∷ ms) (put_in sorts l ms)
  put_permutes l [] = IsPermutation-refl (l ∷ [])
  put_permutes l (m ∷ ms) = by (is_gt (by_all sorts l m)) refl (put_permutes l ms)
    where
      by : (b : Bool) → is_gt (by_all sorts l m) ≡ b → IsPermutation (l ∷ ms) (put_in sorts l ms) → IsPermutation (l ∷ m ∷ ms) (put_in sorts l (m ∷ ms))
      by true is rest = rw is (IsPermutation-trans (l ∷ m ∷ ms) (m ∷ l ∷ ms) (m ∷ put_in sorts l ms) (IsPermutation-middle (l ∷ []) m ms) (IsPermutation-cons m (l ∷ ms) (put_in sorts l ms) rest))
      by false is rest = rw is (IsPermutation-refl (l ∷ m ∷ ms))

  pub permuted : (lines : Lines) → IsPermutation lines (ordered sorts lines)
  permuted [] = IsPermutation-refl []
  permuted (l ∷ lines) =
      IsPermutation-trans (l ∷ lines) (l ∷ ordered sorts lines) (put_in sorts l (ordered sorts lines))
      (IsPermutation-cons l lines (ordered sorts lines) (permuted lines)) (put_permutes l (ordered sorts lines))

  -- ---- sorted

  -- a line in front of those among which another is put
  put_behind : (m l : LineOfRow) (ms : Lines) → is_less sorts l m ≡ false → IsSortedBy (is_less sorts) (m ∷ ms) → IsSortedBy (is_less sorts) (put_in sorts l ms) →
      IsSortedBy (is_less sorts) (m ∷ put_in sorts l ms)
  put_behind m l [] h sorted put = sorted_more (is_less sorts) m l [] h put
  put_behind m l (n ∷ ms) h sorted put = by (is_gt (by_all sorts l n)) refl put
    where
      by : (b : Bool) → is_gt (by_all sorts l n) ≡ b → IsSortedBy (is_less sorts) (put_in sorts l (n ∷ ms)) → IsSortedBy (is_less sorts) (m ∷ put_in sorts l (n ∷ ms))
      by true is put = rw is (sorted_more (is_less sorts) m n (put_in sorts l ms) (sorted_front (is_less sorts) m n ms sorted) (rw is at put))
      by false is put = rw is (sorted_more (is_less sorts) m l (n ∷ ms) h (rw is at put))

  put_sorted : (l : LineOfRow) (ms : Lines) → IsSortedBy (is_less sorts) ms → IsSortedBy (is_less sorts) (put_in sorts l ms)
  put_sorted l [] sorted = sorted_one (is_less sorts) l
  put_sorted l (m ∷ ms) sorted = by (is_gt (by_all sorts l m)) refl (put_sorted l ms (sorted_rest (is_less sorts) m ms sorted))
    where
      by : (b : Bool) → is_gt (by_all sorts l m) ≡ b → IsSortedBy (is_less sorts) (put_in sorts l ms) → IsSortedBy (is_less sorts) (put_in sorts l (m ∷ ms))
      by true is put = rw is (put_behind m l ms ((less_is_weak sorts).one_way m l (sym (greater_is_less sorts l m) ∙ is)) sorted put)
      by false is put = rw is (sorted_more (is_less sorts) l m ms (sym (greater_is_less sorts l m) ∙ is) sorted)

  pub is_sorted : (lines : Lines) → IsSorted (by_all sorts) (ordered sorts lines)
  is_sorted [] = sorted_none (is_less sorts)
  is_sorted (l ∷ lines) = put_sorted l (ordered sorts lines) (is_sorted lines)

  -- ---- stable

  -- two lines that aren't both kept may change places
  swapped : (p q : Bool) (l m : LineOfRow) (rest : Lines) → (p ≡ true → q ≡ true → ⊥) →
      cond q (m ∷ cond p (l ∷ rest) rest) (cond p (l ∷ rest) rest) ≡ cond p (l ∷ cond q (m ∷ rest) rest) (cond q (m ∷ rest) rest)
  swapped true true l m rest apart = absurd (apart refl refl)
  swapped true false l m rest apart = refl
  swapped false true l m rest apart = refl
  swapped false false l m rest apart = refl

  put_stable : (x l : LineOfRow) (ms : Lines) → filter (ties (is_less sorts) x) (put_in sorts l ms) ≡ filter (ties (is_less sorts) x) (l ∷ ms)
  put_stable x l [] = refl
  put_stable x l (m ∷ ms) = by (is_gt (by_all sorts l m)) refl (put_stable x l ms)
    where
      by : (b : Bool) → is_gt (by_all sorts l m) ≡ b → filter (ties (is_less sorts) x) (put_in sorts l ms) ≡ filter (ties (is_less sorts) x) (l ∷ ms) →
          filter (ties (is_less sorts) x) (put_in sorts l (m ∷ ms)) ≡ filter (ties (is_less sorts) x) (l ∷ m ∷ ms)
      by false is rest = rw is refl
      by true is rest =
          rw is
          (ap (λ (more : Lines). cond (ties (is_less sorts) x m) (m ∷ more) more) rest
          ∙ swapped (ties (is_less sorts) x l) (ties (is_less sorts) x m) l m (filter (ties (is_less sorts) x) ms)
          (λ a b. false≢true (sym (tied_both (is_less sorts) (less_is_weak sorts) x m l b a) ∙ (sym (greater_is_less sorts l m) ∙ is))))

  pub is_stable : (lines : Lines) → IsStable (by_all sorts) lines (ordered sorts lines)
  is_stable [] x = refl
  is_stable (l ∷ lines) x =
      put_stable x l (ordered sorts lines)
      ∙ ap (λ (more : Lines). cond (ties (is_less sorts) x l) (l ∷ more) more) (is_stable lines x)

  -- ---- the only one

  pub only_sorted : (lines found : Lines) → IsSorted (by_all sorts) found → IsStable (by_all sorts) lines found → found ≡ ordered sorts lines
  only_sorted lines found sorted stable =
      same_sorted (is_less sorts) (less_is_weak sorts) (λ l. Unit {0}) found (ordered sorts lines) (λ k d within. tt) (λ k d within. tt) sorted (is_sorted lines)
      (λ x is. stable x ∙ sym (is_stable lines x))

  -- ---- things that are seen as lines, as a sort finds them

  module _ {X : Type 0} (see : X → LineOfRow) where
    abbrev pub is_seen_less : X → X → Bool
    is_seen_less a b = is_less sorts (see a) (see b)

    kept_seen : (x : X) (xs : List X) → filter (ties (is_less sorts) (see x)) (map see xs) ≡ map see (filter (ties is_seen_less x) xs)
    kept_seen x [] = refl
    kept_seen x (y ∷ ys) = by (ties is_seen_less x y) refl (kept_seen x ys)
      where
        by : (b : Bool) → ties is_seen_less x y ≡ b → filter (ties (is_less sorts) (see x)) (map see ys) ≡ map see (filter (ties is_seen_less x) ys) →
            filter (ties (is_less sorts) (see x)) (map see (y ∷ ys)) ≡ map see (filter (ties is_seen_less x) (y ∷ ys))
        by true is rest = rw is (ap (λ (more : Lines). see y ∷ more) rest)
        by false is rest = rw is rest

    seen_sorted : (xs : List X) → IsSortedBy is_seen_less xs → IsSortedBy (is_less sorts) (map see xs)
    seen_sorted [] sorted = sorted_none (is_less sorts)
    seen_sorted (x ∷ []) sorted = sorted_one (is_less sorts) (see x)
    seen_sorted (x ∷ y ∷ xs) sorted =
        sorted_more (is_less sorts) (see x) (see y) (map see xs) (sorted_front is_seen_less x y xs sorted)
        (seen_sorted (y ∷ xs) (sorted_rest is_seen_less x (y ∷ xs) sorted))

    abbrev IsSeen : LineOfRow → Type 0
    IsSeen l = (x : X) × (see x ≡ l)

    all_seen : (xs : List X) → All IsSeen (map see xs)
    all_seen xs = All-map IsSeen see xs (λ k d within. (get_or xs k d, refl))

    -- a stable sort of them leaves the lines in order
    pub sorted_in_order : (xs ys : List X) → IsSortedBy is_seen_less ys → IsStableBy is_seen_less xs ys → map see ys ≡ ordered sorts (map see xs)
    sorted_in_order xs ys sorted stable =
        same_sorted (is_less sorts) (less_is_weak sorts) IsSeen (map see ys) (ordered sorts (map see xs)) (all_seen ys)
        (All-permutation IsSeen (map see xs) (ordered sorts (map see xs)) (permuted (map see xs)) (all_seen xs))
        (seen_sorted ys sorted) (is_sorted (map see xs))
        (λ l is. subst (λ (w : LineOfRow). filter (ties (is_less sorts) w) (map see ys) ≡ filter (ties (is_less sorts) w) (ordered sorts (map see xs))) is.1
        (kept_seen is.0 ys ∙ ap (map see) (stable is.0) ∙ sym (kept_seen is.0 xs) ∙ sym (is_stable (map see xs) (see is.0))))
