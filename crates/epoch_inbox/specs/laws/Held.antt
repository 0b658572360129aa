-- Laws on what is held at a place, after a batch was put in and after an epoch was taken out, and on whole epochs.
use Rattle.std.proofs.Common.{◌≡◌, ℕ, zero, suc, ◌+◌, ◌<◌, ◌≤◌, Bool, true, false, not, ◌&&◌, ◌==◌, cond, List, [], ◌∷◌, ◌++◌, length, map, Option, Some, None, refl, sym, ◌∙◌, ap, ap₂, subst, inl, inr, arith, length-append}
use Rattle.std.specs.Prelude.{is_some, nat_lt}
use Rattle.std.specs.List.{AllByRecursion, filter, slice_get}
use Rattle.std.specs.List.Sorted.{IsStrictlySortedBy}
use Rattle.std.specs.Ordering.{is_eq, nat_cmp, ordering_then, match_ordering}
use Rattle.std.specs.Cmp.{tied_then}
use Rattle.std.specs.declared.cmp.Ordering.{Ordering}
use Rattle.std.specs.declared.cmp.Ordering.TheVariants.{Less, Equal, Greater}
use Rattle.std.proofs.lemmas.Bool.{and_parts, and_right, and_from, cases_eq, eqb-true, eq-eqb, lt-ltb, le-ltb}
use Rattle.std.proofs.lemmas.Bool.Decides.{nat_tests}
use Rattle.std.proofs.lemmas.Map.Lookups.{exact_pairs, exact_unsigned}
use Rattle.std.proofs.lemmas.Map.Keys.{sorted_head, sorted_tail}
use Rattle.geo_base.specs.laws.Results.{chosen}
use Rattle.write_set.specs.declared.batch.Batch.{Batch}
use Rattle.epoch_inbox.specs.Inbox.{place_of, place_cmp, is_at, held_at, is_held, held_of, others, with_batch, AreOfRegions, AreInOrder, regions_held, HeldBatchesAreCounted, FoundBatchesAreOfTheirPlaces, PutBatchesAreHeld, TakenEpochsAreGone, WholeEpochsAreInOrder}
use Rattle.epoch_inbox.specs.inner.Entries.{held_below, left_from, listed}

-- ---- filters

module _ {X : Type 0} where
  pub filter_yes : (p : X → Bool) (x : X) (xs : List X) → p x ≡ true → filter p (x ∷ xs) ≡ x ∷ filter p xs
  filter_yes p x xs h = ap (λ (b : Bool). cond b (x ∷ filter p xs) (filter p xs)) h

  pub filter_no : (p : X → Bool) (x : X) (xs : List X) → p x ≡ false → filter p (x ∷ xs) ≡ filter p xs
  filter_no p x xs h = ap (λ (b : Bool). cond b (x ∷ filter p xs) (filter p xs)) h

  pub filter_all : (p : X → Bool) (xs : List X) → AllByRecursion (λ x. p x ≡ true) xs → filter p xs ≡ xs
  filter_all p [] h = refl
  filter_all p (x ∷ xs) h = filter_yes p x xs h.0 ∙ ap (λ (ys : List X). x ∷ ys) (filter_all p xs h.1)

  pub filter_none : (p : X → Bool) (xs : List X) → AllByRecursion (λ x. p x ≡ false) xs → filter p xs ≡ []
  filter_none p [] h = refl
  filter_none p (x ∷ xs) h = filter_no p x xs h.0 ∙ filter_none p xs h.1

  pub filter_same : (p q : X → Bool) (xs : List X) → AllByRecursion (λ x. p x ≡ q x) xs → filter p xs ≡ filter q xs
  filter_same p q [] h = refl
  filter_same p q (x ∷ xs) h = ap₂ (λ (b : Bool) (ys : List X). cond b (x ∷ ys) ys) h.0 (filter_same p q xs h.1)

  pub filter_twice : (p q s : X → Bool) → ((x : X) → s x ≡ (p x && q x)) → (xs : List X) → filter q (filter p xs) ≡ filter s xs
  filter_twice p q s h [] = refl
  filter_twice p q s h (x ∷ xs) = by (p x) refl (filter_twice p q s h xs)
    where
      by : (b : Bool) → p x ≡ b → filter q (filter p xs) ≡ filter s xs → filter q (filter p (x ∷ xs)) ≡ filter s (x ∷ xs)
      by true is_p rest = ap (filter q) (filter_yes p x xs is_p) ∙ ap₂ (λ (b : Bool) (ys : List X). cond b (x ∷ ys) ys) (sym (h x ∙ ap (λ (b : Bool). b && q x) is_p)) rest
      by false not_p rest = ap (filter q) (filter_no p x xs not_p) ∙ rest ∙ sym (filter_no s x xs (h x ∙ ap (λ (b : Bool). b && q x) not_p))

  pub all_kept : (P : X → Type 0) (p : X → Bool) (xs : List X) → AllByRecursion P xs → AllByRecursion P (filter p xs)
  all_kept P p [] h = tt
  all_kept P p (x ∷ xs) h = by (p x) (all_kept P p xs h.1)
    where
      by : (b : Bool) → AllByRecursion P (filter p xs) → AllByRecursion P (cond b (x ∷ filter p xs) (filter p xs))
      by true rest = (h.0, rest)
      by false rest = rest

  pub all_mapped : (P Q : X → Type 0) → ((x : X) → P x → Q x) → (xs : List X) → AllByRecursion P xs → AllByRecursion Q xs
  all_mapped P Q f [] h = tt
  all_mapped P Q f (x ∷ xs) h = (f x h.0, all_mapped P Q f xs h.1)

  pub all_given : (P : X → Type 0) → ((x : X) → P x) → (xs : List X) → AllByRecursion P xs
  all_given P f [] = tt
  all_given P f (x ∷ xs) = (f x, all_given P f xs)

-- ---- places

is_same : (x y : ℕ) → is_eq (nat_cmp x y) ≡ (x == y)
is_same x y = grind (arith, nat_tests)

-- a batch is at a place where its own place compares equal
pub at_place : (epoch region : ℕ) (batch : Batch) → is_eq (place_cmp (epoch, region) (place_of batch)) ≡ is_at epoch region batch
at_place epoch region batch =
    sym (tied_then (nat_cmp epoch batch.epoch) (nat_cmp region batch.region))
    ∙ ap₂ (λ (x y : Bool). x && y) (is_same epoch batch.epoch) (is_same region batch.region)

pub exact_places : (a b : ℕ × ℕ) → place_cmp a b ≡ Equal → a ≡ b
exact_places = exact_pairs nat_cmp nat_cmp exact_unsigned exact_unsigned

pub at_true : (epoch region : ℕ) (batch : Batch) → is_at epoch region batch ≡ true → (epoch ≡ batch.epoch) × (region ≡ batch.region)
at_true epoch region batch h =
    let both : ((epoch == batch.epoch) ≡ true) × ((region == batch.region) ≡ true) = and_parts (epoch == batch.epoch) (region == batch.region) h in
    (eqb-true epoch batch.epoch both.0, eqb-true region batch.region both.1)

-- batches whose places compare equal are at the same places
at_same : (a b : Batch) → place_cmp (place_of a) (place_of b) ≡ Equal → (epoch region : ℕ) → is_at epoch region b ≡ is_at epoch region a
at_same a b e epoch region = ap (λ (p : ℕ × ℕ). (epoch == p.0) && (region == p.1)) (sym (exact_places (place_of a) (place_of b) e))

-- where the one is, the other isn't, if their places compare otherwise
at_apart : (a b : Batch) (o : Ordering) → place_cmp (place_of a) (place_of b) ≡ o → is_eq o ≡ false → (epoch region : ℕ) → is_at epoch region b ≡ true → is_at epoch region a ≡ false
at_apart a b o e apart epoch region there = by (is_at epoch region a) refl
  where
    by : (t : Bool) → is_at epoch region a ≡ t → t ≡ false
    by false here = refl
    by true here =
        let mine : (epoch ≡ a.epoch) × (region ≡ a.region) = at_true epoch region a here in
        let of_epoch : epoch ≡ a.epoch = mine.0 in
        let of_region : region ≡ a.region = mine.1 in
        let moved : is_at a.epoch a.region b ≡ true = ap₂ (λ (m n : ℕ). is_at m n b) (sym of_epoch) (sym of_region) ∙ there in
        sym moved ∙ sym (at_place a.epoch a.region b) ∙ ap is_eq e ∙ apart

-- ---- look-ups

pub found_there : FoundBatchesAreOfTheirPlaces
found_there [] epoch region batch h = absurd cc
found_there (x ∷ held) epoch region batch h = elim (chosen (is_at epoch region x) (Some x) (held_at held epoch region) (Some batch) h) [
  | inl p ↦
      let same : x ≡ batch = found_is x batch p.1 in
      let mine : (epoch ≡ x.epoch) × (region ≡ x.region) = at_true epoch region x p.0 in
      subst (λ (y : Batch). (y.epoch ≡ epoch) × (y.region ≡ region)) same (sym mine.0, sym mine.1)
  | inr p ↦ found_there held epoch region batch p.1
]
  where
    found_is : (a b : Batch) → Some a ≡ Some b → a ≡ b
    found_is a b e = cc

-- what a filter keeps at a place is found there
pub held_filtered : (p : Batch → Bool) (epoch region : ℕ) → ((b : Batch) → is_at epoch region b ≡ true → p b ≡ true) → (held : List Batch) → held_at (filter p held) epoch region ≡ held_at held epoch region
held_filtered p epoch region keeps [] = refl
held_filtered p epoch region keeps (x ∷ held) = by (p x) refl (held_filtered p epoch region keeps held)
  where
    unmet : (t : Bool) → is_at epoch region x ≡ t → p x ≡ false → t ≡ false
    unmet false here out = refl
    unmet true here out = sym (keeps x here) ∙ out

    by : (b : Bool) → p x ≡ b → held_at (filter p held) epoch region ≡ held_at held epoch region → held_at (filter p (x ∷ held)) epoch region ≡ held_at (x ∷ held) epoch region
    by true inside rest = ap (λ (l : List Batch). held_at l epoch region) (filter_yes p x held inside) ∙ ap (cond (is_at epoch region x) (Some x)) rest
    by false out rest = ap (λ (l : List Batch). held_at l epoch region) (filter_no p x held out) ∙ rest
        ∙ sym (ap (λ (t : Bool). cond t (Some x) (held_at held epoch region)) (unmet (is_at epoch region x) refl out))

-- what a filter drops at a place isn't found there
pub held_dropped : (p : Batch → Bool) (epoch region : ℕ) → ((b : Batch) → is_at epoch region b ≡ true → p b ≡ false) → (held : List Batch) → held_at (filter p held) epoch region ≡ None
held_dropped p epoch region drops [] = refl
held_dropped p epoch region drops (x ∷ held) = by (p x) refl (held_dropped p epoch region drops held)
  where
    unmet : (t : Bool) → is_at epoch region x ≡ t → p x ≡ true → t ≡ false
    unmet false here inside = refl
    unmet true here inside = sym inside ∙ drops x here

    by : (b : Bool) → p x ≡ b → held_at (filter p held) epoch region ≡ None → held_at (filter p (x ∷ held)) epoch region ≡ None
    by true inside rest = ap (λ (l : List Batch). held_at l epoch region) (filter_yes p x held inside)
        ∙ ap (λ (t : Bool). cond t (Some x) (held_at (filter p held) epoch region)) (unmet (is_at epoch region x) refl inside) ∙ rest
    by false out rest = ap (λ (l : List Batch). held_at l epoch region) (filter_no p x held out) ∙ rest

-- ---- a batch that was put in

-- two tests of which at most one holds go in either order
either_first : {A : Type 0} (p q : Bool) (x y z : A) → (q ≡ true → p ≡ false) → cond q y (cond p x z) ≡ cond p x (cond q y z)
either_first true true x y z h = let no : true ≡ false = h refl in absurd cc
either_first true false x y z h = refl
either_first false true x y z h = refl
either_first false false x y z h = refl

-- the second of two tests that are one isn't looked at
only_first : {A : Type 0} (p q : Bool) (x y z : A) → q ≡ p → cond p x z ≡ cond p x (cond q y z)
only_first true q x y z e = refl
only_first false q x y z e = sym (ap (λ (b : Bool). cond b y z) e)

pub put_there : PutBatchesAreHeld
put_there [] batch epoch region = refl
put_there (x ∷ rest) batch epoch region = by (place_cmp (place_of batch) (place_of x)) refl (put_there rest batch epoch region)
  where
    by : (o : Ordering) → place_cmp (place_of batch) (place_of x) ≡ o → held_at (with_batch rest batch) epoch region ≡ cond (is_at epoch region batch) (Some batch) (held_at rest epoch region) →
        held_at (match_ordering o (batch ∷ x ∷ rest) (batch ∷ rest) (x ∷ with_batch rest batch)) epoch region ≡ cond (is_at epoch region batch) (Some batch) (held_at (x ∷ rest) epoch region)
    by Less e later = refl
    by Equal e later = only_first (is_at epoch region batch) (is_at epoch region x) (Some batch) (Some x) (held_at rest epoch region) (at_same batch x e epoch region)
    by Greater e later = ap (cond (is_at epoch region x) (Some x)) later
        ∙ either_first (is_at epoch region batch) (is_at epoch region x) (Some batch) (Some x) (held_at rest epoch region) (at_apart batch x Greater e refl epoch region)

pub all_with : (P : Batch → Type 0) (held : List Batch) (batch : Batch) → AllByRecursion P held → P batch → AllByRecursion P (with_batch held batch)
all_with P [] batch h p = (p, tt)
all_with P (x ∷ rest) batch h p = by (place_cmp (place_of batch) (place_of x)) (all_with P rest batch h.1 p)
  where
    by : (o : Ordering) → AllByRecursion P (with_batch rest batch) → AllByRecursion P (match_ordering o (batch ∷ x ∷ rest) (batch ∷ rest) (x ∷ with_batch rest batch))
    by Less later = (p, h)
    by Equal later = (p, h.1)
    by Greater later = (h.0, later)

-- ---- an epoch that was taken out

pub taken_gone : TakenEpochsAreGone
taken_gone held taken epoch region = by (taken == epoch) refl
  where
    by : (b : Bool) → (taken == epoch) ≡ b → held_at (others held taken) epoch region ≡ cond b None (held_at held epoch region)
    by true same = held_dropped (λ (x : Batch). not (taken == x.epoch)) epoch region
        (λ x here. ap not (ap (λ (e : ℕ). taken == e) (sym (at_true epoch region x here).0) ∙ same)) held
    by false apart = held_filtered (λ (x : Batch). not (taken == x.epoch)) epoch region
        (λ x here. ap not (ap (λ (e : ℕ). taken == e) (sym (at_true epoch region x here).0) ∙ apart)) held

-- ---- an epoch by its regions

abbrev Rising : List Batch → Type 0
Rising held = IsStrictlySortedBy place_cmp (map place_of held)

-- what comes after a place isn't of its epoch with a region up to it
after_out : (epoch region of_epoch of_region : ℕ) → place_cmp (epoch, region) (of_epoch, of_region) ≡ Less → ((epoch == of_epoch) && nat_lt of_region (region + 1)) ≡ false
after_out epoch region of_epoch of_region less = by (epoch == of_epoch) refl
  where
    by : (t : Bool) → (epoch == of_epoch) ≡ t → (t && nat_lt of_region (region + 1)) ≡ false
    by false apart = refl
    by true same =
        let one : epoch ≡ of_epoch = eqb-true epoch of_epoch same in
        let tied : nat_cmp epoch of_epoch ≡ Equal = grind (arith, nat_tests) in
        let then : nat_cmp region of_region ≡ Less = sym (ap (λ (o : Ordering). ordering_then o (nat_cmp region of_region)) tied) ∙ less in
        let above : region < of_region = grind (arith, nat_tests) in
        le-ltb of_region (region + 1) (omega arith)

-- nothing of the epoch up to a region stands behind the batch at its place
none_behind : (x : Batch) (held : List Batch) (epoch region : ℕ) → Rising (x ∷ held) → is_at epoch region x ≡ true → held_below held epoch (region + 1) ≡ []
none_behind x held epoch region rising here =
    filter_none (λ (b : Batch). (epoch == b.epoch) && nat_lt b.region (region + 1)) held (by held (sorted_head place_cmp (place_of x) (map place_of held) rising))
  where
    mine : (epoch ≡ x.epoch) × (region ≡ x.region)
    mine = at_true epoch region x here

    here_is : place_of x ≡ (epoch, region)
    here_is = ap₂ (λ (m n : ℕ). (m, n)) (sym mine.0) (sym mine.1)

    by : (l : List Batch) → AllByRecursion (λ p. place_cmp (place_of x) p ≡ Less) (map place_of l) → AllByRecursion (λ (b : Batch). ((epoch == b.epoch) && nat_lt b.region (region + 1)) ≡ false) l
    by [] h = tt
    by (b ∷ l) h = (after_out epoch region b.epoch b.region (subst (λ (p : ℕ × ℕ). place_cmp p (place_of b) ≡ Less) here_is h.0), by l h.1)

-- those below a region are among those up to it
none_below : (held : List Batch) (epoch region : ℕ) → held_below held epoch (region + 1) ≡ [] → held_below held epoch region ≡ []
none_below held epoch region h =
    sym (filter_twice (λ (b : Batch). (epoch == b.epoch) && nat_lt b.region (region + 1)) (λ (b : Batch). nat_lt b.region region) (λ (b : Batch). (epoch == b.epoch) && nat_lt b.region region)
    (λ b. narrow (epoch == b.epoch) b.region) held)
    ∙ ap (filter (λ (b : Batch). nat_lt b.region region)) h
  where
    narrow : (t : Bool) (of : ℕ) → (t && nat_lt of region) ≡ ((t && nat_lt of (region + 1)) && nat_lt of region)
    narrow false of = refl
    narrow true of = grind (arith, nat_tests)

-- of a batch that isn't at a place the tests up to it and below it say the same
same_tests : (epoch region : ℕ) (x : Batch) → is_at epoch region x ≡ false → ((epoch == x.epoch) && nat_lt x.region (region + 1)) ≡ ((epoch == x.epoch) && nat_lt x.region region)
same_tests epoch region x = by (epoch == x.epoch) x.region
  where
    by : (t : Bool) (of : ℕ) → (t && (region == of)) ≡ false → (t && nat_lt of (region + 1)) ≡ (t && nat_lt of region)
    by false of apart = refl
    by true of apart = grind (arith, nat_tests)

-- up to a region the epoch's batches are those below it, and its own
pub below_more : (held : List Batch) (epoch region : ℕ) → Rising held → held_below held epoch (region + 1) ≡ held_below held epoch region ++ listed (held_at held epoch region)
below_more [] epoch region rising = refl
below_more (x ∷ held) epoch region rising = by (is_at epoch region x) refl (below_more held epoch region (sorted_tail place_cmp (place_of x) (map place_of held) rising))
  where
    up : Batch → Bool
    up b = (epoch == b.epoch) && nat_lt b.region (region + 1)

    low : Batch → Bool
    low b = (epoch == b.epoch) && nat_lt b.region region

    by_low : (b : Bool) → ((epoch == x.epoch) && nat_lt x.region region) ≡ b → ((epoch == x.epoch) && nat_lt x.region (region + 1)) ≡ b → held_below held epoch (region + 1) ≡ held_below held epoch region ++ listed (held_at held epoch region) →
        held_below (x ∷ held) epoch (region + 1) ≡ held_below (x ∷ held) epoch region ++ listed (held_at held epoch region)
    by_low true below upto later =
        filter_yes (λ (b : Batch). (epoch == b.epoch) && nat_lt b.region (region + 1)) x held upto ∙ ap (λ (l : List Batch). x ∷ l) later
        ∙ ap (λ (l : List Batch). l ++ listed (held_at held epoch region)) (sym (filter_yes (λ (b : Batch). (epoch == b.epoch) && nat_lt b.region region) x held below))
    by_low false below upto later =
        filter_no (λ (b : Batch). (epoch == b.epoch) && nat_lt b.region (region + 1)) x held upto ∙ later
        ∙ ap (λ (l : List Batch). l ++ listed (held_at held epoch region)) (sym (filter_no (λ (b : Batch). (epoch == b.epoch) && nat_lt b.region region) x held below))

    by : (t : Bool) → is_at epoch region x ≡ t → held_below held epoch (region + 1) ≡ held_below held epoch region ++ listed (held_at held epoch region) →
        held_below (x ∷ held) epoch (region + 1) ≡ held_below (x ∷ held) epoch region ++ listed (cond t (Some x) (held_at held epoch region))
    by true here later =
        let mine : (epoch ≡ x.epoch) × (region ≡ x.region) = at_true epoch region x here in
        let of_epoch : (epoch == x.epoch) ≡ true = eq-eqb epoch x.epoch mine.0 in
        let of_region : region ≡ x.region = mine.1 in
        let upto : ((epoch == x.epoch) && nat_lt x.region (region + 1)) ≡ true = and_from (epoch == x.epoch) (nat_lt x.region (region + 1)) of_epoch (lt-ltb x.region (region + 1) (omega arith)) in
        let below : ((epoch == x.epoch) && nat_lt x.region region) ≡ false = and_right (epoch == x.epoch) (nat_lt x.region region) (le-ltb x.region region (omega arith)) in
        let none : held_below held epoch (region + 1) ≡ [] = none_behind x held epoch region rising here in
        filter_yes (λ (b : Batch). (epoch == b.epoch) && nat_lt b.region (region + 1)) x held upto ∙ ap (λ (l : List Batch). x ∷ l) none
        ∙ sym (ap (λ (l : List Batch). l ++ x ∷ []) (filter_no (λ (b : Batch). (epoch == b.epoch) && nat_lt b.region region) x held below ∙ none_below held epoch region none))
    by false apart later = by_low ((epoch == x.epoch) && nat_lt x.region region) refl (same_tests epoch region x apart) later

-- below no region there is none
pub below_none : (held : List Batch) (epoch : ℕ) → held_below held epoch 0 ≡ []
below_none held epoch = filter_none (λ (b : Batch). (epoch == b.epoch) && nat_lt b.region 0) held
    (all_given (λ (b : Batch). ((epoch == b.epoch) && nat_lt b.region 0) ≡ false) (λ b. and_right (epoch == b.epoch) (nat_lt b.region 0) (le-ltb b.region 0 (omega arith))) held)

-- below the number of regions are all
pub below_all : (held : List Batch) (epoch regions : ℕ) → AllByRecursion (λ batch. batch.region < regions) held → held_below held epoch regions ≡ held_of held epoch
below_all held epoch regions below = filter_same (λ (b : Batch). (epoch == b.epoch) && nat_lt b.region regions) (λ (b : Batch). epoch == b.epoch) held
    (all_mapped (λ (b : Batch). b.region < regions) (λ (b : Batch). ((epoch == b.epoch) && nat_lt b.region regions) ≡ (epoch == b.epoch)) (λ b lt. within (epoch == b.epoch) (nat_lt b.region regions) (lt-ltb b.region regions lt)) held below)
  where
    within : (t u : Bool) → u ≡ true → (t && u) ≡ t
    within false u e = refl
    within true u e = e

-- what is left when nothing was taken
pub left_none : (held : List Batch) (epoch : ℕ) → left_from held epoch 0 ≡ held
left_none held epoch = filter_all (λ (b : Batch). not ((epoch == b.epoch) && nat_lt b.region 0)) held
    (all_given (λ (b : Batch). not ((epoch == b.epoch) && nat_lt b.region 0) ≡ true) (λ b. ap not (and_right (epoch == b.epoch) (nat_lt b.region 0) (le-ltb b.region 0 (omega arith)))) held)

-- when one more region's batch is taken out
pub left_more : (held : List Batch) (epoch region : ℕ) → filter (λ batch. not (is_at epoch region batch)) (left_from held epoch region) ≡ left_from held epoch (region + 1)
left_more held epoch region = filter_twice (λ (b : Batch). not ((epoch == b.epoch) && nat_lt b.region region)) (λ (b : Batch). not (is_at epoch region b)) (λ (b : Batch). not ((epoch == b.epoch) && nat_lt b.region (region + 1)))
    (λ b. by (epoch == b.epoch) b.region) held
  where
    by : (t : Bool) (of : ℕ) → not (t && nat_lt of (region + 1)) ≡ (not (t && nat_lt of region) && not (t && (region == of)))
    by false of = refl
    by true of = grind (arith, nat_tests)

-- when all are taken out
pub left_all : (held : List Batch) (epoch regions : ℕ) → AllByRecursion (λ batch. batch.region < regions) held → left_from held epoch regions ≡ others held epoch
left_all held epoch regions below = filter_same (λ (b : Batch). not ((epoch == b.epoch) && nat_lt b.region regions)) (λ (b : Batch). not (epoch == b.epoch)) held
    (all_mapped (λ (b : Batch). b.region < regions) (λ (b : Batch). not ((epoch == b.epoch) && nat_lt b.region regions) ≡ not (epoch == b.epoch)) (λ b lt. ap not (within (epoch == b.epoch) (nat_lt b.region regions) (lt-ltb b.region regions lt))) held below)
  where
    within : (t u : Bool) → u ≡ true → (t && u) ≡ t
    within false u e = refl
    within true u e = e

-- what is left has at a region what was there
pub left_there : (held : List Batch) (epoch region : ℕ) → held_at (left_from held epoch region) epoch region ≡ held_at held epoch region
left_there held epoch region = held_filtered (λ (b : Batch). not ((epoch == b.epoch) && nat_lt b.region region)) epoch region
    (λ b here. ap not (and_right (epoch == b.epoch) (nat_lt b.region region) (le-ltb b.region region (let is : region ≡ b.region = (at_true epoch region b here).1 in omega arith)))) held

-- ---- whole epochs

module _ (held : List Batch) (epoch : ℕ) (rising : Rising held) where
  -- of the regions below this one the batches that are held are in order
  record Gone (region : ℕ) : Type 0 where
    pub all : length (held_below held epoch region) ≡ region
    pub order : AreOfRegions 0 epoch (held_below held epoch region)
    pub each : (r : ℕ) → r < region → slice_get (held_below held epoch region) r ≡ held_at held epoch r

  order_more : (region : ℕ) (batches : List Batch) (batch : Batch) → AreOfRegions region epoch batches → batch.epoch ≡ epoch → batch.region ≡ region + length batches → AreOfRegions region epoch (batches ++ batch ∷ [])
  order_more region [] batch before of is = (of, omega (arith, is), tt)
  order_more region (b ∷ batches) batch before of is = (before.0, before.1, order_more (region + 1) batches batch before.2 of (omega (arith, is)))

  get_before : (xs : List Batch) (y : Batch) (i : ℕ) → i < length xs → slice_get (xs ++ y ∷ []) i ≡ slice_get xs i
  get_before [] y i lt = absurd (omega arith)
  get_before (x ∷ xs) y zero lt = refl
  get_before (x ∷ xs) y (suc i) lt = get_before xs y i (omega arith)

  get_last : (xs : List Batch) (y : Batch) → slice_get (xs ++ y ∷ []) (length xs) ≡ Some y
  get_last [] y = refl
  get_last (x ∷ xs) y = get_last xs y

  gone_none : Gone 0
  gone_none = record {
    all = ap length (below_none held epoch);
    order = subst (AreOfRegions 0 epoch) (sym (below_none held epoch)) tt;
    each = λ r lt. absurd (omega arith);
  }

  each_more : (region r : ℕ) (batch : Batch) → Gone region → held_at held epoch region ≡ Some batch → r < region + 1 → slice_get (held_below held epoch region ++ batch ∷ []) r ≡ held_at held epoch r
  each_more region r batch gone at lt = elim (cases_eq r region) [
    | inl same ↦
        let last : r ≡ length (held_below held epoch region) = omega (arith, gone.all) in
        ap (slice_get (held_below held epoch region ++ batch ∷ [])) last ∙ get_last (held_below held epoch region) batch ∙ sym at ∙ ap (held_at held epoch) (sym same)
    | inr apart ↦ get_before (held_below held epoch region) batch r (omega (arith, gone.all)) ∙ gone.each r (omega arith)
  ]

  gone_with : (region : ℕ) (batch : Batch) → held_at held epoch region ≡ Some batch → Gone region → Gone (region + 1)
  gone_with region batch at gone =
      let more : held_below held epoch (region + 1) ≡ held_below held epoch region ++ batch ∷ [] = below_more held epoch region rising ∙ ap (λ (o : Option Batch). held_below held epoch region ++ listed o) at in
      let found : (batch.epoch ≡ epoch) × (batch.region ≡ region) = found_there held epoch region batch at in
      record {
        all = ap length more ∙ length-append (held_below held epoch region) (batch ∷ []) ∙ omega (arith, gone.all);
        order = subst (AreOfRegions 0 epoch) (sym more) (order_more 0 (held_below held epoch region) batch gone.order found.0 (omega (arith, found.1, gone.all)));
        each = λ r lt. ap (λ (l : List Batch). slice_get l r) more ∙ each_more region r batch gone at lt;
      }

  gone_more : (region : ℕ) → is_held held epoch region ≡ true → Gone region → Gone (region + 1)
  gone_more region there gone = by (held_at held epoch region) refl there
    where
      by : (o : Option Batch) → held_at held epoch region ≡ o → is_some o ≡ true → Gone (region + 1)
      by None at held_there = absurd cc
      by (Some batch) at held_there = gone_with region batch at gone

  gone_upto : (regions : ℕ) → ((region : ℕ) → region < regions → is_held held epoch region ≡ true) → (n : ℕ) → n ≤ regions → Gone n
  gone_upto regions whole zero le = gone_none
  gone_upto regions whole (suc n) le = subst Gone (omega arith) (gone_more n (whole n (omega arith)) (gone_upto regions whole n (omega arith)))

pub whole_ordered : WholeEpochsAreInOrder
whole_ordered inbox epoch lawful whole =
    let gone : Gone inbox.held epoch lawful.rising inbox.regions = gone_upto inbox.held epoch lawful.rising inbox.regions whole inbox.regions (omega arith) in
    subst (AreInOrder inbox epoch) (below_all inbox.held epoch inbox.regions lawful.below) (record { all = gone.all; order = gone.order; each = gone.each })

-- ---- how many batches of an epoch are held

module _ (held : List Batch) (epoch : ℕ) where
  counted_below : Rising held → (region : ℕ) → length (held_below held epoch region) ≡ regions_held held epoch region
  counted_below rising zero = ap length (below_none held epoch)
  counted_below rising (suc region) =
      let more : length (held_below held epoch (region + 1)) ≡ length (held_below held epoch region) + length (listed (held_at held epoch region)) = ap length (below_more held epoch region rising) ∙ length-append (held_below held epoch region) (listed (held_at held epoch region)) in
      subst (λ (n : ℕ). length (held_below held epoch n) ≡ regions_held held epoch region + cond (is_held held epoch region) 1 0) (omega arith)
      (more ∙ ap₂ (λ (m n : ℕ). m + n) (counted_below rising region) (one (held_at held epoch region)))
    where
      one : (o : Option Batch) → length (listed o) ≡ cond (is_some o) 1 0
      one None = refl
      one (Some b) = refl

  few_held : (region : ℕ) → regions_held held epoch region ≤ region
  few_held zero = omega arith
  few_held (suc region) = by (is_held held epoch region) (few_held region)
    where
      by : (b : Bool) → regions_held held epoch region ≤ region → regions_held held epoch region + cond b 1 0 ≤ suc region
      by true few = omega (arith, few)
      by false few = omega (arith, few)

  all_held : (regions : ℕ) → regions_held held epoch regions ≡ regions → (region : ℕ) → region < regions → is_held held epoch region ≡ true
  all_held zero e region lt = absurd (omega arith)
  all_held (suc regions) e region lt = by (is_held held epoch regions) refl e (few_held regions) (all_held regions)
    where
      by : (b : Bool) → is_held held epoch regions ≡ b → regions_held held epoch regions + cond b 1 0 ≡ suc regions → regions_held held epoch regions ≤ regions →
          (regions_held held epoch regions ≡ regions → (r : ℕ) → r < regions → is_held held epoch r ≡ true) → is_held held epoch region ≡ true
      by true here e few before = elim (cases_eq region regions) [
        | inl same ↦ ap (is_held held epoch) same ∙ here
        | inr apart ↦ before (omega (arith, e)) region (omega (arith, lt))
      ]
      by false here e few before = absurd (omega (arith, e, few))

  each_held : (regions : ℕ) → ((region : ℕ) → region < regions → is_held held epoch region ≡ true) → regions_held held epoch regions ≡ regions
  each_held zero whole = refl
  each_held (suc regions) whole =
      ap₂ (λ (n : ℕ) (b : Bool). n + cond b 1 0) (each_held regions (λ region lt. whole region (omega arith))) (whole regions (omega arith)) ∙ omega arith

pub held_counted : HeldBatchesAreCounted
held_counted inbox epoch lawful =
    let counted : length (held_of inbox.held epoch) ≡ regions_held inbox.held epoch inbox.regions = sym (ap length (below_all inbox.held epoch inbox.regions lawful.below)) ∙ counted_below inbox.held epoch lawful.rising inbox.regions in
    record {
      counted = counted;
      all = (λ e. all_held inbox.held epoch inbox.regions (sym counted ∙ e), λ h. counted ∙ each_held inbox.held epoch inbox.regions h);
    }
