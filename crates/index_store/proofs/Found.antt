-- What is found of a pair: where it is among the pairs, and after others are put in or taken out.
use Rattle.std.proofs.Common.{◌≡◌, ◌⊎◌, inl, inr, ℕ, Bool, true, false, cond, Option, None, Some, List, [], ◌∷◌, Contains, refl, sym, ap, ◌∙◌, subst}
use Rattle.std.specs.Map.{keys_of}
use Rattle.std.specs.Ordering.{is_eq}
use Rattle.write_set.specs.laws.Among.{among_none, among_first, among_later, among_cases}
use Rattle.page_map.specs.Pairs.{found_at, put_in, without}
use Rattle.page_map.specs.laws.Finding.{put_found, put_elsewhere, taken_found, taken_elsewhere}
use Rattle.index_store.specs.declared.gain.Gain.{Gain}
use Rattle.index_store.specs.declared.pair.IndexPair.{IndexPair}
use Rattle.index_store.specs.Order.{pair_cmp, pair_eq}
use Rattle.index_store.specs.laws.Orders.{pair_cmp_total, pair_eq_decides, pair_eq_equiv, pair_eq_ties}
use Rattle.index_store.specs.inner.Following.{all_added}

abbrev pub Entries : Type 0
Entries = List (IndexPair × Gain)

abbrev pub found : IndexPair → Entries → Option Gain
found pair entries = found_at pair_cmp pair entries

-- ---- what is found is there

same_by : (a b : IndexPair) → is_eq (pair_cmp a b) ≡ true → a ≡ b
same_by a b is = (pair_eq_decides a b).0 (pair_eq_ties a b ∙ is)

by_same : (a b : IndexPair) → a ≡ b → is_eq (pair_cmp a b) ≡ true
by_same a b same = sym (pair_eq_ties a b) ∙ (pair_eq_decides a b).1 same

pub found_there : (pair : IndexPair) (gain : Gain) (entries : Entries) → found pair entries ≡ Some gain → Contains (keys_of entries) pair
found_there pair gain [] is = absurd (cc)
found_there pair gain (e ∷ entries) is = by (is_eq (pair_cmp e.0 pair)) refl (found_there pair gain entries) is
  where
    by : (b : Bool) → is_eq (pair_cmp e.0 pair) ≡ b → (found pair entries ≡ Some gain → Contains (keys_of entries) pair) →
        cond b (Some e.1) (found pair entries) ≡ Some gain → Contains (keys_of (e ∷ entries)) pair
    by true same rest is = subst (Contains (keys_of (e ∷ entries))) (same_by e.0 pair same) (among_first e.0 (keys_of entries))
    by false other rest is = among_later e.0 pair (keys_of entries) (rest is)

pub there_found : (pair : IndexPair) (entries : Entries) → Contains (keys_of entries) pair → (gain : Gain) × (found pair entries ≡ Some gain)
there_found pair [] c = absurd (among_none pair c)
there_found pair (e ∷ entries) c =
    by (is_eq (pair_cmp e.0 pair)) refl (among_cases e.0 (keys_of entries) pair c) (there_found pair entries)
  where
    by : (b : Bool) → is_eq (pair_cmp e.0 pair) ≡ b → ((e.0 ≡ pair) ⊎ Contains (keys_of entries) pair) →
        (Contains (keys_of entries) pair → (gain : Gain) × (found pair entries ≡ Some gain)) → (gain : Gain) × (cond b (Some e.1) (found pair entries) ≡ Some gain)
    by true is at rest = (e.1, refl)
    by false is (inl same) rest =
        let no : true ≡ false = sym (by_same e.0 pair same) ∙ is in
        absurd (cc)
    by false is (inr later) rest = rest later

-- ---- after a change

differ : (pair at : IndexPair) → pair_eq at pair ≡ false → is_eq (pair_cmp pair at) ≡ false
differ pair at is = sym (pair_eq_ties pair at) ∙ (pair_eq_equiv.symm pair at ∙ is)

pub found_put : (pair at : IndexPair) (gain : Gain) (entries : Entries) →
    found at (put_in pair_cmp pair gain entries) ≡ cond (pair_eq at pair) (Some gain) (found at entries)
found_put pair at gain entries = by (pair_eq at pair) refl
  where
    by : (b : Bool) → pair_eq at pair ≡ b → found at (put_in pair_cmp pair gain entries) ≡ cond b (Some gain) (found at entries)
    by true is =
        subst (λ p. found p (put_in pair_cmp pair gain entries) ≡ Some gain) (sym ((pair_eq_decides at pair).0 is)) (put_found pair_cmp pair_cmp_total pair gain entries)
    by false is = put_elsewhere pair_cmp pair_cmp_total pair at gain entries (differ pair at is)

pub found_taken : (pair at : IndexPair) (entries : Entries) →
    found at (without pair_cmp pair entries) ≡ cond (pair_eq at pair) None (found at entries)
found_taken pair at entries = by (pair_eq at pair) refl
  where
    by : (b : Bool) → pair_eq at pair ≡ b → found at (without pair_cmp pair entries) ≡ cond b None (found at entries)
    by true is =
        subst (λ p. found p (without pair_cmp pair entries) ≡ None) (sym ((pair_eq_decides at pair).0 is)) (taken_found pair_cmp pair_cmp_total pair entries)
    by false is = taken_elsewhere pair_cmp pair_cmp_total pair at entries (differ pair at is)

-- ---- after several pairs are added

abbrev pub in_epoch : ℕ → Gain
in_epoch epoch = record { epoch = epoch }

-- a pair that is added, or that stood beside the epoch before
pub added_found : (epoch : ℕ) (pairs : List IndexPair) (entries : Entries) (at : IndexPair) →
    ((found at entries ≡ Some (in_epoch epoch)) ⊎ Contains pairs at) → found at (all_added epoch pairs entries) ≡ Some (in_epoch epoch)
added_found epoch [] entries at (inl is) = is
added_found epoch [] entries at (inr c) = absurd (among_none at c)
added_found epoch (pair ∷ more) entries at either =
    added_found epoch more (put_in pair_cmp pair (in_epoch epoch) entries) at (by (pair_eq at pair) refl either)
  where
    now : (b : Bool) → pair_eq at pair ≡ b → found at (put_in pair_cmp pair (in_epoch epoch) entries) ≡ cond b (Some (in_epoch epoch)) (found at entries)
    now b is = found_put pair at (in_epoch epoch) entries ∙ ap (λ c. cond c (Some (in_epoch epoch)) (found at entries)) is

    later : (b : Bool) → pair_eq at pair ≡ b → ((pair ≡ at) ⊎ Contains more at) →
        (found at (put_in pair_cmp pair (in_epoch epoch) entries) ≡ Some (in_epoch epoch)) ⊎ Contains more at
    later true is c = inl (now true is)
    later false is (inl same) =
        let no : true ≡ false = sym ((pair_eq_decides at pair).1 (sym same)) ∙ is in
        absurd (cc)
    later false is (inr c) = inr c

    by : (b : Bool) → pair_eq at pair ≡ b → ((found at entries ≡ Some (in_epoch epoch)) ⊎ Contains (pair ∷ more) at) →
        (found at (put_in pair_cmp pair (in_epoch epoch) entries) ≡ Some (in_epoch epoch)) ⊎ Contains more at
    by true is e = inl (now true is)
    by false is (inl e) = inl (now false is ∙ e)
    by false is (inr c) = later false is (among_cases pair more at c)

-- a pair that isn't added
pub unadded_found : (epoch : ℕ) (pairs : List IndexPair) (entries : Entries) (at : IndexPair) → (Contains pairs at → ⊥) →
    found at (all_added epoch pairs entries) ≡ found at entries
unadded_found epoch [] entries at none = refl
unadded_found epoch (pair ∷ more) entries at none =
    unadded_found epoch more (put_in pair_cmp pair (in_epoch epoch) entries) at (λ c. none (among_later pair at more c))
    ∙ (found_put pair at (in_epoch epoch) entries ∙ by (pair_eq at pair) refl)
  where
    by : (b : Bool) → pair_eq at pair ≡ b → cond b (Some (in_epoch epoch)) (found at entries) ≡ found at entries
    by true is = absurd (none (subst (Contains (pair ∷ more)) (sym ((pair_eq_decides at pair).0 is)) (among_first pair more)))
    by false is = refl
