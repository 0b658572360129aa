-- A list that was sorted and of which repeats were dropped has the same items, in rising order and each once.
use Rattle.std.proofs.Common.{◌≡◌, Bool, List, [], ◌∷◌, map, Contains, sym, ◌∙◌, subst}
use Rattle.std.specs.Cmp.{on_total}
use Rattle.std.specs.List.{dedup, AllByRecursion}
use Rattle.std.specs.List.Sorted.{IsPermutation, IsSorted, IsStrictlySortedBy}
use Rattle.std.specs.List.Retain.{IsFiltered, DiffersFromLast}
use Rattle.std.specs.declared.cmp.Ordering.{Ordering}
use Rattle.std.specs.declared.cmp.Ordering.TheVariants.{Less}
use Rattle.std.proofs.lemmas.Cmp.{on_equiv}
use Rattle.std.proofs.lemmas.List.Filters.{dedup_is}
use Rattle.std.proofs.lemmas.List.Kept.{IsStrictlySortedBy-dedup, Any-dedup, Contains-from_dedup}
use Rattle.std.proofs.lemmas.List.Sorted.{Contains-permutation, IsPermutation-sym}
use denote.Ref.{Bor}
use Rattle.geo_base.specs.declared.cell.Cell.{Cell}
use Rattle.geo_base.specs.Order.{cells_cmp, cells_eq}
use Rattle.geo_base.specs.laws.Orders.{cells_cmp_total, cells_eq_decides, cells_eq_equiv, cells_eq_ties}
use Rattle.index_store.specs.inner.Keys.{AreRisingOf}
use Rattle.index_store.specs.laws.Members.{in_map, from_map}

abbrev KeyRef : Type 0
KeyRef = Bor (List Cell)

abbrev by_cells : KeyRef → KeyRef → Ordering
by_cells a b = cells_cmp a.now b.now

abbrev same_cells_in : KeyRef → KeyRef → Bool
same_cells_in a b = cells_eq a.now b.now

above_now : (key : KeyRef) (keys : List KeyRef) → AllByRecursion (λ k. by_cells key k ≡ Less) keys → AllByRecursion (λ k. cells_cmp key.now k ≡ Less) (map (λ k. k.now) keys)
above_now key [] all = tt
above_now key (k ∷ keys) all = (all.0, above_now key keys all.1)

sorted_now : (keys : List KeyRef) → IsStrictlySortedBy by_cells keys → IsStrictlySortedBy cells_cmp (map (λ k. k.now) keys)
unfolding IsStrictlySortedBy
sorted_now [] sorted = tt
sorted_now (k ∷ keys) sorted = (above_now k keys sorted.0, sorted_now keys sorted.1)

pub rising_of : (made sorted kept : List KeyRef) (keys : List (List Cell)) → map (λ k. k.now) made ≡ keys → IsPermutation made sorted → IsSorted by_cells sorted →
    IsFiltered (DiffersFromLast same_cells_in) [] sorted kept → AreRisingOf keys (map (λ k. k.now) kept)
rising_of made sorted kept keys all moved order left =
    subst (λ l. AreRisingOf l (map (λ k. k.now) kept)) all
    (subst (λ l. AreRisingOf (map (λ k. k.now) made) (map (λ k. k.now) l)) (sym (dedup_is same_cells_in sorted kept left))
    (record {
      ordered = sorted_now (dedup same_cells_in sorted) (IsStrictlySortedBy-dedup (on_total (λ k. k.now) cells_cmp_total) (λ x y. cells_eq_ties x.now y.now) sorted order);
      each = λ key c.
          let (ref, among, is) = from_map (λ k. k.now) made key c in
          let a = Any-dedup (on_equiv (λ k. k.now) cells_eq_equiv) sorted ref (Contains-permutation made sorted ref moved among) in
          subst (Contains (map (λ k. k.now) (dedup same_cells_in sorted))) (sym ((cells_eq_decides ref.now a.1.now).0 a.4) ∙ is)
          (in_map (λ k. k.now) (dedup same_cells_in sorted) a.1 (a.0, a.2, a.3));
      only = λ key c.
          let (ref, among, is) = from_map (λ k. k.now) (dedup same_cells_in sorted) key c in
          subst (Contains (map (λ k. k.now) made)) is
          (in_map (λ k. k.now) made ref (Contains-permutation sorted made ref (IsPermutation-sym made sorted moved) (Contains-from_dedup same_cells_in sorted ref among)));
    }))
