-- Which of all outcomes are those of one region's candidates.
use Rattle.std.proofs.Common.{◌≡◌, ℕ, zero, suc, ◌+◌, ◌-◌, ◌<◌, ◌≤◌, ◌==◌, Bool, true, false, cond, List, [], ◌∷◌, ◌++◌, length, map, filter, take, drop, get_or, refl, sym, ap, ◌∙◌, subst, arith, append_assoc, append-nil, length-append, eq-eqb, ne_eqb}
use Rattle.std.proofs.lemmas.List.{drop_more, drop_all, drop-drop, length-drop, get_or-map}
use Rattle.geo_base.specs.declared.outcome.Outcome.{Outcome}
use Rattle.write_set.specs.declared.batch.Batch.{Batch}
use Rattle.write_set.specs.declared.candidate.Candidate.{Candidate}
use Rattle.write_set.specs.Journal.{Placed, placed_from, candidates_of}
use Rattle.region_core.specs.inner.Publishing.{own_among}

-- where each candidate's outcome is known, those of the region's own are told
pub own_of_all : (region : ℕ) (f : Placed → Outcome) (all : List Placed) → own_among region all (map f all) ≡ map f (filter (λ c. c.region == region) all)
own_of_all region f [] = refl
own_of_all region f (c ∷ all) = by (c.region == region) (own_of_all region f all)
  where
    by : (b : Bool) → own_among region all (map f all) ≡ map f (filter (λ c. c.region == region) all) →
        cond b (f c ∷ own_among region all (map f all)) (own_among region all (map f all)) ≡ map f (cond b (c ∷ filter (λ c. c.region == region) all) (filter (λ c. c.region == region) all))
    by true rest = ap (λ (os : List Outcome). f c ∷ os) rest
    by false rest = rest

length_placed : (of csn : ℕ) (items : List Candidate) → length (placed_from of csn items) ≡ length items
length_placed of csn [] = refl
length_placed of csn (x ∷ xs) = ap suc (length_placed of (csn + 1) xs)

pub length_first : (b : Batch) (batches : List Batch) → length (candidates_of (b ∷ batches)) ≡ length b.items + length (candidates_of batches)
length_first b batches = let placed = length_placed b.region 0 b.items in omega (arith, placed, length-append (placed_from b.region 0 b.items) (candidates_of batches))

module _ (region : ℕ) where
  -- of the candidates of one batch and of others behind them
  batch_own : (of csn : ℕ) (items : List Candidate) (rest : List Placed) (outcomes : List Outcome) → (of == region) ≡ true → length items ≤ length outcomes →
      own_among region (placed_from of csn items ++ rest) outcomes ≡ take (length items) outcomes ++ own_among region rest (drop (length items) outcomes)
  batch_own of csn [] rest outcomes is few = refl
  batch_own of csn (x ∷ xs) rest [] is few = absurd (omega (arith, few))
  batch_own of csn (x ∷ xs) rest (o ∷ outcomes) is few =
      ap (λ (b : Bool). cond b (o ∷ own_among region (placed_from of (csn + 1) xs ++ rest) outcomes) (own_among region (placed_from of (csn + 1) xs ++ rest) outcomes)) is
      ∙ ap (λ (os : List Outcome). o ∷ os) (batch_own of (csn + 1) xs rest outcomes is (omega (arith, few)))

  batch_other : (of csn : ℕ) (items : List Candidate) (rest : List Placed) (outcomes : List Outcome) → (of == region) ≡ false → length items ≤ length outcomes →
      own_among region (placed_from of csn items ++ rest) outcomes ≡ own_among region rest (drop (length items) outcomes)
  batch_other of csn [] rest outcomes is few = refl
  batch_other of csn (x ∷ xs) rest [] is few = absurd (omega (arith, few))
  batch_other of csn (x ∷ xs) rest (o ∷ outcomes) is few =
      ap (λ (b : Bool). cond b (o ∷ own_among region (placed_from of (csn + 1) xs ++ rest) outcomes) (own_among region (placed_from of (csn + 1) xs ++ rest) outcomes)) is
      ∙ batch_other of (csn + 1) xs rest outcomes is (omega (arith, few))

  -- what was found in the batches below a place, and what those from it on have, are all; and the outcomes from here on are theirs
  pub record AreFound (all : List Batch) (outcomes : List Outcome) (index place : ℕ) (own : List Outcome) : Type 0 where
    pub made : own ++ own_among region (candidates_of (drop index all)) (drop place outcomes) ≡ own_among region (candidates_of all) outcomes
    pub left : place + length (candidates_of (drop index all)) ≡ length outcomes

  pub none_found : (all : List Batch) (outcomes : List Outcome) → length outcomes ≡ length (candidates_of all) → AreFound all outcomes 0 0 []
  none_found all outcomes same = record { made = refl; left = omega (arith, same) }

  pub all_found : (all : List Batch) (outcomes : List Outcome) (index place : ℕ) (own : List Outcome) → AreFound all outcomes index place own → length all ≤ index →
      own ≡ own_among region (candidates_of all) outcomes
  all_found all outcomes index place own found end =
      sym (append-nil own)
      ∙ ap (λ (bs : List Batch). own ++ own_among region (candidates_of bs) (drop place outcomes)) (sym (drop_all index all end))
      ∙ found.made

  module _ (all : List Batch) (outcomes : List Outcome) (index place : ℕ) (own : List Outcome) (found : AreFound all outcomes index place own) (within : index < length all)
      (b : Batch) (is : b ≡ get_or all index b) (count : ℕ) (counts : count ≡ length b.items) where
    first : drop index all ≡ b ∷ drop (index + 1) all
    first = drop_more all index b within ∙ ap (λ (x : Batch). x ∷ drop (index + 1) all) (sym is)

    counted : place + count + length (candidates_of (drop (index + 1) all)) ≡ length outcomes
    counted = let here = length_first b (drop (index + 1) all) in let same = ap (λ (bs : List Batch). length (candidates_of bs)) first in omega (arith, found.left, here, same, counts)

    pub there : place + count ≤ length outcomes
    there = omega (arith, counted)

    few : length b.items ≤ length (drop place outcomes)
    few = let long = length-drop place outcomes in omega (arith, there, counts, long)

    behind : drop (length b.items) (drop place outcomes) ≡ drop (place + count) outcomes
    behind = drop-drop (length b.items) place outcomes ∙ ap (λ (n : ℕ). drop (place + n) outcomes) (sym counts)

    part : take (place + count - place) (drop place outcomes) ≡ take (length b.items) (drop place outcomes)
    part = let long : place + count - place ≡ length b.items = omega (arith, counts) in ap (λ (n : ℕ). take n (drop place outcomes)) long

    pub found_own : b.region ≡ region → (more : List Outcome) → more ≡ own ++ take (place + count - place) (drop place outcomes) → AreFound all outcomes (index + 1) (place + count) more
    found_own its more grown = record {
      made =
          ap (λ (os : List Outcome). os ++ own_among region (candidates_of (drop (index + 1) all)) (drop (place + count) outcomes)) (grown ∙ ap (λ (os : List Outcome). own ++ os) part)
          ∙ append_assoc own (take (length b.items) (drop place outcomes)) (own_among region (candidates_of (drop (index + 1) all)) (drop (place + count) outcomes))
          ∙ ap (λ (os : List Outcome). own ++ (take (length b.items) (drop place outcomes) ++ own_among region (candidates_of (drop (index + 1) all)) os)) (sym behind)
          ∙ ap (λ (os : List Outcome). own ++ os) (sym (batch_own b.region 0 b.items (candidates_of (drop (index + 1) all)) (drop place outcomes) (eq-eqb b.region region its) few))
          ∙ ap (λ (bs : List Batch). own ++ own_among region (candidates_of bs) (drop place outcomes)) (sym first)
          ∙ found.made;
      left = counted;
    }

    pub found_other : (b.region ≡ region → ⊥) → (more : List Outcome) → more ≡ own → AreFound all outcomes (index + 1) (place + count) more
    found_other other more same = record {
      made =
          ap (λ (os : List Outcome). os ++ own_among region (candidates_of (drop (index + 1) all)) (drop (place + count) outcomes)) same
          ∙ ap (λ (os : List Outcome). own ++ own_among region (candidates_of (drop (index + 1) all)) os) (sym behind)
          ∙ ap (λ (os : List Outcome). own ++ os) (sym (batch_other b.region 0 b.items (candidates_of (drop (index + 1) all)) (drop place outcomes) (ne_eqb b.region region other) few))
          ∙ ap (λ (bs : List Batch). own ++ own_among region (candidates_of bs) (drop place outcomes)) (sym first)
          ∙ found.made;
      left = counted;
    }

-- the item in a place of lent batches
pub item_at : {X : Type 0} (see : X → Batch) (items : List X) (index : ℕ) (x : X) → index < length items → x ≡ get_or items index x → see x ≡ get_or (map see items) index (see x)
item_at see items index x within is = ap see is ∙ sym (get_or-map see items index x (see x) within)
