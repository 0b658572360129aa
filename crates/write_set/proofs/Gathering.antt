-- The changes of an epoch's committed candidates are those that the code gathers.
use Rattle.std.proofs.Common.{◌≡◌, ℕ, zero, suc, ◌+◌, ◌<◌, Bool, true, false, cond, List, [], ◌∷◌, ◌++◌, length, map, take, get_or, refl, sym, ap, ◌∙◌, subst, arith, add-one, append_assoc}
use Rattle.std.proofs.lemmas.List.{append-nil, get_or-map, length-map, take-map}
use Rattle.geo_base.specs.declared.outcome.Outcome.{Outcome}
use Rattle.write_set.specs.declared.batch.Batch.{Batch}
use Rattle.write_set.specs.declared.candidate.Candidate.{Candidate}
use Rattle.write_set.specs.Sets.{ChangeOfRow}
use Rattle.write_set.specs.Journal.{Placed, placed_from, candidates_of}
use Rattle.write_set.specs.Merge.{committed_among, is_committed}
use Rattle.write_set.specs.Snapshot.{changes_of}
use Rattle.write_set.specs.inner.Gathering.{all_items, changes_among}

abbrev sets_of : List Placed → List (List ChangeOfRow)
sets_of all = map (λ c. c.set) all

abbrev sets_in : List Candidate → List (List ChangeOfRow)
sets_in items = map (λ c. c.set) items

placed_sets : (region csn : ℕ) (items : List Candidate) (all : List Placed) (more : List Candidate) → sets_of all ≡ sets_in more →
    sets_of (placed_from region csn items ++ all) ≡ sets_in (items ++ more)
placed_sets region csn [] all more same = same
placed_sets region csn (c ∷ cs) all more same = ap (λ l. c.set ∷ l) (placed_sets region (csn + 1) cs all more same)

candidates_sets : (batches : List Batch) → sets_of (candidates_of batches) ≡ sets_in (all_items batches)
candidates_sets [] = refl
candidates_sets (b ∷ bs) = placed_sets b.region 0 b.items (candidates_of bs) (all_items bs) (candidates_sets bs)

same_changes : (all : List Placed) (items : List Candidate) → sets_of all ≡ sets_in items → (outcomes : List Outcome) →
    changes_of (committed_among all outcomes) ≡ changes_among items outcomes
same_changes [] [] same outcomes = refl
same_changes [] (i ∷ items) same outcomes = cc
same_changes (c ∷ all) [] same outcomes = cc
same_changes (c ∷ all) (i ∷ items) same [] = refl
same_changes (c ∷ all) (i ∷ items) same (o ∷ outcomes) =
    let set : c.set ≡ i.set = cc in
    let sets : sets_of all ≡ sets_in items = cc in
    by (is_committed o) set (same_changes all items sets outcomes)
  where
    by : (b : Bool) → c.set ≡ i.set → changes_of (committed_among all outcomes) ≡ changes_among items outcomes →
        changes_of (cond b (c ∷ committed_among all outcomes) (committed_among all outcomes)) ≡ cond b (i.set ++ changes_among items outcomes) (changes_among items outcomes)
    by true set rest = λ i. set i ++ rest i
    by false set rest = rest

pub gathered : (batches : List Batch) (outcomes : List Outcome) →
    changes_of (committed_among (candidates_of batches) outcomes) ≡ changes_among (all_items batches) outcomes
gathered batches outcomes = same_changes (candidates_of batches) (all_items batches) (candidates_sets batches) outcomes

length_placed : (region csn : ℕ) (items : List Candidate) (all : List Placed) (more : List Candidate) → length all ≡ length more →
    length (placed_from region csn items ++ all) ≡ length (items ++ more)
length_placed region csn [] all more same = same
length_placed region csn (c ∷ cs) all more same = ap suc (length_placed region (csn + 1) cs all more same)

pub as_many : (batches : List Batch) → length (candidates_of batches) ≡ length (all_items batches)
as_many [] = refl
as_many (b ∷ bs) = length_placed b.region 0 b.items (candidates_of bs) (all_items bs) (as_many bs)

-- one candidate more
among_next : (items : List Candidate) (outcomes : List Outcome) (place : ℕ) (c : Candidate) (o : Outcome) → place < length items → place < length outcomes →
    changes_among (take (suc place) items) outcomes
    ≡ changes_among (take place items) outcomes ++ cond (is_committed (get_or outcomes place o)) (get_or items place c).set []
among_next [] outcomes place c o within has = absurd (omega (arith, within))
among_next (i ∷ items) [] place c o within has = absurd (omega (arith, has))
among_next (i ∷ items) (p ∷ outcomes) zero c o within has = by (is_committed p)
  where
    by : (b : Bool) → cond b (i.set ++ changes_among [] outcomes) (changes_among [] outcomes) ≡ [] ++ cond b i.set []
    by true = append-nil i.set
    by false = refl
among_next (i ∷ items) (p ∷ outcomes) (suc place) c o within has =
    by (is_committed p) (among_next items outcomes place c o (omega (arith, within)) (omega (arith, has)))
  where
    more : List ChangeOfRow
    more = cond (is_committed (get_or outcomes place o)) (get_or items place c).set []

    by : (b : Bool) → changes_among (take (suc place) items) outcomes ≡ changes_among (take place items) outcomes ++ more →
        cond b (i.set ++ changes_among (take (suc place) items) outcomes) (changes_among (take (suc place) items) outcomes)
        ≡ cond b (i.set ++ changes_among (take place items) outcomes) (changes_among (take place items) outcomes) ++ more
    by true rest = ap (λ l. i.set ++ l) rest ∙ sym (append_assoc i.set (changes_among (take place items) outcomes) more)
    by false rest = rest

among_more : (items : List Candidate) (outcomes : List Outcome) (place : ℕ) (c : Candidate) (o : Outcome) → place < length items → place < length outcomes →
    changes_among (take (place + 1) items) outcomes
    ≡ changes_among (take place items) outcomes ++ cond (is_committed (get_or outcomes place o)) (get_or items place c).set []
among_more items outcomes place c o within has = rw add-one (among_next items outcomes place c o within has)

-- the same, of candidates that are seen as such
among_seen : {X : Type 0} (see : X → Candidate) (items : List X) (outcomes : List Outcome) (place : ℕ) (x : X) (o : Outcome) →
    place < length items → place < length outcomes → x ≡ get_or items place x → o ≡ get_or outcomes place o →
    changes_among (map see (take (place + 1) items)) outcomes ≡ changes_among (map see (take place items)) outcomes ++ cond (is_committed o) (see x).set []
among_seen see items outcomes place x o within has item outcome =
    ap (λ l. changes_among l outcomes) (sym (take-map see (place + 1) items))
    ∙ among_more (map see items) outcomes place (see x) o (subst (λ n. place < n) (sym (length-map items see)) within) has
    ∙ (ap (λ p. changes_among (take place (map see items)) outcomes ++ cond (is_committed p) (get_or (map see items) place (see x)).set []) (sym outcome)
    ∙ (ap (λ (c : Candidate). changes_among (take place (map see items)) outcomes ++ cond (is_committed o) c.set []) (get_or-map see items place x (see x) within ∙ ap see (sym item))
    ∙ ap (λ l. changes_among l outcomes ++ cond (is_committed o) (see x).set []) (take-map see place items)))

-- the changes of a candidate come to those that were gathered where its outcome is that it commits, and else none do
module _ {X : Type 0} (see : X → Candidate) (items : List X) (outcomes : List Outcome) (place : ℕ) (x : X) (o : Outcome) where
  pub among_in : place < length items → place < length outcomes → x ≡ get_or items place x → o ≡ get_or outcomes place o → is_committed o ≡ true →
      (found : List ChangeOfRow) → found ≡ changes_among (map see (take place items)) outcomes ++ (see x).set → found ≡ changes_among (map see (take (place + 1) items)) outcomes
  among_in within has item outcome is found more =
      more
      ∙ ap (λ b. changes_among (map see (take place items)) outcomes ++ cond b (see x).set []) (sym is)
      ∙ sym (among_seen see items outcomes place x o within has item outcome)

  pub among_out : place < length items → place < length outcomes → x ≡ get_or items place x → o ≡ get_or outcomes place o → is_committed o ≡ false →
      (found : List ChangeOfRow) → found ≡ changes_among (map see (take place items)) outcomes → found ≡ changes_among (map see (take (place + 1) items)) outcomes
  among_out within has item outcome is found same =
      same
      ∙ sym (append-nil (changes_among (map see (take place items)) outcomes))
      ∙ ap (λ b. changes_among (map see (take place items)) outcomes ++ cond b (see x).set []) (sym is)
      ∙ sym (among_seen see items outcomes place x o within has item outcome)
