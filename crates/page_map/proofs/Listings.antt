-- What a walk over chunks from a place on has found, and what it has still to find.
use Rattle.std.proofs.Common.{◌≡◌, ℕ, zero, suc, ◌+◌, ◌-◌, ◌<◌, ◌≤◌, List, [], ◌∷◌, ◌++◌, length, map, take, drop, get_or, slice_range, refl, ap, sym, ◌∙◌, subst, arith, append_assoc, length-drop}
use Rattle.std.specs.List.{All, flat_map}
use Rattle.std.proofs.lemmas.List.{append-nil, map-append, take_all, take_more, drop_all, drop_at, drop-drop, drop-append-le}
use Rattle.std.proofs.lemmas.List.Elements.{All-get_or}
use Rattle.page_map.specs.inner.Cuts.{IsListing}
use Rattle.page_map.proofs.Flats.{flat_from, two_parts}

none_more : (n : ℕ) → 0 - suc n ≡ 0
none_more n = omega arith

same_more : (n m : ℕ) → suc n - suc m ≡ n - m
same_more n m = omega arith

all_more : (n : ℕ) → n - 0 ≡ n
all_more n = omega arith

module _ {X : Type 0} where
  -- the first items of two lists are those of the first list, and then so many of the second as are left
  pub take_append : (n : ℕ) (a b : List X) → take n (a ++ b) ≡ take n a ++ take (n - length a) b
  take_append n [] b = sym (ap (λ l. l ++ take (n - 0) b) (take_all n [] (omega arith)) ∙ ap (λ m. take m b) (all_more n))
  take_append zero (x ∷ a) b = sym (ap (λ m. take m b) (none_more (length a)))
  take_append (suc n) (x ∷ a) b =
      ap (λ l. x ∷ l) (take_append n a b) ∙ ap (λ m. (x ∷ take n a) ++ take m b) (sym (same_more n (length a)))

  drop_append : (a b : List X) (n : ℕ) → drop (length a + n) (a ++ b) ≡ drop n b
  drop_append a b n = sym (drop-drop n (length a) (a ++ b)) ∙ ap (drop n) (drop_at a b (length a) refl)

-- one pair more was added, as it is seen
pub added_more : {X Y : Type 0} (see : Y → X) (pairs : List X) (place : ℕ) (x : X) → place < length pairs → x ≡ get_or pairs place x →
    (start : List X) (found more : List Y) (y : Y) → map see found ≡ start ++ take place pairs → see y ≡ x → more ≡ found ++ (y ∷ []) →
    map see more ≡ start ++ take (place + 1) pairs
added_more see pairs place x within read start found more y so_far seen added =
    ap (map see) added
    ∙ (map-append see found (y ∷ [])
    ∙ (ap (λ l. l ++ (see y ∷ [])) so_far
    ∙ (append_assoc start (take place pairs) (see y ∷ [])
    ∙ ap (λ l. start ++ l) (ap (λ z. take place pairs ++ (z ∷ [])) (seen ∙ read) ∙ sym (take_more pairs place x within)))))

-- one copy more was made
pub copied_more : {X : Type 0} (pairs : List X) (place : ℕ) (x : X) → place < length pairs → x ≡ get_or pairs place x →
    (copies more : List X) (y : X) → copies ≡ take place pairs → y ≡ x → more ≡ copies ++ (y ∷ []) → more ≡ take (place + 1) pairs
copied_more pairs place x within read copies more y so_far same added =
    added
    ∙ (ap (λ l. l ++ (y ∷ [])) so_far
    ∙ (ap (λ z. take place pairs ++ (z ∷ [])) (same ∙ read) ∙ sym (take_more pairs place x within)))

-- a range, listed behind nothing
module _ {X Y : Type 0} (see : Y → X) (pairs : List X) (first last : ℕ) (found : List Y) (none : found ≡ []) where
  pub range_empty : last ≤ first → map see found ≡ slice_range pairs first last
  range_empty within =
      let nothing : last - first ≡ 0 = omega arith in
      ap (map see) none ∙ sym (ap (λ n. take n (drop first pairs)) nothing)

  pub range_past : length pairs ≤ first → map see found ≡ slice_range pairs first last
  range_past past =
      ap (map see) none ∙ sym (ap (take (last - first)) (drop_all first pairs past) ∙ take_all (last - first) [] (omega arith))

  pub range_listed : (more : List Y) → map see more ≡ map see found ++ take (last - first) (drop first pairs) → map see more ≡ slice_range pairs first last
  range_listed more added = added ∙ ap (λ l. map see l ++ take (last - first) (drop first pairs)) none

module _ {X P : Type 0} (e : X → List P) (cs : List X) where
  pub listing_first : (first rest place count : ℕ) (found : List P) → ((d : X) → rest < length (e (get_or cs first d))) → length (flat_map e (take first cs)) + rest ≡ place → IsListing e cs found (found ++ take count (drop place (flat_map e cs))) first rest count
  listing_first first rest place count found inside start = record {
    rest = ap (λ l. found ++ take count l)
        (sym (ap (λ n. drop n (flat_map e cs)) (sym start)
        ∙ (ap (drop (length (flat_map e (take first cs)) + rest)) (two_parts e cs first)
        ∙ drop_append (flat_map e (take first cs)) (flat_map e (drop first cs)) rest)));
    inside = λ d within. inside d;
  }

  pub listing_next : (found more all : List P) (chunk skipped left next count : ℕ) (x : X) → All (λ c. 0 < length (e c)) cs → IsListing e cs found all chunk skipped left → chunk < length cs → x ≡ get_or cs chunk x → count ≡ length (e x) → more ≡ found ++ take left (drop skipped (e x)) → next ≡ left - (count - skipped) → IsListing e cs more all (chunk + 1) 0 next
  listing_next found more all chunk skipped left next count x some s within read counted added e' =
      let behind : List P = flat_map e (drop (chunk + 1) cs) in
      let short : skipped < length (e x) = subst (λ c. skipped < length (e c)) (sym read) (s.inside x within) in
      let skips : length (drop skipped (e x)) ≡ count - skipped = omega (arith, length-drop skipped (e x)) in
      record {
        rest = ap (λ l. l ++ take next behind) added
            ∙ (append_assoc found (take left (drop skipped (e x))) (take next behind)
            ∙ (ap (λ l. found ++ l)
            (ap (λ n. take left (drop skipped (e x)) ++ take n behind) (e' ∙ ap (λ n. left - n) (sym skips))
            ∙ (sym (take_append left (drop skipped (e x)) behind)
            ∙ (ap (take left) (sym (drop-append-le skipped (e x) behind (omega arith)))
            ∙ ap (λ l. take left (drop skipped l)) (sym (flat_from e cs chunk x within read)))))
            ∙ s.rest));
        inside = λ d more. All-get_or (λ c. 0 < length (e c)) cs (chunk + 1) d more some;
      }

  -- nothing is left to be found
  pub listing_done : (found all : List P) (chunk skipped left : ℕ) → IsListing e cs found all chunk skipped left → left ≡ 0 → found ≡ all
  listing_done found all chunk skipped left s none =
      sym (append-nil found) ∙ (ap (λ n. found ++ take n (drop skipped (flat_map e (drop chunk cs)))) (sym none) ∙ s.rest)

  -- there is no chunk any more
  pub listing_over : (found all : List P) (chunk skipped left : ℕ) → IsListing e cs found all chunk skipped left → length cs ≤ chunk → found ≡ all
  listing_over found all chunk skipped left s past =
      sym (append-nil found)
      ∙ (ap (λ l. found ++ l) (sym (ap (λ l. take left (drop skipped (flat_map e l))) (drop_all chunk cs past)
      ∙ (ap (take left) (drop_all skipped [] (omega arith)) ∙ take_all left [] (omega arith)))) ∙ s.rest)
