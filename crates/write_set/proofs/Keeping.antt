-- The candidate that keeps a row is the best one that a single pass over the candidates finds.
use Rattle.std.proofs.Common.{◌≡◌, ⊎_elim, Bool, true, false, cond, not, ◌&&◌, ◌||◌, None, Some, List, [], ◌∷◌, find, refl, sym, ap, ◌∙◌}
use Rattle.std.proofs.lemmas.Bool.{false≢true}
use Rattle.geo_base.specs.declared.row_id.RowId.{RowId}
use Rattle.geo_base.specs.declared.claim.Claim.{Claim}
use Rattle.geo_base.specs.Claims.{beats}
use Rattle.geo_base.specs.laws.Winning.{beats_irreflexive, beats_transitive, beats_total}
use Rattle.write_set.specs.declared.entrant.Entrant.{Entrant}
use Rattle.write_set.specs.Sets.{has_row}
use Rattle.write_set.specs.Merge.{claim_of}
use Rattle.write_set.specs.inner.Entrants.{placed, takes_row, loses_row, keeps_row, keeper_of, best_of}
use Rattle.write_set.specs.laws.Among.{true_or_false, and_true, any_among, any_found}

-- ---- what beats a claim beats the others that don't beat it

above_others : (a b c : Claim) → beats a b ≡ true → beats c b ≡ false → beats a c ≡ true
above_others a b c h k = by (beats a c) (beats c a) refl refl
  where
    by : (x y : Bool) → beats a c ≡ x → beats c a ≡ y → beats a c ≡ true
    by true y is e = is
    by false true is e = absurd (false≢true (sym k ∙ beats_transitive c a b e h))
    by false false is e = absurd (false≢true (sym k ∙ (ap (λ (x : Claim). beats x b) (sym (beats_total a c is e)) ∙ h)))

-- and beaten by the others, where it doesn't beat them
below_others : (a b c : Claim) → beats a b ≡ true → beats a c ≡ false → beats c b ≡ true
below_others a b c h k = by (beats c b) refl
  where
    by : (x : Bool) → beats c b ≡ x → beats c b ≡ true
    by true is = is
    by false is = absurd (false≢true (sym k ∙ above_others a b c h is))

-- ---- tests

or_right : (a b : Bool) → (a ≡ true → b ≡ true) → (a || b) ≡ b
or_right true b h = sym (h refl)
or_right false b h = refl

or_absorbs : (a b c : Bool) → (b ≡ true → a ≡ true) → (a || (b || c)) ≡ (a || c)
or_absorbs true b c h = refl
or_absorbs false true c h = absurd (false≢true (h refl))
or_absorbs false false c h = refl

and_both : (a b : Bool) → a ≡ true → b ≡ true → (a && b) ≡ true
and_both true b e h = h
and_both false b e h = absurd (false≢true e)

and_never : (a b : Bool) → b ≡ false → (a && b) ≡ false
and_never true b e = e
and_never false b e = refl

first_false : (a b : Bool) → b ≡ true → (a && b) ≡ false → a ≡ false
first_false true b e h = absurd (false≢true (sym h ∙ e))
first_false false b e h = refl

passed_none : (a b : Bool) → a ≡ true → (a && not b) ≡ false → b ≡ true
passed_none true true e h = refl
passed_none true false e h = absurd (false≢true (sym h))
passed_none false b e h = absurd (false≢true e)

second_passed : {X : Type 0} (a b : Bool) (x y z : X) → (a ≡ false → b ≡ false) → cond a x z ≡ cond a x (cond b y z)
second_passed true b x y z h = refl
second_passed false true x y z h = absurd (false≢true (sym (h refl)))
second_passed false false x y z h = refl

-- ---- the candidates of a row

module _ (row : RowId) where
  abbrev has : Entrant → Bool
  has d = has_row row d.candidate.now.set

  abbrev takes : Entrant → Entrant → Bool
  takes d c = takes_row d (placed c) row

  abbrev loses : List Entrant → Entrant → Bool
  loses ds c = loses_row ds (placed c) row

  none_itself : (m : Entrant) → takes m m ≡ false
  none_itself m = ap (λ b. b && has m) (beats_irreflexive (claim_of (placed m)))

  -- what takes the row from one takes it from those from which that one does
  takes_through : (m x d : Entrant) → takes x m ≡ true → takes m d ≡ true → takes x d ≡ true
  takes_through m x d h k =
      let first = and_true (beats (claim_of (placed x)) (claim_of (placed m))) (has x) h in
      let second = and_true (beats (claim_of (placed m)) (claim_of (placed d))) (has m) k in
      and_both (beats (claim_of (placed x)) (claim_of (placed d))) (has x)
      (beats_transitive (claim_of (placed x)) (claim_of (placed m)) (claim_of (placed d)) first.0 second.0) first.1

  -- where one doesn't take the row from m, m takes it from those from which that one does
  takes_instead : (m x d : Entrant) → has m ≡ true → takes x m ≡ false → takes x d ≡ true → takes m d ≡ true
  takes_instead m x d has_it kept k =
      let both = and_true (beats (claim_of (placed x)) (claim_of (placed d))) (has x) k in
      and_both (beats (claim_of (placed m)) (claim_of (placed d))) (has m)
      (below_others (claim_of (placed x)) (claim_of (placed d)) (claim_of (placed m)) both.0
      (first_false (beats (claim_of (placed x)) (claim_of (placed m))) (has x) both.1 kept)) has_it

  -- and what takes it from m takes it from that one
  takes_both : (m x e : Entrant) → has x ≡ true → takes x m ≡ false → takes e m ≡ true → takes e x ≡ true
  takes_both m x e has_it kept k =
      let both = and_true (beats (claim_of (placed e)) (claim_of (placed m))) (has e) k in
      and_both (beats (claim_of (placed e)) (claim_of (placed x))) (has e)
      (above_others (claim_of (placed e)) (claim_of (placed m)) (claim_of (placed x)) both.0
      (first_false (beats (claim_of (placed x)) (claim_of (placed m))) (has x) has_it kept)) both.1

  -- candidates from which others lose the row alike have one keeper
  same_found : (ds es xs : List Entrant) → ((d : Entrant) → loses ds d ≡ loses es d) →
      find (λ d. keeps_row ds d row) xs ≡ find (λ d. keeps_row es d row) xs
  same_found ds es xs same i = find (λ d. has d && not (same d i)) xs

  -- one that loses the row to the next one may be left out
  left_out : (m x : Entrant) (xs : List Entrant) → has m ≡ true → takes x m ≡ true → keeper_of (m ∷ x ∷ xs) row ≡ keeper_of (x ∷ xs) row
  left_out m x xs has_it is =
      let lost : loses (m ∷ x ∷ xs) m ≡ true = λ i. none_itself m i || (is i || loses xs m) in
      (λ i. cond (has_it i && not (lost i)) (Some m) (find (λ d. keeps_row (m ∷ x ∷ xs) d row) (x ∷ xs)))
      ∙ same_found (m ∷ x ∷ xs) (x ∷ xs) (x ∷ xs)
      (λ d. or_right (takes m d) (takes x d || loses xs d) (λ t. ap (λ b. b || loses xs d) (takes_through m x d is t)))

  -- and so may the next one, if it doesn't take the row
  next_out : (m x : Entrant) (xs : List Entrant) → has m ≡ true → takes x m ≡ false → keeper_of (m ∷ xs) row ≡ keeper_of (m ∷ x ∷ xs) row
  next_out m x xs has_it not_taken =
      second_passed (keeps_row (m ∷ xs) m row) (keeps_row (m ∷ xs) x row) (Some m) (Some x) (find (λ d. keeps_row (m ∷ xs) d row) xs) lost_too
      ∙ sym (same_found (m ∷ x ∷ xs) (m ∷ xs) (m ∷ x ∷ xs)
      (λ d. or_absorbs (takes m d) (takes x d) (loses xs d) (takes_instead m x d has_it not_taken)))
    where
      lost_too : keeps_row (m ∷ xs) m row ≡ false → keeps_row (m ∷ xs) x row ≡ false
      lost_too none =
          let winner = any_found (λ e. takes e m) (m ∷ xs) (passed_none (has m) (loses (m ∷ xs) m) has_it none) in
          ⊎_elim
          (λ t. and_never (has x) (not (loses (m ∷ xs) x))
          (ap not (any_among (λ e. takes e x) (m ∷ xs) winner.0 winner.1 (takes_both m x winner.0 t not_taken winner.2))))
          (λ f. ap (λ b. b && not (loses (m ∷ xs) x)) f) (true_or_false (has x))

  best_from : (m : Entrant) (xs : List Entrant) → has m ≡ true → best_of (Some m) xs row ≡ keeper_of (m ∷ xs) row
  best_from m [] has_it = sym (λ i. cond (has_it i && not (none_itself m i || false)) (Some m) None)
  best_from m (x ∷ xs) has_it = by (takes x m) refl (best_from m xs has_it) (best_from x xs)
    where
      by : (b : Bool) → takes x m ≡ b → best_of (Some m) xs row ≡ keeper_of (m ∷ xs) row →
          (has x ≡ true → best_of (Some x) xs row ≡ keeper_of (x ∷ xs) row) → best_of (cond b (Some x) (Some m)) xs row ≡ keeper_of (m ∷ x ∷ xs) row
      by true is same taken =
          taken (and_true (beats (claim_of (placed x)) (claim_of (placed m))) (has x) is).1 ∙ sym (left_out m x xs has_it is)
      by false is same taken = same ∙ next_out m x xs has_it is

  -- the best one of all the candidates keeps the row
  pub best_keeps : (xs : List Entrant) → best_of None xs row ≡ keeper_of xs row
  best_keeps [] = refl
  best_keeps (x ∷ xs) = by (has x) refl (best_keeps xs)
    where
      by : (b : Bool) → has x ≡ b → best_of None xs row ≡ keeper_of xs row → best_of (cond b (Some x) None) xs row ≡ keeper_of (x ∷ xs) row
      by true is rest = best_from x xs is
      by false is rest =
          rest
          ∙ sym (λ i. cond (is i && not (loses (x ∷ xs) x)) (Some x)
          (find (λ d. has d && not (and_never (beats (claim_of (placed x)) (claim_of (placed d))) (has x) is i || loses xs d)) xs))
