-- The candidate that a verdict names as the winner: a contender for the row that no contender beats.
use Rattle.std.proofs.Common.{◌≡◌, ⊎_elim, ℕ, ◌&&◌, Bool, true, false, not, Option, None, Some, unwrap_or, List, [], ◌∷◌, Contains, refl, sym, ap, ◌∙◌, subst}
use Rattle.std.proofs.lemmas.Bool.{false≢true}
use Rattle.geo_base.specs.declared.row_id.RowId.{RowId}
use Rattle.geo_base.specs.declared.numbers.CandId.{CandId}
use Rattle.geo_base.specs.declared.outcome.Outcome.TheVariants.{Beaten}
use Rattle.geo_base.specs.laws.Winning.{beats_irreflexive, beats_transitive}
use Rattle.write_set.specs.Sets.{ChangeOfRow, has_row}
use Rattle.write_set.specs.Journal.{Placed}
use Rattle.write_set.specs.Merge.{claim_of, wins, id_of, is_fresh, contenders, is_beaten_on, winner_of, first_changed, first_beaten, changed_or, beaten_or_committed, verdict_of}
use Rattle.write_set.specs.laws.Among.{true_or_false, and_true, among_none, among_first, among_later, among_cases, any_found, filtered_among}
use Rattle.write_set.proofs.Searches.{none_passes, found_among, finds}

-- none of these candidates beats this one
abbrev NoneWins : List Placed → Placed → Type 0
NoneWins ds m = (x : Placed) → Contains ds x → wins x m ≡ false

none_wins_first : (y : Placed) (ys : List Placed) → NoneWins ys y → NoneWins (y ∷ ys) y
none_wins_first y ys h x among =
    ⊎_elim (λ same. subst (λ z. wins z y ≡ false) same (beats_irreflexive (claim_of y))) (h x) (among_cases y ys x among)

none_wins_later : (y m : Placed) (ys : List Placed) → wins y m ≡ false → NoneWins ys m → NoneWins (y ∷ ys) m
none_wins_later y m ys loses h x among =
    ⊎_elim (λ same. subst (λ z. wins z m ≡ false) same loses) (h x) (among_cases y ys x among)

-- what beats the best one is beaten by none
none_wins_above : (y m : Placed) (ys : List Placed) → wins y m ≡ true → NoneWins ys m → NoneWins ys y
none_wins_above y m ys above h x among =
    ⊎_elim
    (λ t. absurd (false≢true (sym (h x among) ∙ beats_transitive (claim_of x) (claim_of y) (claim_of m) t above)))
    (λ f. f) (true_or_false (wins x y))

-- in each list that has candidates there is one that none of them beats
best_of : (y : Placed) (ys : List Placed) → (m : Placed) × Contains (y ∷ ys) m × NoneWins (y ∷ ys) m
best_of y [] = (y, among_first y [], none_wins_first y [] (λ x none. absurd (among_none x none)))
best_of y (z ∷ zs) = by (best_of z zs)
  where
    by : (m : Placed) × Contains (z ∷ zs) m × NoneWins (z ∷ zs) m → (m : Placed) × Contains (y ∷ z ∷ zs) m × NoneWins (y ∷ z ∷ zs) m
    by rest =
        ⊎_elim
        (λ above. (y, among_first y (z ∷ zs), none_wins_first y (z ∷ zs) (none_wins_above y rest.0 (z ∷ zs) above rest.2)))
        (λ loses. (rest.0, among_later y rest.0 (z ∷ zs) rest.1, none_wins_later y rest.0 (z ∷ zs) loses rest.2))
        (true_or_false (wins y rest.0))

module _ (last : RowId → ℕ) (all : List Placed) where
  pub contender_is : (d : Placed) (row : RowId) → Contains (contenders last all row) d → Contains all d × (is_fresh last d ≡ true) × (has_row row d.set ≡ true)
  contender_is d row h =
      let parts = filtered_among (λ x. is_fresh last x && has_row row x.set) all d h in
      let both = and_true (is_fresh last d) (has_row row d.set) parts.1 in
      (parts.0, both.0, both.1)

  -- the contender that no contender beats
  abbrev pub IsWinner : RowId → Placed → Type 0
  IsWinner row w = Contains (contenders last all row) w × (is_beaten_on last all w row ≡ false)

  winner_is : (row : RowId) (d : Placed) → Contains (contenders last all row) d →
      (w : Placed) × (winner_of last all row ≡ Some w) × IsWinner row w
  winner_is row d h = by (contenders last all row) refl
    where
      found : (m : Placed) → Contains (contenders last all row) m → NoneWins (contenders last all row) m →
          (w : Placed) × (winner_of last all row ≡ Some w) × IsWinner row w
      found m among best =
          let least : is_beaten_on last all m row ≡ false = none_passes (λ x. wins x m) (contenders last all row) best in
          let first = finds (λ x. not (is_beaten_on last all x row)) (contenders last all row) m among (ap not least) in
          let parts = found_among (λ x. not (is_beaten_on last all x row)) (contenders last all row) first.0 first.1 in
          (first.0, first.1, (parts.0, not_true (is_beaten_on last all first.0 row) parts.1))
        where
          not_true : (b : Bool) → not b ≡ true → b ≡ false
          not_true true e = absurd (false≢true e)
          not_true false e = refl

      by : (ds : List Placed) → contenders last all row ≡ ds → (w : Placed) × (winner_of last all row ≡ Some w) × IsWinner row w
      by [] is = absurd (among_none d (subst (λ xs. Contains xs d) is h))
      by (y ∷ ys) is =
          let best = best_of y ys in
          found best.0 (subst (λ xs. Contains xs best.0) (sym is) best.1) (λ x h. best.2 x (subst (λ xs. Contains xs x) is h))

  -- the candidate that a verdict names as the winner
  pub beaten_winner : (epoch : ℕ) (c : Placed) (row : RowId) (id : CandId) → verdict_of last epoch all c ≡ Beaten row id →
      (w : Placed) × IsWinner row w × (id ≡ id_of epoch w)
  beaten_winner epoch c row id e = by (first_changed last c) (first_beaten last all c) refl e
    where
      by : (o b : Option ChangeOfRow) → first_beaten last all c ≡ b →
          changed_or last (beaten_or_committed last epoch all c b) o ≡ Beaten row id → (w : Placed) × IsWinner row w × (id ≡ id_of epoch w)
      by (Some p) b g h = cc
      by None None g h = cc
      by None (Some p) g h =
          let at : p.0 ≡ row = cc in
          let named : id_of epoch (unwrap_or (winner_of last all p.0) c) ≡ id = cc in
          let beaten = found_among (λ q. is_beaten_on last all c q.0) c.set p g in
          let rival = any_found (λ d. wins d c) (contenders last all p.0) beaten.1 in
          let winner = winner_is p.0 rival.0 rival.1 in
          (winner.0, subst (λ r. IsWinner r winner.0) at winner.2, sym named ∙ ap (λ o. id_of epoch (unwrap_or o c)) winner.1)
