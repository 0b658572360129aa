-- The greatest word of a row decides as comparing each candidate with each other does.
use Rattle.std.proofs.Common.{◌≡◌, ℕ, zero, suc, ◌<◌, ◌≤◌, max, nat_lt, Bool, true, false, cond, not, ◌||◌, ◌&&◌, None, Some, List, [], ◌∷◌, map, Contains, refl, sym, ap, ◌∙◌, subst, arith, eq-eqb, ne_eqb}
use Rattle.std.specs.Map.{keys_of}
use Rattle.std.proofs.lemmas.Bool.{false≢true}
use Rattle.std.proofs.lemmas.Bool.Decides.{nat_tests}
use Rattle.std.proofs.lemmas.List.Elements.{All-contains}
use lib.ListN.{get_elem?}
use mathlib.Core.Option.{some, some-ne-none, some-injective}
use Rattle.geo_base.specs.declared.row_id.RowId.{RowId}
use Rattle.geo_base.specs.Claims.{word_of, IsClaim}
use Rattle.geo_base.specs.Order.{row_eq}
use Rattle.geo_base.specs.laws.Orders.{row_eq_equiv}
use Rattle.geo_base.specs.laws.Winning.{beats_word}
use Rattle.write_set.specs.Sets.{ChangeOfRow, has_row}
use Rattle.write_set.specs.Journal.{Placed}
use Rattle.write_set.specs.Merge.{claim_of, wins, is_fresh, contenders, is_beaten_on, winner_of}
use Rattle.write_set.specs.laws.Among.{among_first, among_later, any_found, none_among, none_found, filtered_among, among_filtered}
use Rattle.write_set.specs.laws.Rivals.{row_same}
use Rattle.claim_rule.specs.Plan.{top, word_on, best}
use Rattle.claim_rule.specs.laws.Tops.{top_at, top_reached, contains_at}
use Rattle.merge_round.specs.Rounds.{rows_in, number_in, claims_of, final_word, AreClaims, FinalWordsDecide}
use Rattle.merge_round.proofs.Numbers.{number_same, row_known}
use Rattle.merge_round.specs.laws.Judging.{found_passes}

-- ---- greatest values

at_among : {X : Type 0} → (xs : List X) (i : ℕ) (x : X) → get_elem? xs i ≡ some x → Contains xs x
at_among [] i x at = absurd (some-ne-none x (sym at))
at_among (y ∷ ys) zero x at = subst (Contains (y ∷ ys)) (some-injective y x at) (among_first y ys)
at_among (y ∷ ys) (suc i) x at = among_later y x ys (at_among ys i x at)

top_among : {X : Type 0} → (f : X → ℕ) (xs : List X) (x : X) → Contains xs x → f x ≤ top f xs
top_among f xs x h = let at = contains_at xs x h in top_at f xs at.0 x at.1

among_top : {X : Type 0} → (f : X → ℕ) (xs : List X) → 0 < top f xs → (x : X) × Contains xs x × (f x ≡ top f xs)
among_top f xs more = let found = top_reached f xs more in (found.1, at_among xs found.0 found.1 found.2, found.3)

-- ---- searches

not_true : (b : Bool) → not b ≡ true → b ≡ false
not_true true e = sym e
not_true false e = refl

not_false : (b : Bool) → not b ≡ false → b ≡ true
not_false true e = refl
not_false false e = sym e

-- ---- the words of one row

-- the candidate's word, where it is a contender for the row
abbrev weight : (RowId → ℕ) → RowId → Placed → ℕ
weight last row d = cond (is_fresh last d && has_row row d.set) (word_of (claim_of d)) 0

module _ (rows : List RowId) (row : RowId) (w : ℕ) where
  joined_word : (b c : Bool) → max (cond b w 0) (cond c w 0) ≡ cond (b || c) w 0
  joined_word true true = omega arith
  joined_word true false = omega arith
  joined_word false true = omega arith
  joined_word false false = refl

  one_word : (r : RowId) → Contains rows r → word_on (number_in rows row) (number_in rows r, w) ≡ cond (row_eq row r) w 0
  one_word r known = by (row_eq row r) refl
    where
      by : (b : Bool) → row_eq row r ≡ b → word_on (number_in rows row) (number_in rows r, w) ≡ cond b w 0
      by true is = ap (λ (b : Bool). cond b w 0) (eq-eqb (number_in rows r) (number_in rows row) (ap (number_in rows) (sym (row_same row r is))))
      by false is = ap (λ (b : Bool). cond b w 0) (ne_eqb (number_in rows r) (number_in rows row) (λ e. other (number_same rows r row known e)))
        where
          other : r ≡ row → ⊥
          other e = absurd (false≢true (sym is ∙ (ap (row_eq row) e ∙ row_eq_equiv.refl row)))

  set_word : (set : List ChangeOfRow) → ((r : RowId) → Contains (keys_of set) r → Contains rows r) →
      best (number_in rows row) (map (λ r. (number_in rows r, w)) (keys_of set)) ≡ cond (has_row row set) w 0
  set_word [] known = refl
  set_word (p ∷ ps) known =
      let here = one_word p.0 (known p.0 (among_first p.0 (keys_of ps))) in
      let rest = set_word ps (λ r h. known r (among_later p.0 r (keys_of ps) h)) in
      ap (λ (n : ℕ). max n (best (number_in rows row) (map (λ r. (number_in rows r, w)) (keys_of ps)))) here
      ∙ ap (max (cond (row_eq row p.0) w 0)) rest
      ∙ joined_word (row_eq row p.0) (has_row row ps)

-- what the plan has for the row, over some of the candidates
plan_word : (last : RowId → ℕ) (rows : List RowId) (row : RowId) (cs : List Placed) →
    ((c : Placed) (r : RowId) → Contains cs c → Contains (keys_of c.set) r → Contains rows r) →
    top (best (number_in rows row)) (map (claims_of last rows) cs) ≡ top (weight last row) cs
plan_word last rows row [] known = refl
plan_word last rows row (c ∷ cs) known =
    let here : best (number_in rows row) (claims_of last rows c) ≡ weight last row c = by (is_fresh last c) in
    let rest = plan_word last rows row cs (λ d r h k. known d r (among_later c d cs h) k) in
    ap (λ (n : ℕ). max n (top (best (number_in rows row)) (map (claims_of last rows) cs))) here ∙ ap (max (weight last row c)) rest
  where
    by : (b : Bool) → best (number_in rows row) (cond b (map (λ r. (number_in rows r, word_of (claim_of c))) (keys_of c.set)) []) ≡ cond (b && has_row row c.set) (word_of (claim_of c)) 0
    by true = set_word rows row (word_of (claim_of c)) c.set (λ r k. known c r (among_first c cs) k)
    by false = refl

module _ (last : RowId → ℕ) (all : List Placed) (claims : AreClaims all) where
  final_is : (row : RowId) → final_word last all row ≡ top (weight last row) all
  final_is row = plan_word last (rows_in all) row all (row_known all)

  -- a contender's word is at most the final one
  contender_below : (row : RowId) (d : Placed) → Contains (contenders last all row) d → word_of (claim_of d) ≤ final_word last all row
  contender_below row d h =
      let part = filtered_among (λ x. is_fresh last x && has_row row x.set) all d h in
      let same : weight last row d ≡ word_of (claim_of d) = ap (λ (b : Bool). cond b (word_of (claim_of d)) 0) part.1 in
      let below = top_among (weight last row) all d part.0 in
      let is = final_is row in
      omega arith

  -- a final word that isn't 0 is a contender's
  final_held : (row : RowId) → 0 < final_word last all row → (d : Placed) × Contains (contenders last all row) d × (word_of (claim_of d) ≡ final_word last all row)
  final_held row more =
      let is = final_is row in
      let found = among_top (weight last row) all (omega arith) in
      by (is_fresh last found.0 && has_row row found.0.set) found.0 found.1 refl (let at = found.2 in omega arith) (found.2 ∙ sym is)
    where
      by : (b : Bool) → (d : Placed) → Contains all d → (is_fresh last d && has_row row d.set) ≡ b → 0 < cond b (word_of (claim_of d)) 0 → cond b (word_of (claim_of d)) 0 ≡ final_word last all row →
          (d : Placed) × Contains (contenders last all row) d × (word_of (claim_of d) ≡ final_word last all row)
      by true d h test more_is at = (d, among_filtered (λ x. is_fresh last x && has_row row x.set) all d h test, at)
      by false d h test more_is at = absurd (omega (arith, more_is))

  wins_word : (c d : Placed) → Contains all c → Contains all d → wins d c ≡ nat_lt (word_of (claim_of c)) (word_of (claim_of d))
  wins_word c d hc hd =
      beats_word (claim_of d) (claim_of c) (All-contains (λ x. IsClaim (claim_of x)) all d claims hd) (All-contains (λ x. IsClaim (claim_of x)) all c claims hc)

  of_all : (row : RowId) (d : Placed) → Contains (contenders last all row) d → Contains all d
  of_all row d h = (filtered_among (λ x. is_fresh last x && has_row row x.set) all d h).0

  pub beaten_word : (c : Placed) (row : RowId) → Contains all c → is_beaten_on last all c row ≡ nat_lt (word_of (claim_of c)) (final_word last all row)
  beaten_word c row hc = by (is_beaten_on last all c row) refl
    where
      by : (b : Bool) → is_beaten_on last all c row ≡ b → b ≡ nat_lt (word_of (claim_of c)) (final_word last all row)
      by true is =
          let found = any_found (λ d. wins d c) (contenders last all row) is in
          let wins_is = sym found.2 ∙ wins_word c found.0 hc (of_all row found.0 found.1) in
          let below = contender_below row found.0 found.1 in
          grind (arith, nat_tests)
      by false is = over (nat_lt (word_of (claim_of c)) (final_word last all row)) refl
        where
          over : (t : Bool) → nat_lt (word_of (claim_of c)) (final_word last all row) ≡ t → false ≡ t
          over false e = refl
          over true e =
              let more : word_of (claim_of c) < final_word last all row = grind (arith, nat_tests) in
              let held = final_held row (omega (arith, more)) in
              let not_won = none_among (λ d. wins d c) (contenders last all row) held.0 is held.1 in
              let lost = sym not_won ∙ wins_word c held.0 hc (of_all row held.0 held.1) in
              let at = held.2 in
              absurd (false≢true (lost ∙ grind (arith, nat_tests)))

  -- the winner has the final word
  pub winner_word : (w : Placed) (row : RowId) → winner_of last all row ≡ Some w → final_word last all row ≡ word_of (claim_of w)
  winner_word w row is =
      let found = found_passes (λ d. not (is_beaten_on last all d row)) (contenders last all row) w is in
      let unbeaten = beaten_word w row (of_all row w found.0) in
      let below = contender_below row w found.0 in
      let no = not_true (is_beaten_on last all w row) found.1 in
      let low : nat_lt (word_of (claim_of w)) (final_word last all row) ≡ false = sym unbeaten ∙ no in
      grind (arith, nat_tests)

  -- where the row has no winner there is no contender, and no word
  pub no_winner_word : (row : RowId) → winner_of last all row ≡ None → final_word last all row ≡ 0
  no_winner_word row none = by (final_word last all row) refl
    where
      by : (n : ℕ) → final_word last all row ≡ n → n ≡ 0
      by zero is = refl
      by (suc n) is =
          let held = final_held row (omega (arith, is)) in
          let beaten : not (is_beaten_on last all held.0 row) ≡ false = none_found (λ d. not (is_beaten_on last all d row)) (contenders last all row) held.0 none held.1 in
          let yes_is = beaten_word held.0 row (of_all row held.0 held.1) in
          let is_true = not_false (is_beaten_on last all held.0 row) beaten in
          let at = held.2 in
          let above : nat_lt (word_of (claim_of held.0)) (final_word last all row) ≡ true = sym yes_is ∙ is_true in
          absurd (grind (arith, nat_tests))

pub finals_decide : (last : RowId → ℕ) (all : List Placed) → AreClaims all → FinalWordsDecide last all
finals_decide last all claims = record {
  beaten = λ c row h has. beaten_word last all claims c row h;
  winner = winner_word last all claims;
  unclaimed = no_winner_word last all claims;
}
