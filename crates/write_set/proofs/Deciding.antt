-- The verdicts, and the last changes, are those that the rules allow.
use Rattle.std.proofs.Common.{◌≡◌, ⊎_elim, ◌↔◌, ◌||◌, ℕ, zero, suc, ◌+◌, ◌≤◌, ◌<◌, Bool, true, false, cond, nat_le, nat_lt, Option, None, Some, unwrap_or, List, [], ◌∷◌, length, Contains, find, refl, sym, ap, ◌∙◌, subst, arith}
use Rattle.std.specs.List.{list_any}
use Rattle.std.specs.declared.cmp.Ordering.{Ordering}
use Rattle.std.specs.declared.cmp.Ordering.TheVariants.{Less, Equal, Greater}
use Rattle.std.specs.Ordering.{ordering_reverse}
use Rattle.std.proofs.lemmas.Bool.{false≢true, cases_lt}
use Rattle.std.proofs.lemmas.Bool.Decides.{nat_tests}
use Rattle.geo_base.specs.declared.row_id.RowId.{RowId}
use Rattle.geo_base.specs.declared.claim.Claim.{Claim}
use Rattle.geo_base.specs.declared.outcome.Outcome.{Outcome}
use Rattle.geo_base.specs.declared.outcome.Outcome.TheVariants.{Committed, Changed, Beaten}
use Rattle.geo_base.specs.Order.{row_cmp, row_eq}
use Rattle.geo_base.specs.laws.Orders.{row_cmp_total, same_row}
use Rattle.geo_base.specs.laws.Winning.{beats_total}
use Rattle.write_set.specs.Sets.{ChangeOfRow, has_row, changes_row, Rises}
use Rattle.write_set.specs.Journal.{Journal, Placed, epochs_of}
use Rattle.write_set.specs.Merge.{claim_of, wins, id_of, is_fresh, contenders, is_beaten_on, first_changed, first_beaten, changed_or, beaten_or_committed, winner_of, verdict_of, committed, last_change}
use Rattle.write_set.specs.Rules.{IsLastChange, IsLeast, IsFresh, IsContender, IsBeaten, IsBest, IsVerdict}
use Rattle.write_set.specs.laws.Among.{true_or_false, any_among, any_found, all_pass}
use Rattle.write_set.proofs.Searches.{found_among}
use Rattle.write_set.specs.laws.Rivals.{row_among, row_same, fresh_bound, fresh_unchanged, contender, unbeaten_on}
use Rattle.write_set.proofs.Winners.{contender_is, IsWinner, beaten_winner}
use Rattle.write_set.specs.laws.Placing.{length_epochs}
use Rattle.write_set.specs.laws.Isolating.{row_above, rise_rest, changed_since}

-- ---- the first row that is such is the least one

least_found : (test : RowId → Bool) (set : List ChangeOfRow) (p : ChangeOfRow) (lower : RowId) → Rises set → find (λ q. test q.0) set ≡ Some p →
    has_row lower set ≡ true → row_cmp lower p.0 ≡ Less → test lower ≡ false
least_found test [] p lower rise found has less = absurd (false≢true has)
least_found test (q ∷ qs) p lower rise found has less =
    by (test q.0) refl found (λ e has_it. least_found test qs p lower (rise_rest q qs rise) e has_it less)
  where
    by : (b : Bool) → test q.0 ≡ b → cond b (Some q) (find (λ r. test r.0) qs) ≡ Some p →
        (find (λ r. test r.0) qs ≡ Some p → has_row lower qs ≡ true → test lower ≡ false) → test lower ≡ false
    by true is e rest =
        let same : q ≡ p = cc in
        let above = row_above lower q qs rise (subst (λ (r : ChangeOfRow). row_cmp lower r.0 ≡ Less) (sym same) less) in
        absurd (false≢true (sym above ∙ has))
    by false is e rest = ⊎_elim
        (λ t. ap test (row_same lower q.0 t) ∙ is)
        (λ f. rest e (sym (ap (λ b. b || has_row lower qs) f) ∙ has))
        (true_or_false (row_eq lower q.0))

-- of two least rows each is the other
least_same : (Such : RowId → Type 0) (c : Placed) (a b : RowId) → IsLeast Such c a → IsLeast Such c b → a ≡ b
least_same Such c a b first second = by (row_cmp a b) refl
  where
    by : (o : Ordering) → row_cmp a b ≡ o → a ≡ b
    by Less is = absurd (second.least a first.has is first.such)
    by Equal is = same_row a b is
    by Greater is = absurd (first.least b second.has (row_cmp_total.antisymm b a ∙ ap ordering_reverse is) second.such)

-- ---- the tests and what they tell, where `last` gives each row's last change

le_test : (a b : ℕ) → a ≤ b → nat_le a b ≡ true
le_test a b h = grind (arith, nat_tests)

lt_test : (a b : ℕ) → nat_lt a b ≡ true → a < b
lt_test a b h = grind (arith, nat_tests)

ge_test : (a b : ℕ) → nat_lt a b ≡ false → b ≤ a
ge_test a b h = grind (arith, nat_tests)

module _ (last : RowId → ℕ) where
  passes_fresh : (c : Placed) → IsFresh last c → is_fresh last c ≡ true
  passes_fresh c fresh = all_pass (λ p. nat_le (last p.0) c.start) c.set (λ p h. le_test (last p.0) c.start (fresh p.0 (row_among p c.set h)))

  fresh_passes : (c : Placed) → is_fresh last c ≡ true → IsFresh last c
  fresh_passes c is row has = fresh_bound last c row is has

  module _ (all : List Placed) where
    passes_contender : (d : Placed) (row : RowId) → IsContender last all row d → Contains (contenders last all row) d
    passes_contender d row is = contender last all d row is.among (passes_fresh d is.fresh) is.has

    contender_passes : (d : Placed) (row : RowId) → Contains (contenders last all row) d → IsContender last all row d
    contender_passes d row h =
        let is = contender_is last all d row h in
        record { among = is.0; fresh = fresh_passes d is.1; has = is.2 }

    passes_beaten : (c : Placed) (row : RowId) → IsBeaten last all c row → is_beaten_on last all c row ≡ true
    passes_beaten c row is = any_among (λ d. wins d c) (contenders last all row) is.0 (passes_contender is.0 row is.1) is.2

    beaten_passes : (c : Placed) (row : RowId) → is_beaten_on last all c row ≡ true → IsBeaten last all c row
    beaten_passes c row is =
        let found = any_found (λ d. wins d c) (contenders last all row) is in
        (found.0, contender_passes found.0 row found.1, found.2)

    not_beaten : (c : Placed) (row : RowId) → is_beaten_on last all c row ≡ false → IsBeaten last all c row → ⊥
    not_beaten c row is h = false≢true (sym is ∙ passes_beaten c row h)

    best_passes : (row : RowId) (w : Placed) → IsWinner last all row w → IsBest last all row w
    best_passes row w is = record { contender = contender_passes w row is.0; unbeaten = not_beaten w row is.1 }

    -- ---- the verdict is one that the rules allow
    module _ (epoch : ℕ) where
      verdict_allowed : (c : Placed) → Rises c.set → IsVerdict last epoch all c (verdict_of last epoch all c)
      verdict_allowed c rise = by (first_changed last c) (first_beaten last all c) refl refl
        where
          by : (o b : Option ChangeOfRow) → first_changed last c ≡ o → first_beaten last all c ≡ b →
              IsVerdict last epoch all c (changed_or last (beaten_or_committed last epoch all c b) o)
          by (Some p) b f g =
              let found = found_among (λ q. nat_lt c.start (last q.0)) c.set p f in (
                record {
                  has = row_among p c.set found.0;
                  such = lt_test c.start (last p.0) found.1;
                  least = λ lower has less such.
                      let not_such = ge_test c.start (last lower) (least_found (λ r. nat_lt c.start (last r)) c.set p lower rise f has less) in
                      omega (arith, not_such, such);
                },
                refl,
              )
          by None None f g = (fresh_passes c (fresh_unchanged last c f), λ row has. not_beaten c row (unbeaten_on last all c row g has))
          by None (Some p) f g =
              let found = found_among (λ q. is_beaten_on last all c q.0) c.set p g in
              let named : verdict_of last epoch all c ≡ beaten_or_committed last epoch all c (Some p) =
              λ i. changed_or last (beaten_or_committed last epoch all c (g i)) (f i) in
              let winner = beaten_winner last all epoch c p.0 (id_of epoch (unwrap_or (winner_of last all p.0) c)) named in (
                fresh_passes c (fresh_unchanged last c f),
                record {
                  has = row_among p c.set found.0;
                  such = beaten_passes c p.0 found.1;
                  least = λ lower has less.
                      not_beaten c lower (least_found (λ r. is_beaten_on last all c r) c.set p lower rise g has less);
                },
                (winner.0, best_passes p.0 winner.0 winner.1, winner.2),
              )

      best_same : (row : RowId) (v w : Placed) → IsBest last all row v → IsBest last all row w → id_of epoch v ≡ id_of epoch w
      best_same row v w bv bw =
          let same = beats_total (claim_of v) (claim_of w) (loses v w bv bw) (loses w v bw bv) in
          ap (λ (x : Claim). record { epoch = epoch; region = x.region; csn = x.csn }) same
        where
          loses : (x y : Placed) → IsBest last all row x → IsBest last all row y → wins x y ≡ false
          loses x y first second = ⊎_elim (λ t. absurd (second.unbeaten (x, first.contender, t))) (λ f. f) (true_or_false (wins x y))

      not_fresh : {P : Type 0} (c : Placed) (row : RowId) → IsFresh last c → IsLeast (λ r. c.start < last r) c row → P
      not_fresh c row fresh least = absurd (omega (arith, fresh row least.has, least.such))

      -- and the rules allow one alone
      verdict_once : (c : Placed) (o q : Outcome) → IsVerdict last epoch all c o → IsVerdict last epoch all c q → o ≡ q
      verdict_once c Committed Committed h k = refl
      verdict_once c Committed (Changed row f) h k = not_fresh c row h.0 k.0
      verdict_once c Committed (Beaten row id) h k = absurd (h.1 row k.1.has k.1.such)
      verdict_once c (Changed row f) Committed h k = not_fresh c row k.0 h.0
      verdict_once c (Changed row f) (Changed to g) h k =
          let same : row ≡ to = least_same (λ r. c.start < last r) c row to h.0 k.0 in
          let number : f ≡ g = h.1 ∙ ap last same ∙ sym k.1 in
          λ i. Changed (same i) (number i)
      verdict_once c (Changed row f) (Beaten to id) h k = not_fresh c row k.0 h.0
      verdict_once c (Beaten row id) Committed h k = absurd (k.1 row h.1.has h.1.such)
      verdict_once c (Beaten row id) (Changed to g) h k = not_fresh c to h.0 k.0
      verdict_once c (Beaten row id) (Beaten to name) h k =
          let same : row ≡ to = least_same (IsBeaten last all c) c row to h.1 k.1 in
          let best : IsBest last all to h.2.0 = subst (λ r. IsBest last all r h.2.0) same h.2.1 in
          let named : id ≡ name = h.2.2 ∙ best_same to h.2.0 k.2.0 best k.2.1 ∙ sym k.2.2 in
          λ i. Beaten (same i) (named i)

      pub verdict_is : (c : Placed) (o : Outcome) → Rises c.set → (verdict_of last epoch all c ≡ o) ↔ IsVerdict last epoch all c o
      verdict_is c o rise =
          (λ e. subst (IsVerdict last epoch all c) e (verdict_allowed c rise), λ h. verdict_once c (verdict_of last epoch all c) o (verdict_allowed c rise) h)

-- ---- the last change

last_changed : (journal : Journal) (n : ℕ) (row : RowId) →
    (last_change (epochs_of journal n) row ≤ n)
    × (1 ≤ last_change (epochs_of journal n) row →
    (c : Placed) × Contains (committed (epochs_of journal (last_change (epochs_of journal n) row))) c × (changes_row row c.set ≡ true))
last_changed journal zero row = (omega arith, λ some. absurd (omega arith))
last_changed journal (suc n) row = by (list_any (λ c. changes_row row c.set) (committed (epochs_of journal (suc n)))) refl (last_changed journal n row)
  where
    at : ℕ → Type 0
    at e = (e ≤ suc n) × (1 ≤ e → (c : Placed) × Contains (committed (epochs_of journal e)) c × (changes_row row c.set ≡ true))

    by : (b : Bool) → list_any (λ c. changes_row row c.set) (committed (epochs_of journal (suc n))) ≡ b →
        (last_change (epochs_of journal n) row ≤ n)
        × (1 ≤ last_change (epochs_of journal n) row →
        (c : Placed) × Contains (committed (epochs_of journal (last_change (epochs_of journal n) row))) c × (changes_row row c.set ≡ true)) →
        at (cond b (length (epochs_of journal n) + 1) (last_change (epochs_of journal n) row))
    by true is rest =
        let this : suc n ≡ length (epochs_of journal n) + 1 = omega (arith, length_epochs journal n) in
        subst at this (omega arith, λ some. any_found (λ c. changes_row row c.set) (committed (epochs_of journal (suc n))) is)
    by false is rest = (omega (arith, rest.0), rest.1)

last_change_such : (journal : Journal) (upto : ℕ) (row : RowId) → IsLastChange journal upto row (last_change (epochs_of journal upto) row)
last_change_such journal upto row =
    let is = last_changed journal upto row in
    record { within = is.0; changed = is.1; last = λ e c below among has. changed_since journal e upto c row below among has }

-- of two last changes none is later
no_later : (journal : Journal) (upto : ℕ) (row : RowId) (e f : ℕ) → IsLastChange journal upto row e → IsLastChange journal upto row f → e ≤ f
no_later journal upto row e f first second =
    ⊎_elim (λ none. omega (arith, none))
    (λ some. let found = first.changed some in second.last e found.0 first.within found.1 found.2)
    (cases_lt e 1)

pub last_change_is : (journal : Journal) (upto : ℕ) (row : RowId) (epoch : ℕ) →
    (last_change (epochs_of journal upto) row ≡ epoch) ↔ IsLastChange journal upto row epoch
last_change_is journal upto row epoch = (
  λ e. subst (IsLastChange journal upto row) e (last_change_such journal upto row),
  λ is.
      let such = last_change_such journal upto row in
      let at = last_change (epochs_of journal upto) row in
      omega (arith, no_later journal upto row at epoch such is, no_later journal upto row epoch at is such),
)
