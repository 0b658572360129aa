-- Laws: what the verdict on a candidate says of it and of the other candidates of its epoch.
use Rattle.std.proofs.Common.{◌≡◌, ℕ, ◌≤◌, true, false, ◌&&◌, nat_le, nat_lt, Option, None, Some, List, Contains, refl, ap, ◌∙◌, arith}
use Rattle.std.proofs.lemmas.Bool.{false≢true}
use Rattle.std.proofs.lemmas.Bool.Decides.{nat_tests}
use Rattle.geo_base.specs.declared.row_id.RowId.{RowId}
use Rattle.geo_base.specs.Order.{row_eq}
use Rattle.geo_base.specs.laws.Orders.{row_eq_decides, row_eq_equiv}
use Rattle.geo_base.specs.laws.Winning.{beats_total}
use Rattle.write_set.specs.Sets.{ChangeOfRow, has_row}
use Rattle.write_set.specs.Journal.{Placed}
use Rattle.write_set.specs.Merge.{claim_of, wins, is_fresh, contenders, is_beaten_on, first_changed, first_beaten, changed_or, beaten_or_committed, verdict_of, is_committed, committed_of}
use Rattle.write_set.specs.laws.Among.{any_among, none_among, any_found, all_among, all_pass, filtered_among, among_filtered, none_found}

-- ---- rows

pub row_same : (a b : RowId) → row_eq a b ≡ true → a ≡ b
row_same a b e = (row_eq_decides a b).0 e

row_found : (row : RowId) (set : List ChangeOfRow) → has_row row set ≡ true → (p : ChangeOfRow) × Contains set p × (row ≡ p.0)
row_found row set e =
    let found = any_found (λ p. row_eq row p.0) set e in
    (found.0, found.1, row_same row found.0.0 found.2)

pub row_among : (p : ChangeOfRow) (set : List ChangeOfRow) → Contains set p → has_row p.0 set ≡ true
row_among p set h = any_among (λ q. row_eq p.0 q.0) set p h (row_eq_equiv.refl p.0)

-- ---- freshness, where `last` gives each row's last change

test_le : (a b : ℕ) → nat_lt b a ≡ false → nat_le a b ≡ true
test_le a b e = grind (arith, nat_tests)

module _ (last : RowId → ℕ) where
  pub fresh_bound : (c : Placed) (row : RowId) → is_fresh last c ≡ true → has_row row c.set ≡ true → last row ≤ c.start
  fresh_bound c row fresh has =
      let found = row_found row c.set has in
      let below : nat_le (last found.0.0) c.start ≡ true = all_among (λ p. nat_le (last p.0) c.start) c.set found.0 fresh found.1 in
      let same : last row ≡ last found.0.0 = ap last found.2 in
      grind (arith, nat_tests)

  pub fresh_unchanged : (c : Placed) → first_changed last c ≡ None → is_fresh last c ≡ true
  fresh_unchanged c e =
      all_pass (λ p. nat_le (last p.0) c.start) c.set
      (λ p h. test_le (last p.0) c.start (none_found (λ q. nat_lt c.start (last q.0)) c.set p e h))

  -- ---- the candidates of one epoch
  module _ (all : List Placed) where
    pub contender : (d : Placed) (row : RowId) → Contains all d → is_fresh last d ≡ true → has_row row d.set ≡ true → Contains (contenders last all row) d
    contender d row h fresh has =
        among_filtered (λ x. is_fresh last x && has_row row x.set) all d h (ap (λ b. b && has_row row d.set) fresh ∙ has)

    pub unbeaten_on : (c : Placed) (row : RowId) → first_beaten last all c ≡ None → has_row row c.set ≡ true → is_beaten_on last all c row ≡ false
    unbeaten_on c row e has =
        let found = row_found row c.set has in
        ap (is_beaten_on last all c) found.2 ∙ none_found (λ p. is_beaten_on last all c p.0) c.set found.0 e found.1

    unbeaten_by : (c d : Placed) (row : RowId) → is_beaten_on last all c row ≡ false → Contains (contenders last all row) d → wins d c ≡ false
    unbeaten_by c d row e h = none_among (λ x. wins x c) (contenders last all row) d e h

    module _ (epoch : ℕ) where
      pub committed_is : (c : Placed) → is_committed (verdict_of last epoch all c) ≡ true → (first_changed last c ≡ None) × (first_beaten last all c ≡ None)
      committed_is c e = by (first_changed last c) (first_beaten last all c) refl refl e
        where
          by : (o b : Option ChangeOfRow) → first_changed last c ≡ o → first_beaten last all c ≡ b →
              is_committed (changed_or last (beaten_or_committed last epoch all c b) o) ≡ true → (first_changed last c ≡ None) × (first_beaten last all c ≡ None)
          by None None f g h = (f, g)
          by None (Some p) f g h = absurd (false≢true h)
          by (Some p) b f g h = absurd (false≢true h)

      -- two candidates that commit and share a row have one claim
      pub committed_claim : (c d : Placed) (row : RowId) → Contains (committed_of last epoch all) c → Contains (committed_of last epoch all) d →
          has_row row c.set ≡ true → has_row row d.set ≡ true → claim_of c ≡ claim_of d
      committed_claim c d row hc hd rc rd =
          beats_total (claim_of c) (claim_of d) (loses d c hd hc rd rc) (loses c d hc hd rc rd)
        where
          loses : (x y : Placed) → Contains (committed_of last epoch all) x → Contains (committed_of last epoch all) y →
              has_row row x.set ≡ true → has_row row y.set ≡ true → wins y x ≡ false
          loses x y hx hy rx ry =
              let partx = filtered_among (λ z. is_committed (verdict_of last epoch all z)) all x hx in
              let party = filtered_among (λ z. is_committed (verdict_of last epoch all z)) all y hy in
              let isx = committed_is x partx.1 in
              let isy = committed_is y party.1 in
              unbeaten_by x y row (unbeaten_on x row isx.1 rx) (contender y row party.0 (fresh_unchanged y isy.0) ry)
