-- Laws: last changes that serve the candidates of an epoch judge them as the real ones do.
use Rattle.std.proofs.Common.{◌≡◌, ℕ, nat_lt, nat_le, Bool, true, false, cond, not, ◌&&◌, Option, None, Some, List, [], ◌∷◌, map, filter, Contains, refl, sym, ap, ◌∙◌, subst, arith}
use Rattle.std.specs.Prelude.{find, unwrap_or}
use Rattle.std.specs.List.{list_any, list_all}
use Rattle.std.proofs.lemmas.Bool.Decides.{nat_tests}
use Rattle.geo_base.specs.declared.row_id.RowId.{RowId}
use Rattle.geo_base.specs.declared.outcome.Outcome.{Outcome}
use Rattle.geo_base.specs.declared.outcome.Outcome.TheVariants as outcome
use Rattle.write_set.specs.Sets.{ChangeOfRow, has_row}
use Rattle.write_set.specs.Journal.{Placed}
use Rattle.write_set.specs.Merge.{wins, id_of, is_fresh, contenders, is_beaten_on, winner_of, first_changed, first_beaten, changed_or, beaten_or_committed, verdict_of}
use Rattle.write_set.specs.laws.Among.{among_first, among_later}
use Rattle.write_set.specs.laws.Rivals.{row_among}
use Rattle.merge_round.specs.Rounds.{Serves, ServingChangesJudgeAlike}

-- ---- lists

pub found_passes : {X : Type 0} → (test : X → Bool) (xs : List X) (x : X) → find test xs ≡ Some x → Contains xs x × (test x ≡ true)
found_passes test [] x e = cc
found_passes test (y ∷ ys) x e = by (test y) refl e (found_passes test ys x)
  where
    by : (b : Bool) → test y ≡ b → cond b (Some y) (find test ys) ≡ Some x → (find test ys ≡ Some x → Contains ys x × (test x ≡ true)) → Contains (y ∷ ys) x × (test x ≡ true)
    by true is e rest = let same : y ≡ x = cc in (subst (Contains (y ∷ ys)) same (among_first y ys), ap test (sym same) ∙ is)
    by false is e rest = let later = rest e in (among_later y x ys later.0, later.1)

pub find_same : (f g : ChangeOfRow → Bool) (set : List ChangeOfRow) → ((p : ChangeOfRow) → Contains set p → f p ≡ g p) → find f set ≡ find g set
find_same f g [] same = refl
find_same f g (p ∷ ps) same = rw (same p (among_first p ps), find_same f g ps (λ q h. same q (among_later p q ps h))) refl

all_same : (f g : ChangeOfRow → Bool) (set : List ChangeOfRow) → ((p : ChangeOfRow) → Contains set p → f p ≡ g p) → list_all f set ≡ list_all g set
all_same f g [] same = refl
all_same f g (p ∷ ps) same = rw (same p (among_first p ps), all_same f g ps (λ q h. same q (among_later p q ps h))) refl

filter_same : (f g : Placed → Bool) (cs : List Placed) → ((c : Placed) → Contains cs c → f c ≡ g c) → filter f cs ≡ filter g cs
filter_same f g [] same = refl
filter_same f g (c ∷ cs) same = rw (same c (among_first c cs), filter_same f g cs (λ d h. same d (among_later c d cs h))) refl

pub map_same : {B : Type 0} → (f g : Placed → B) (cs : List Placed) → ((c : Placed) → Contains cs c → f c ≡ g c) → map f cs ≡ map g cs
map_same f g [] same = refl
map_same f g (c ∷ cs) same = rw (same c (among_first c cs), map_same f g cs (λ d h. same d (among_later c d cs h))) refl

module _ (start changed held : ℕ) (serves : Serves start changed held) where
  later_same : nat_lt start held ≡ nat_lt start changed
  later_same = by (nat_lt start changed) refl
    where
      by : (b : Bool) → nat_lt start changed ≡ b → nat_lt start held ≡ b
      by true is = ap (nat_lt start) (serves.above (grind (arith, nat_tests))) ∙ is
      by false is = let low = serves.below (grind (arith, nat_tests)) in grind (arith, nat_tests)

  below_same : nat_le held start ≡ nat_le changed start
  below_same = let same = later_same in grind (arith, nat_tests)

module _ (all : List Placed) (changed held : RowId → ℕ)
    (serves : (c : Placed) (row : RowId) → Contains all c → has_row row c.set ≡ true → Serves c.start (changed row) (held row)) where
  of_change : (c : Placed) (p : ChangeOfRow) → Contains all c → Contains c.set p → Serves c.start (changed p.0) (held p.0)
  of_change c p hc hp = serves c p.0 hc (row_among p c.set hp)

  pub fresh_same : (c : Placed) → Contains all c → is_fresh held c ≡ is_fresh changed c
  fresh_same c hc = all_same (λ p. nat_le (held p.0) c.start) (λ p. nat_le (changed p.0) c.start) c.set
      (λ p hp. below_same c.start (changed p.0) (held p.0) (of_change c p hc hp))

  contenders_same : (row : RowId) → contenders held all row ≡ contenders changed all row
  contenders_same row = filter_same (λ d. is_fresh held d && has_row row d.set) (λ d. is_fresh changed d && has_row row d.set) all
      (λ d hd. ap (λ (b : Bool). b && has_row row d.set) (fresh_same d hd))

  beaten_same : (c : Placed) (row : RowId) → is_beaten_on held all c row ≡ is_beaten_on changed all c row
  beaten_same c row = ap (list_any (λ d. wins d c)) (contenders_same row)

  winner_same : (row : RowId) → winner_of held all row ≡ winner_of changed all row
  winner_same row = by (contenders held all row) (contenders_same row)
    where
      tests : (ds : List Placed) → find (λ d. not (is_beaten_on held all d row)) ds ≡ find (λ d. not (is_beaten_on changed all d row)) ds
      tests [] = refl
      tests (d ∷ ds) = rw (beaten_same d row, tests ds) refl

      by : (ds : List Placed) → ds ≡ contenders changed all row → find (λ d. not (is_beaten_on held all d row)) ds ≡ winner_of changed all row
      by ds is = tests ds ∙ ap (find (λ d. not (is_beaten_on changed all d row))) is

  pub verdict_same : (epoch : ℕ) (c : Placed) → Contains all c → verdict_of held epoch all c ≡ verdict_of changed epoch all c
  verdict_same epoch c hc =
      ap (λ (b : Option ChangeOfRow). changed_or held (beaten_or_committed held epoch all c b) (first_changed held c)) beaten_is
      ∙ ap (λ (o : Outcome). changed_or held o (first_changed held c)) (outcome_is (first_beaten changed all c))
      ∙ by (first_changed changed c) refl
    where
      beaten_is : first_beaten held all c ≡ first_beaten changed all c
      beaten_is = find_same (λ p. is_beaten_on held all c p.0) (λ p. is_beaten_on changed all c p.0) c.set (λ p hp. beaten_same c p.0)

      outcome_is : (b : Option ChangeOfRow) → beaten_or_committed held epoch all c b ≡ beaten_or_committed changed epoch all c b
      outcome_is None = refl
      outcome_is (Some p) = ap (λ (w : Option Placed). outcome.Beaten p.0 (id_of epoch (unwrap_or w c))) (winner_same p.0)

      changed_is : first_changed held c ≡ first_changed changed c
      changed_is = find_same (λ p. nat_lt c.start (held p.0)) (λ p. nat_lt c.start (changed p.0)) c.set
          (λ p hp. later_same c.start (changed p.0) (held p.0) (of_change c p hc hp))

      by : (o : Option ChangeOfRow) → first_changed changed c ≡ o →
          changed_or held (beaten_or_committed changed epoch all c (first_beaten changed all c)) (first_changed held c)
          ≡ changed_or changed (beaten_or_committed changed epoch all c (first_beaten changed all c)) (first_changed changed c)
      by None is = rw (changed_is, is) refl
      by (Some p) is =
          let found = found_passes (λ q. nat_lt c.start (changed q.0)) c.set p is in
          let after = found.1 in
          let same : held p.0 ≡ changed p.0 = (of_change c p hc found.0).above (grind (arith, nat_tests)) in
          rw (changed_is, is) (ap (λ (n : ℕ). outcome.Changed p.0 n) same)

pub judges_alike : ServingChangesJudgeAlike
judges_alike all changed held serves epoch c among = verdict_same all changed held serves epoch c among
