-- Verdicts become outcomes, one after another.
use Rattle.std.proofs.Common.{◌≡◌, ℕ, zero, suc, ◌+◌, ◌<◌, Option, None, Some, List, [], ◌∷◌, ◌++◌, length, map, take, Contains, refl, sym, ap, ◌∙◌, subst, arith}
use Rattle.std.specs.Prelude.{slice_index_or}
use Rattle.std.specs.List.{slice_get}
use Rattle.std.proofs.lemmas.Option.{none-some, same_Some, get_or_from_slice_get, slice_get-map, slice_get-get_or}
use Rattle.std.proofs.lemmas.List.{take_more, map-append}
use mathlib.Core.Logic.{dite}
use native.Mathlib.Decide.{ℕ_discrete}
use Rattle.geo_base.specs.declared.outcome.Outcome.{Outcome}
use Rattle.write_set.specs.Sets.{ChangeOfRow}
use Rattle.write_set.specs.Journal.{Placed}
use Rattle.write_set.specs.Merge.{first_changed, first_beaten, changed_or, beaten_or_committed, is_beaten_on}
use Rattle.std.specs.Prelude.{nat_lt}
use Rattle.std.specs.Option.{option_map, IsSome}
use Rattle.write_set.specs.laws.Among.{among_first, among_later}
use Rattle.merge_round.specs.declared.verdict.Verdict.{Verdict}
use Rattle.merge_round.specs.Rounds.{Round, rows_in, number_in, numbered, outcome_in}
use Rattle.merge_round.specs.inner.Entries.{IsNamed}
use Rattle.merge_round.specs.inner.Gathering.{all_verdicts, HasVerdict}
use Rattle.merge_round.proofs.Numbers.{number_named, row_known, key_among}
use Rattle.merge_round.specs.laws.Judging.{found_passes}

pub one_more : (verdicts : List (Option Verdict)) (number : ℕ) (v : Verdict) → ((lower : ℕ) → lower < number → HasVerdict verdicts lower) →
    slice_index_or verdicts number None ≡ Some v → (lower : ℕ) → lower < number + 1 → HasVerdict verdicts lower
one_more verdicts number v before at lower below = dite (ℕ_discrete lower number)
    (λ (same : lower ≡ number). (v, ap (λ (n : ℕ). slice_index_or verdicts n None) same ∙ at))
    (λ (other : lower ≡ number → ⊥). before lower (omega (arith, below, other)))

-- ---- the row of an outcome is one of the round's

pub outcome_named : (round : Round) (c : Placed) → Contains round.all c → IsNamed (rows_in round.all) (outcome_in round c)
outcome_named round c among = by (first_changed round.last c) (first_beaten round.last round.all c) refl refl
  where
    row : (p : ChangeOfRow) → Contains c.set p → slice_get (rows_in round.all) (number_in (rows_in round.all) p.0) ≡ Some p.0
    row p h = (number_named (rows_in round.all) p.0 (row_known round.all c p.0 among (key_among c.set p h))).1

    by : (o b : Option ChangeOfRow) → first_changed round.last c ≡ o → first_beaten round.last round.all c ≡ b →
        IsNamed (rows_in round.all) (changed_or round.last (beaten_or_committed round.last round.epoch round.all c b) o)
    by (Some p) b is beaten = row p (found_passes (λ q. nat_lt c.start (round.last q.0)) c.set p is).0
    by None None is beaten = tt
    by None (Some p) is beaten = row p (found_passes (λ q. is_beaten_on round.last round.all c q.0) c.set p beaten).0

-- ---- a turn of the loop over the verdicts

-- the candidate whose verdict stands in this place
pub record IsTurn (round : Round) (i : ℕ) (found : Option Verdict) : Type 0 where
  pub verdict : Verdict
  pub is : found ≡ Some verdict
  pub outcome : Outcome
  pub named : IsNamed (rows_in round.all) outcome
  pub numbers : numbered (rows_in round.all) outcome ≡ verdict
  pub more : map (outcome_in round) (take (i + 1) round.all) ≡ map (outcome_in round) (take i round.all) ++ outcome ∷ []

pub turn_of : (round : Round) (verdicts : List (Option Verdict)) (i : ℕ) → verdicts ≡ all_verdicts round → i < length verdicts →
    IsTurn round i (slice_index_or verdicts i None)
turn_of round verdicts i is within =
    let here : slice_get verdicts i ≡ Some (slice_index_or verdicts i None) = slice_get-get_or verdicts i None within in
    by (slice_get round.all i) refl (sym (slice_get-map (λ c. Some (numbered (rows_in round.all) (outcome_in round c))) round.all i) ∙ ap (λ (l : List (Option Verdict)). slice_get l i) (sym is) ∙ here)
  where
    get_among : (cs : List Placed) (k : ℕ) (c : Placed) → slice_get cs k ≡ Some c → Contains cs c × (k < length cs)
    get_among [] k c e = absurd (none-some _ e)
    get_among (d ∷ ds) zero c e = (subst (Contains (d ∷ ds)) (same_Some _ _ e) (among_first d ds), omega arith)
    get_among (d ∷ ds) (suc k) c e = let rest = get_among ds k c e in (among_later d c ds rest.0, (let below = rest.1 in omega arith))

    by : (found : Option Placed) → slice_get round.all i ≡ found → option_map (λ c. Some (numbered (rows_in round.all) (outcome_in round c))) found ≡ Some (slice_index_or verdicts i None) → IsTurn round i (slice_index_or verdicts i None)
    by None none e = absurd (none-some _ e)
    by (Some c) found e =
        let among = get_among round.all i c found in
        record {
          verdict = numbered (rows_in round.all) (outcome_in round c);
          is = sym (same_Some _ _ e);
          outcome = outcome_in round c;
          named = outcome_named round c among.0;
          numbers = refl;
          more = ap (map (outcome_in round)) (take_more round.all i c among.1 ∙ ap (λ (d : Placed). take i round.all ++ d ∷ []) (get_or_from_slice_get round.all i c c found))
              ∙ map-append (outcome_in round) (take i round.all) (c ∷ []);
        }

pub some_is : (o : Option Verdict) (v : Verdict) → o ≡ Some v → IsSome o
some_is None v e = absurd (none-some _ e)
some_is (Some w) v e = refl
