-- What is so of a region, of its keepers and of its tickets stays so at each call.
use Rattle.std.proofs.Common.{◌≡◌, ℕ, ◌+◌, ◌<◌, ◌≤◌, Bool, true, false, cond, Option, Some, None, is_some, Result, Ok, Err, List, [], ◌∷◌, ◌++◌, length, All, OnOk, OnErr, ◌⊎◌, inl, inr, refl, sym, ap, ◌∙◌, subst, arith, length-append}
use Rattle.std.proofs.lemmas.List.Elements.{All-nil, All-weaker, All-push}
use Rattle.geo_io.specs.Told.{Lists}
use Rattle.write_set.specs.declared.batch.Batch.{Batch}
use Rattle.write_set.specs.declared.candidate.Candidate.{Candidate}
use Rattle.epoch_inbox.specs.declared.arrival.Arrival.{Arrival}
use Rattle.epoch_inbox.specs.declared.arrival.Arrival.TheVariants as arrival
use Rattle.merge_round.specs.Gathers.{Decided}
use Rattle.region_core.specs.declared.fault.BeginFault.{BeginFault}
use Rattle.region_core.specs.declared.fault.SealFault.{SealFault}
use Rattle.region_core.specs.declared.fault.SealFault.TheVariants as of_seal
use Rattle.region_core.specs.declared.publish.Publish.{Publish}
use Rattle.region_core.specs.declared.publish.Publish.TheVariants as publish
use Rattle.region_core.specs.declared.sealed.Sealed.{Sealed}
use Rattle.region_core.specs.declared.ticket.Ticket.{Ticket}
use Rattle.region_core.specs.Region.{Standing, RegionValue, unpublished, with_standing}
use Rattle.region_core.specs.Entries as entry
use Rattle.region_core.specs.Entries.{after, crashed, started, down_with, next_ticket, next_batch}
use Rattle.region_core.specs.Calls.{AreItsKeepers, Arrives, IsNamed, KeepsSeal, PublishesBy, Seals, Starts}
use Rattle.region_core.specs.Refusals.{submit_refusal}
use Rattle.region_core.specs.laws.Standings.{is_up, batch_last, batch_before, batch_there}
use Rattle.region_tests.specs.Played.{IsAsked, IsPlayed}

-- ---- tickets

asked_txn : (r : Standing) (c : Candidate) (t : Ticket) → IsAsked r t → IsAsked (after (entry.Txn c) r) t
asked_txn r c t asked = record { earlier = asked.earlier; up = asked.up; named = λ same. by (asked.named same) }
  where
    by : IsNamed r t.id → IsNamed (after (entry.Txn c) r) t.id
    by (region, inl (epoch, within)) = (region, inl (epoch, omega (arith, within, length-append r.open_candidates (c ∷ []))))
    by (region, inr logged) = (region, inr logged)

asked_new : (r : Standing) (c : Candidate) → r.up ≡ true → IsAsked (after (entry.Txn c) r) (next_ticket r)
asked_new r c up = record {
  earlier = omega arith;
  up = λ same. up;
  named = λ same. (refl, inl (refl, omega (arith, length-append r.open_candidates (c ∷ []))));
}

asked_seal : (r : Standing) (t : Ticket) → IsAsked r t → IsAsked (after (entry.Seal (next_batch r)) r) t
asked_seal r t asked = record { earlier = asked.earlier; up = asked.up; named = λ same. by (asked.named same) }
  where
    by : IsNamed r t.id → IsNamed (after (entry.Seal (next_batch r)) r) t.id
    by (region, inl (epoch, within)) = (region, inr (next_batch r, batch_last r.log (next_batch r) t.id.epoch epoch, within))
    by (region, inr (batch, found, within)) =
        let there : t.id.epoch ≤ length r.log = batch_there r.log t.id.epoch (ap is_some found) in
        (region, inr (batch, batch_before r.log (next_batch r) t.id.epoch (λ last. omega (arith, last, there)) ∙ found, within))

asked_arrive : (r : Standing) (batch : Batch) (t : Ticket) → IsAsked r t → IsAsked (after (entry.Arrive batch) r) t
asked_arrive r batch t asked = record { earlier = asked.earlier; up = asked.up; named = asked.named }

asked_publish : (r : Standing) (epoch : ℕ) (t : Ticket) → IsAsked r t → IsAsked (after (entry.Publish epoch) r) t
asked_publish r epoch t asked = record { earlier = asked.earlier; up = asked.up; named = asked.named }

asked_crash : (r : Standing) (t : Ticket) → IsAsked r t → IsAsked (crashed r) t
asked_crash r t asked = by r.up
  where
    by : (b : Bool) → IsAsked (cond b (down_with r.number r.regions r.tables r.last (r.life + 1) r.log) r) t
    by true = record {
      earlier = omega (arith, asked.earlier);
      up = λ same. absurd (omega (arith, same, asked.earlier));
      named = λ same. absurd (omega (arith, same, asked.earlier));
    }
    by false = asked

asked_start : (r : Standing) (log : List Batch) (t : Ticket) → r.up ≡ false → IsAsked r t → IsAsked (started log (crashed r)) t
asked_start r log t down asked = by r.up down
  where
    differ : (b : Bool) → b ≡ true → b ≡ false → ⊥
    differ true is not = cc
    differ false is not = cc

    by : (b : Bool) → b ≡ false → IsAsked (started log (cond b (down_with r.number r.regions r.tables r.last (r.life + 1) r.log) r)) t
    by true is = absurd (cc)
    by false is = record { earlier = asked.earlier; up = λ same. refl; named = λ same. absurd (differ r.up (asked.up same) down) }

-- ---- calls

is_down : (r : Standing) → (crashed r).up ≡ true → ⊥
is_down r up = by r.up refl up
  where
    by : (b : Bool) → r.up ≡ b → (cond b (down_with r.number r.regions r.tables r.last (r.life + 1) r.log) r).up ≡ true → ⊥
    by true is up = cc
    by false is up = cc

module _ (old new : RegionValue) (lists : Lists) (tickets : List Ticket) (played : IsPlayed old lists tickets) where
  pub same_played : new ≡ old → IsPlayed new lists tickets
  same_played same = subst (λ (r : RegionValue). IsPlayed r lists tickets) (sym same) played

  -- the candidate is open
  pub took : (c : Candidate) (ticket : Ticket) → (submit_refusal c old.standing ≡ None) × (ticket ≡ next_ticket old.standing) × (new ≡ with_standing (after (entry.Txn c) old.standing) old) →
      IsPlayed new lists tickets × IsPlayed new lists (tickets ++ ticket ∷ [])
  took c ticket (none, is, same) =
      let stay : All (IsAsked (after (entry.Txn c) old.standing)) tickets = All-weaker (IsAsked old.standing) (IsAsked (after (entry.Txn c) old.standing)) (asked_txn old.standing c) tickets played.asked in
      let fresh = subst (IsAsked (after (entry.Txn c) old.standing)) (sym is) (asked_new old.standing c (is_up _ old.standing.up _ none).0) in (
        subst (λ (r : RegionValue). IsPlayed r lists tickets) (sym same) (record { keepers = played.keepers; asked = stay }),
        subst (λ (r : RegionValue). IsPlayed r lists (tickets ++ ticket ∷ [])) (sym same)
            (record { keepers = played.keepers; asked = All-push (IsAsked (after (entry.Txn c) old.standing)) tickets ticket stay fresh }),
      )

  pub arrived : (batch : Batch) (told : Result Arrival BeginFault) → Arrives batch old told new → IsPlayed new lists tickets
  arrived batch (Ok arrival.New) (up, is, same) =
      subst (λ (r : RegionValue). IsPlayed r lists tickets) (sym same)
      (record {
        keepers = played.keepers;
        asked = All-weaker (IsAsked old.standing) (IsAsked (after (entry.Arrive batch) old.standing)) (asked_arrive old.standing batch) tickets played.asked;
      })
  arrived batch (Ok arrival.Known) (up, is, same) = same_played same
  arrived batch (Ok (arrival.Far limit)) (up, is, same) = same_played same
  arrived batch (Err fault) (due, why, same) = same_played same

  pub published : (judged : Decided) (told : Result Publish BeginFault) → PublishesBy judged old told new → IsPlayed new lists tickets
  published judged (Ok (publish.Published epoch commits aborts)) (up, later, (next, becomes), commits_are, aborts_are) =
      let standing : new.standing ≡ after (entry.Publish epoch) old.standing = becomes.standing ∙ ap (λ (e : ℕ). after (entry.Publish e) old.standing) (sym next) in
      record {
        keepers = subst (λ (s : Standing). s.up ≡ true → AreItsKeepers s (Some lists)) (sym standing) played.keepers;
        asked = subst (λ (s : Standing). All (IsAsked s) tickets) (sym standing)
            (All-weaker (IsAsked old.standing) (IsAsked (after (entry.Publish epoch) old.standing)) (asked_publish old.standing epoch) tickets played.asked);
      }
  published judged (Ok (publish.Already epoch)) (up, later, is, same) = same_played same
  published judged (Err fault) (due, why, same) = same_played same

  pub went_down : (after_lists : Lists) → new ≡ unpublished (crashed old.standing) → IsPlayed new after_lists tickets
  went_down after_lists same =
      subst (λ (r : RegionValue). IsPlayed r after_lists tickets) (sym same)
      (record {
        keepers = λ up. absurd (is_down old.standing up);
        asked = All-weaker (IsAsked old.standing) (IsAsked (crashed old.standing)) (asked_crash old.standing) tickets played.asked;
      })

  pub kept_lists : (after_lists : Lists) → Some after_lists ≡ Some lists → IsPlayed new lists tickets → IsPlayed new after_lists tickets
  kept_lists after_lists same is =
      let lists_same : after_lists ≡ lists = cc in
      subst (λ (all : Lists). IsPlayed new all tickets) (sym lists_same) is

  pub sealed : (after_lists : Lists) (told : Result Sealed SealFault) → Seals old told new → KeepsSeal old.standing told (Some lists) (Some after_lists) →
      OnOk told (AreItsKeepers old.standing (Some lists) → AreItsKeepers new.standing (Some after_lists)) → IsPlayed new after_lists tickets
  sealed after_lists (Ok told) (none, is, same) gained keepers = record {
    keepers = λ up. keepers (played.keepers (is_up _ old.standing.up _ none).0);
    asked = subst (λ (r : RegionValue). All (IsAsked r.standing) tickets) (sym same)
        (All-weaker (IsAsked old.standing) (IsAsked (after (entry.Seal (next_batch old.standing)) old.standing)) (asked_seal old.standing) tickets played.asked);
  }
  sealed after_lists (Err of_seal.LogFault) (none, same) gained keepers = went_down after_lists same
  sealed after_lists (Err of_seal.Down) (due, same) gained keepers = kept_lists after_lists gained (same_played same)
  sealed after_lists (Err of_seal.LastEpoch) (due, same) gained keepers = kept_lists after_lists gained (same_played same)
  sealed after_lists (Err of_seal.Ahead) (due, same) gained keepers = kept_lists after_lists gained (same_played same)
  sealed after_lists (Err of_seal.NoMemory) (due, same) gained keepers = kept_lists after_lists gained (same_played same)

  pub went_up : old.standing.up ≡ false → Starts (Some lists) old new → IsPlayed new lists tickets
  went_up down starts = record {
    keepers = λ up. starts.spelled;
    asked = subst (λ (r : RegionValue). All (IsAsked r.standing) tickets) (sym starts.state)
        (All-weaker (IsAsked old.standing) (IsAsked (started new.standing.log (crashed old.standing))) (λ t. asked_start old.standing new.standing.log t down) tickets played.asked);
  }
