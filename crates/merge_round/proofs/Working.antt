-- What a seat's work on one candidate leaves in its view.
use Rattle.std.proofs.Common.{◌≡◌, ℕ, Bool, false, ◌<◌, Some, List, [], ◌∷◌, ◌++◌, length, All, Contains, refl, sym, ap, ◌∙◌, subst, arith}
use Rattle.std.proofs.lemmas.Bool.Decides.{nat_tests}
use Rattle.std.proofs.lemmas.List.{length-map}
use Rattle.std.proofs.lemmas.List.Elements.{Contains-append_right, All-contains_itself}
use Rattle.claim_rule.specs.declared.view.ClaimView.{ClaimView}
use Rattle.claim_rule.specs.Plan.{Pieces, piece_of}
use Rattle.claim_rule.specs.Rule.{IsFinished}
use Rattle.claim_rule.specs.declared.view.Draws.{Draws}
use Rattle.claim_rule.specs.Views.{times, claim_drawn, draws_after, piece_finished}
use Rattle.claim_rule.specs.Seats.{IsClaimed, IsClaimDraw}
use Rattle.claim_rule.specs.laws.Times.{times_pushed, without-pushed, times_none}
use Rattle.merge_round.specs.declared.seat.WorkerSeat.{WorkerSeat}
use Rattle.merge_round.specs.Rounds.{Round, plan_of}
use Rattle.merge_round.specs.Seats.{work_of, IsTold, IsWorkerOf, MakesClaims}
use Rattle.merge_round.specs.inner.Entries.{claims_made}

-- all claims of a piece are among those that were there and these
pub all_made : (claims pairs : List (ℕ × ℕ)) → All (Contains (claims ++ pairs)) pairs
all_made claims pairs k d within = let h = All-contains_itself pairs k d within in Contains-append_right claims pairs _ h

pub claimed_all : (v u : ClaimView) (plan : Pieces) (number : ℕ) → u ≡ claims_made (piece_of plan number) v → v.plan ≡ plan → 0 < times number v.pending → IsClaimed u number
claimed_all v u plan number is planned pending =
    subst (λ (x : ClaimView). IsClaimed x number) (sym is)
    (record { pending = pending; made = rw planned (all_made v.claims (piece_of plan number)) })

empty : (xs : List ℕ) → length xs ≡ 0 → xs ≡ []
empty [] e = refl
empty (x ∷ xs) e = absurd (omega (arith, e))

-- a seat that wasn't told that draws are over had none that came too late
pub not_late : (n : ℕ) (over : Bool) (draws : Draws) → IsTold n over draws → over ≡ false → draws.late ≡ []
not_late n over draws told is = let none = sym told.told ∙ is in empty draws.late (grind (arith, nat_tests))

pub makes_claims : (round : Round) (old new : WorkerSeat) (d : ClaimView) (number : ℕ) → IsWorkerOf round old → old.claims_over ≡ false →
    IsClaimDraw (work_of old) d (Some number) → work_of new ≡ piece_finished number (claims_made (piece_of (plan_of round) number) d) → MakesClaims round old new number
makes_claims round old new d number worker over draw view =
    let v = work_of old in
    let pairs = piece_of (plan_of round) number in
    let drawn : d ≡ claim_drawn (Some number) number v = draw.leaves ∙ ap (λ (f : ℕ). claim_drawn (Some number) f v) (sym draw.tells.3) in
    let none : times number v.pending ≡ 0 = times_none number v.pending (ap length worker.finished) in
    let is : work_of new ≡ record v { claiming = draws_after (Some number) number v.claiming; claims = v.claims ++ pairs } =
    view ∙ ap (λ (x : ClaimView). piece_finished number (claims_made pairs x)) drawn
    ∙ ap (λ (l : List ℕ). record v { claiming = draws_after (Some number) number v.claiming; claims = v.claims ++ pairs; pending = l }) (without-pushed number v.pending none) in
    let long : length v.plan ≡ length round.all = ap length worker.planned ∙ length-map round.all _ in
    record {
      within = (let below = draw.tells.0 in omega arith);
      lacked = draw.tells.1;
      room = (let more = draw.tells.2 in omega arith);
      unspent = ap (λ (x : ClaimView). x.claiming.late) is ∙ not_late (length round.all) old.claims_over v.claiming worker.claims_over over;
      work = is;
      made = subst (λ (x : ClaimView). All (Contains x.claims) pairs) (sym is) (all_made v.claims pairs);
      finished = subst (λ (x : ClaimView). IsFinished x number) (sym is) (record { drawn = times_pushed number v.claiming.numbers; over = none });
    }
