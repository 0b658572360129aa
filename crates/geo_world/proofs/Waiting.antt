-- A session that waits goes on waiting.
use Rattle.std.proofs.Common.{◌≡◌, ℕ, Bool, true, false, ◌==◌, List, length, All, refl, ◌∙◌, ap₂, eqb-true}
use Rattle.std.proofs.lemmas.Bool.{and_parts}
use Rattle.geo_base.specs.declared.numbers.CandId.{CandId}
use Rattle.write_set.specs.declared.candidate.Candidate.{Candidate}
use Rattle.world_script.specs.declared.event.Event.{Event}
use Rattle.world_script.specs.Script.{IsWithin}
use Rattle.geo_world.specs.World.{World, Idle, Pending, region_of, session_of, is_session}
use Rattle.geo_world.specs.Step.{put_candidate, next_ticket, submitted, step}
use Rattle.geo_world.specs.Play.{world_after}
use Rattle.geo_world.proofs.SoundSubmit.{session_of-older}
use Rattle.geo_world.proofs.Moves.{IsKeptBesidesSeals, step-moves}
use Rattle.geo_world.proofs.Played.{along}

-- each session that waits does so with the same ticket later
abbrev KeepsTickets : World → World → Type 0
KeepsTickets w v = (q k : ℕ) (own : CandId) → session_of w q k ≡ Pending own → session_of v q k ≡ Pending own

-- an idle session's entry is of another session than one that waits
submitted-keeps : (w : World) (region session : ℕ) (c : Candidate) (ticket : CandId) → session_of w region session ≡ Idle →
    (q k : ℕ) (own : CandId) → session_of w q k ≡ Pending own → (b : Bool) → is_session q k (region, session) ≡ b →
    session_of (submitted region session c ticket w) q k ≡ Pending own
submitted-keeps w region session c ticket idle q k own waits true is =
    let both : ((q == region) ≡ true) × ((k == session) ≡ true) = and_parts (q == region) (k == session) is in
    let same : session_of w q k ≡ session_of w region session = ap₂ (session_of w) (eqb-true q region both.0) (eqb-true k session both.1) in
    cc
submitted-keeps w region session c ticket idle q k own waits false differs =
    session_of-older region session q k (Pending ticket) w.sessions differs ∙ waits

tickets-besides : IsKeptBesidesSeals KeepsTickets
tickets-besides = record {
  stays = λ w q k own waits. waits;
  joins = λ u v w first second q k own waits. second q k own (first q k own waits);
  takes = λ w region session key value h few idle q k own waits.
      submitted-keeps w region session (put_candidate (region_of w region).published key value) (next_ticket w region) idle q k own waits
      (is_session q k (region, session)) refl;
  arrives = λ w packet to region epoch there q k own waits. waits;
  publishes = λ w region h whole q k own waits. waits;
}

step-keeps_tickets : (w : World) (event : Event) → IsWithin (length w.regions) event → KeepsTickets w (step w event).world
step-keeps_tickets = step-moves KeepsTickets KeepsTickets tickets-besides (λ w v r. r) (λ w region h near q k own waits. waits)

pub after-waits : (events : List Event) (w : World) → All (IsWithin (length w.regions)) events →
    (region session : ℕ) (ticket : CandId) → session_of w region session ≡ Pending ticket →
    session_of (world_after w events) region session ≡ Pending ticket
after-waits =
    along KeepsTickets (λ w q k own waits. waits) (λ u v w first second q k own waits. second q k own (first q k own waits)) step-keeps_tickets
