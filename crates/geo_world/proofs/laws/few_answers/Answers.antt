use Rattle.std.proofs.Common.{ℕ, sym, subst, arith}
use Rattle.geo_base.specs.declared.limits.TheConstants.{LAST_EPOCH}
use Rattle.world_script.specs.Script.{IsWithin}
use Rattle.geo_world.specs.World.{World, first_world}
use Rattle.geo_world.specs.Step.{step}
use Rattle.geo_world.specs.Play.{world_after}
use Rattle.geo_world.specs.Answers.{IsAnswer}
use Rattle.geo_world.proofs.Answering.{step-answers}
use Rattle.geo_world.proofs.Played.{played-sound, played-count, played-not_last}
use Rattle.geo_world.proofs.ScriptEvents.{script-leads, front-few, event-within}
use Rattle.geo_world.proofs.laws.few_answers.Goals as goal

pub returns-clause-play : goal.returns-clause-play
returns-clause-play c regions last events w event play within few =
    step-answers w event (played-sound regions last events w play)
    (subst (λ (n : ℕ). IsWithin n event) (sym (played-count regions last events w play)) within)
    (λ region. played-not_last regions last events w play region (omega arith))

pub returns-clause-script : goal.returns-clause-script
returns-clause-script c script bytes before event after w s cut is =
    subst (λ (v : World). IsAnswer v event (step v event).lines) (sym is)
    (returns-clause-play c script.regions LAST_EPOCH before (world_after (first_world script.regions LAST_EPOCH) before) event
    (script-leads script bytes s before event after cut) (event-within script bytes s before event after cut)
    (front-few script bytes s before event after cut))
