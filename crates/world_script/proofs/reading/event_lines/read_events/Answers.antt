use Rattle.std.proofs.Common.{subst, arith}
use Rattle.std.proofs.lemmas.Grind.{common_steps}
use Rattle.world_script.specs.inner.Reading.{HasEvents}
use Rattle.world_script.proofs.LineTexts.{HasEvents-append}
use Rattle.world_script.proofs.reading.event_lines.read_events.Goals as goal

pub loop-rest-preserved : goal.loop-rest-preserved
loop-rest-preserved c =
    let read = HasEvents-append _ _ _ _ _ _ c.loop-rest.invariant.read c.in-Some.ensures.found in
    record {
      read = subst (λ events. HasEvents c.args.regions c.args.text.now events c.in-Some.more.now) (grind (arith, common_steps)) read;
      few = grind (arith, common_steps);
    }
