use Rattle.world_script.proofs.LineTexts.{HasEvents-one}
use Rattle.world_script.proofs.reading.event_lines.next_event.Goals as goal

pub returns-clause-found : goal.returns-clause-found
returns-clause-found c = HasEvents-one _ _ _ _ _ c.in_ok-line.ensures.found.cut c.in_ok-event.ensures.found.0 c.in_ok-event.ensures.found.1
