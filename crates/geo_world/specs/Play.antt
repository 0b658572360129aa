-- What a whole play prints.
use Rattle.std.specs.Prelude.{ℕ, List, [], ◌∷◌, ◌++◌}
use Rattle.world_script.specs.declared.event.Event.{Event}
use Rattle.geo_world.specs.World.{World}
use Rattle.geo_world.specs.Step.{step}

-- the world after the events
abbrev pub world_after : World → List Event → World
world_after w [] = w
world_after w (event ∷ events) = world_after (step w event).world events

-- the lines of the events, one after another
abbrev pub text_of : World → List Event → List ℕ
text_of w [] = []
text_of w (event ∷ events) = (step w event).lines ++ text_of (step w event).world events
