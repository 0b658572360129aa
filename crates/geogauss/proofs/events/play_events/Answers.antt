use Rattle.std.proofs.Common.{◌<◌, length, take, arith, ◌∙◌}
use Rattle.std.proofs.lemmas.Result.{err_from_is_err_and}
use Rattle.std.proofs.KnownBytes.{Appends-trans}
use Rattle.std.specs.Prelude.{pos}
use Rattle.world_script.specs.declared.event.Event.{Event}
use Rattle.world_script.specs.declared.event.Event.TheVariants.{Sql}
use Rattle.world_script.specs.declared.event.Statement.TheVariants.{Insert}
use Rattle.geo_world.specs.Play.{world_after}
use Rattle.geogauss.proofs.PlayLemmas.{world_after-more, text_of-more, StoppedAfter-event}
use Rattle.geogauss.proofs.events.play_events.Goals as goal

-- what stands past the end of the events
abbrev none : Event
none = Sql 0 0 (Insert (pos 0) (pos 0))

pub play_event-requires-clause-stands : goal.play_event-requires-clause-stands
play_event-requires-clause-stands g c = (
  world_after c.requires.stands.0 (take c.loop-event.event-index c.args.events.now),
  c.loop-event.invariant.world c.requires.stands.0 c.requires.stands.1,
)

pub returns-in_err-play_event-clause-err : goal.returns-in_err-play_event-clause-err
returns-in_err-play_event-clause-err g c w stands =
    let p = err_from_is_err_and c.from_residual.result c.from_residual.ensures.1 in
    let within : c.loop-event.event-index < length c.args.events.now = omega arith in
    rw p.1
    (StoppedAfter-event w c.args.events.now c.loop-event.event-index _ _ _ _ within (c.loop-event.invariant.gained w stands)
    (c.in_err-play_event.ensures.err _ (c.loop-event.invariant.world w stands)))

pub loop-event-preserved : goal.loop-event-preserved
loop-event-preserved g c =
    let within : c.loop-event.event-index < length c.args.events.now = omega arith in
    record {
      count = c.play_event.ensures.count ∙ c.loop-event.invariant.count;
      world = λ w stands. rw (world_after-more w c.args.events.now c.loop-event.event-index none within)
          (c.in_ok-play_event.ensures.world _ (c.loop-event.invariant.world w stands));
      gained = λ w stands. rw (text_of-more w c.args.events.now c.loop-event.event-index none within)
          (Appends-trans _ _ _ _ _ (c.loop-event.invariant.gained w stands)
          (c.in_ok-play_event.ensures.ok _ (c.loop-event.invariant.world w stands)));
      later = omega (arith, c.loop-event.invariant.later, c.play_event.ensures.cause.later);
    }
