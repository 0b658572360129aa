-- One packet more is delivered at each turn.
use Rattle.std.proofs.Common.{◌≡◌, ◌+◌, ◌-◌, ℕ, subst, ◌∙◌, arith, string_bytes}
use Rattle.geo_world.specs.Step.{deliver}
use Rattle.geo_world.specs.inner.Standing.{Makes}
use Rattle.geo_world.proofs.Delivering.{deliver-makes}
use Rattle.geo_world.proofs.world.World.deliver.Goals as goal

pub deliver_one-requires : goal.deliver_one-requires
deliver_one-requires c = (
  (deliver (c.loop-packet.packet - c.args.first) c.args.first c.requires.stands.0).world,
  (c.loop-packet.invariant.made c.requires.stands.0 c.requires.stands.1).world,
)

pub loop-packet-preserved : goal.loop-packet-preserved
loop-packet-preserved c = record {
  count = c.in_ok-deliver_one.ensures.count ∙ c.loop-packet.invariant.count;
  made = λ w s. deliver-makes w c.args.first c.loop-packet.packet c.loop-packet.self c.deliver_one.new.self _ _ _ (omega arith)
      (c.loop-packet.invariant.made w s) c.in_ok-deliver_one.ensures.step;
}

pub returns-in_ok-deliver_one-clause-step : goal.returns-in_ok-deliver_one-clause-step
returns-in_ok-deliver_one-clause-step c = λ w s.
    let last : c.loop-packet.packet ≡ c.args.last = omega arith in
    subst (λ (q : ℕ). Makes (deliver (q + 1 - c.args.first) c.args.first w) (string_bytes c.args.out.now) (string_bytes c.deliver_one.new.out) c.deliver_one.new.self) last
    (deliver-makes w c.args.first c.loop-packet.packet c.loop-packet.self c.deliver_one.new.self _ _ _ (omega arith)
    (c.loop-packet.invariant.made w s) c.in_ok-deliver_one.ensures.step)
