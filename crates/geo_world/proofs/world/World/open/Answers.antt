-- All regions are new.
use Rattle.std.proofs.Common.{◌+◌, ◌∷◌, ◌++◌, [], ℕ, refl, ap, ◌∙◌, arith}
use Rattle.std.proofs.lemmas.List.Elements.{All-push, All-same}
use Rattle.geo_world.specs.inner.Regions.{IsNew}
use Rattle.geo_world.proofs.Opening.{opened-stands}
use Rattle.geo_world.proofs.world.World.open.Goals as goal

pub loop-made-preserved : goal.loop-made-preserved
loop-made-preserved c = record {
  count = c.in_ok-push.ensures.len ∙ ap (λ (n : ℕ). n + 1) c.loop-made.invariant.count;
  new = All-same (IsNew c.args.regions) c.push.new.self.items (c.loop-made.all.items ++ c.in_ok-new.field-0 ∷ []) c.in_ok-push.ensures.items
      (All-push (IsNew c.args.regions) c.loop-made.all.items c.in_ok-new.field-0 c.loop-made.invariant.new c.in_ok-new.ensures);
}

pub returns-clause-first : goal.returns-clause-first
returns-clause-first c =
    opened-stands c.args.regions c.args.last _ c.requires.some c.requires.few (omega arith) c.in_ok-schema.ensures refl (omega arith) c.loop-made.invariant.new c.new-2.ensures.items
