use Rattle.std.proofs.Common.{◌∙◌, sym}
use Rattle.geo_schema.proofs.Repeats.{found_repeat, no_repeat}
use Rattle.geo_schema.proofs.alike.first_repeat.Goals as goal

pub returns-then-has_alike : goal.returns-then-has_alike
returns-then-has_alike g c =
    sym (c.loop-place.invariant
    ∙ found_repeat g.T.Alike.same c.args.items.now c.loop-place.place c.index-items-place.result c.loop-place-test.true c.index-items-place.is (sym c.has_alike.ensures ∙ c.if-has_alike.true))

pub loop-place-preserved : goal.loop-place-preserved
loop-place-preserved g c =
    c.loop-place.invariant
    ∙ no_repeat g.T.Alike.same c.args.items.now c.loop-place.place c.index-items-place.result c.loop-place-test.true c.index-items-place.is (sym c.has_alike.ensures ∙ c.if-has_alike.false)
