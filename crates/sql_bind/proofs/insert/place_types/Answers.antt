use Rattle.std.proofs.Common.{◌∙◌, map, sym, ap, arith}
use Rattle.std.proofs.lemmas.List.{map_more, take_all}
use Rattle.sql_bind.specs.Names.{type_at}
use Rattle.sql_bind.proofs.insert.place_types.Goals as goal

pub type_at-requires : goal.type_at-requires
type_at-requires c = c.requires c.loop-place.place-index _ (omega arith)

pub loop-place-preserved : goal.loop-place-preserved
loop-place-preserved c =
    rw (c.in_ok-push.ensures.items, c.loop-place.invariant, c.type_at.ensures)
    (sym (map_more (type_at c.args.columns.now) c.args.places.now c.loop-place.place-index _ (omega arith)))

pub returns : goal.returns
returns c =
    c.loop-place.invariant ∙ ap (map (type_at c.args.columns.now)) (take_all c.loop-place.place-index c.args.places.now (omega arith))
