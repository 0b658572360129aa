use Rattle.std.proofs.Common.{◌∙◌, sym, arith}
use Rattle.schema_text.specs.Tables.{column_place}
use Rattle.schema_text.proofs.Lists.{one_read, not_read}
use Rattle.schema_text.proofs.index.each_place.Goals as goal

pub returns-in-None : goal.returns-in-None
returns-in-None c =
    sym (not_read (column_place c.args.columns.now) c.args.names.now c.loop-name.places.items c.loop-name.name-index c.name-item.result (omega arith) c.loop-name.invariant (sym c.name-item.is)
    (sym c.column_place.ensures.place ∙ c.in-None.is))

pub loop-name-preserved : goal.loop-name-preserved
loop-name-preserved c =
    rw c.in_ok-push-in-Some.ensures.items
    (one_read (column_place c.args.columns.now) c.args.names.now c.loop-name.places.items c.loop-name.name-index c.name-item.result c.in-Some.place (omega arith) c.loop-name.invariant (sym c.name-item.is)
    (sym c.column_place.ensures.place ∙ c.in-Some.is))
