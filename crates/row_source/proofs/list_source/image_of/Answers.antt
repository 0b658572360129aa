use Rattle.std.proofs.Common.{rules, sym}
use Rattle.std.proofs.lemmas.Fn.{always_returns_same}
use Rattle.geo_base.specs.Order.{row_cmp}
use Rattle.row_source.proofs.Searching.{image_found, image_absent}
use Rattle.row_source.proofs.list_source.image_of.Goals as goal

pub returns-in-Ok : goal.returns-in-Ok
returns-in-Ok c =
    let by_row = c.in-Ok.ensures.position (λ at. row_cmp at.row c.args.row.now) (always_returns_same _ _ _ (λ a r f called. search rules)) in
    sym (image_found c.args.rows.now c.requires c.args.row.now c.in-Ok.place c.index-rows-place.result c.in-Ok.ensures.bound by_row)

pub returns-in-Err : goal.returns-in-Err
returns-in-Err c =
    let by_row = c.in-Err.ensures.position (λ at. row_cmp at.row c.args.row.now) (always_returns_same _ _ _ (λ a r f called. search rules)) in
    sym (image_absent c.args.rows.now c.requires c.args.row.now c.in-Err.field-0 by_row)
