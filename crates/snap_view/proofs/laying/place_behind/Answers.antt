use Rattle.std.proofs.Common.{◌≡◌, rules, true, false, arith}
use Rattle.std.specs.Ordering.{is_eq}
use Rattle.geo_base.specs.Order.{row_cmp}
use Rattle.snap_view.proofs.Places.{behind_it, not_behind, none_behind}
use Rattle.snap_view.proofs.laying.place_behind.Goals as goal
use Rattle.snap_view.proofs.laying.place_behind.Goals.{else-place-rows-via-then-place-rows+else-is_eq, else-place-rows-via-else-place-rows}

pub returns-then-is_eq-clause-rest : goal.returns-then-is_eq-clause-rest
returns-then-is_eq-clause-rest c =
    let same : is_eq (row_cmp c.index-rows-place.result.0.now c.args.row.now) ≡ true = search rules in
    behind_it _ c.args.rows.now c.args.place c.args.row.now c.index-rows-place.result c.if-place-rows.true c.index-rows-place.is same

pub returns-clause-rest : goal.returns-clause-rest
returns-clause-rest c = elim c.else-place-rows.branch [
  | else-place-rows-via-then-place-rows+else-is_eq w ↦
      let other : is_eq (row_cmp w.index-rows-place.result.0.now c.args.row.now) ≡ false = search rules in
      not_behind _ c.args.rows.now c.args.place c.args.row.now w.index-rows-place.result w.if-place-rows.true w.index-rows-place.is other
  | else-place-rows-via-else-place-rows w ↦ none_behind _ c.args.rows.now c.args.place c.args.row.now (omega (arith, w.if-place-rows.false))
]
