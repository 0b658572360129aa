use Rattle.std.proofs.Common.{Bor, List, map, refl, subst, arith, ◌≡◌, Ok}
use Rattle.std.proofs.lemmas.Result.{err_from_is_err_and}
use Rattle.geo_base.specs.Results.{Fails}
use Rattle.geo_base.specs.declared.row_image.RowImage.{RowImage}
use Rattle.join_exec.proofs.Kept.{end, fault, turn}
use Rattle.join_exec.specs.inner.Kept.{kept_behind, pairs_by}
use Rattle.row_source.specs.Matches.{paired}
use Rattle.row_source.specs.declared.fault.ExecFault.TheVariants as exec
use Rattle.std.specs.List.{filter}
use Rattle.geo_base.specs.Order.{row_eq}
use Rattle.row_source.specs.Handing.{part_cell, row_named}
use Rattle.row_source.specs.Sources.{images}
use Rattle.join_exec.proofs.by_key.keep_by_key.Goals as goal

abbrev image : Bor RowImage → RowImage
image row = row.now

pub loop-left-preserved : goal.loop-left-preserved
loop-left-preserved g c = record {
  pairs =
      turn c.args.tests.now (λ lefts. pairs_by (λ left. images (filter (λ entry. row_eq (row_named c.args.table (map (part_cell left) c.args.parts.now)) entry.0) (g.R.RowSource.rows c.args.source.now))) (map image lefts))
      (λ left. map (paired (image left)) (images (filter (λ entry. row_eq (row_named c.args.table (map (part_cell (image left)) c.args.parts.now)) entry.0) (g.R.RowSource.rows c.args.source.now)))) (λ left rest. refl)
      c.args.kept.now.items c.args.lefts.now c.loop-left.kept.items _ c.loop-left.left-index c.left-item.result c.loop-left-test.true c.left-item.is c.loop-left.invariant.pairs
      (subst (λ (rights : List RowImage). kept_behind c.args.tests.now c.loop-left.kept.items (map (paired (image c.left-item.result)) rights) ≡ Ok c.keep_found.new.kept.items)
      c.in_ok-found.ensures.row c.in_ok-keep_found.ensures);
  few = omega (arith, c.loop-left.invariant.few, c.found_by_key.ensures.steps);
}

pub returns-in_err-keep_found-clause-pairs : goal.returns-in_err-keep_found-clause-pairs
returns-in_err-keep_found-clause-pairs g c =
    let p = err_from_is_err_and c.from_residual-in_err-keep_found.result c.from_residual-in_err-keep_found.ensures.1 in
    rw (p.1, p.2)
    (fault c.args.tests.now (λ lefts. pairs_by (λ left. images (filter (λ entry. row_eq (row_named c.args.table (map (part_cell left) c.args.parts.now)) entry.0) (g.R.RowSource.rows c.args.source.now))) (map image lefts))
    (λ left. map (paired (image left)) (images (filter (λ entry. row_eq (row_named c.args.table (map (part_cell (image left)) c.args.parts.now)) entry.0) (g.R.RowSource.rows c.args.source.now)))) (λ left rest. refl)
    c.args.kept.now.items c.args.lefts.now c.loop-left.kept.items c.loop-left.left-index c.left-item.result _ c.loop-left-test.true c.left-item.is c.loop-left.invariant.pairs
    (subst (λ (rights : List RowImage). Fails exec.NoMemory c.in_err-keep_found.field-0.0 (kept_behind c.args.tests.now c.loop-left.kept.items (map (paired (image c.left-item.result)) rights)))
    c.in_ok-found.ensures.row c.in_err-keep_found.ensures))

pub returns-clause-pairs : goal.returns-clause-pairs
returns-clause-pairs g c =
    end c.args.tests.now
    (λ lefts. pairs_by (λ left. images (filter (λ entry. row_eq (row_named c.args.table (map (part_cell left) c.args.parts.now)) entry.0) (g.R.RowSource.rows c.args.source.now))) (map image lefts))
    c.args.kept.now.items c.args.lefts.now c.loop-left.kept.items c.loop-left.left-index refl c.loop-left-test.false c.loop-left.invariant.pairs
