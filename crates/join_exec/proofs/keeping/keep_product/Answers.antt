use Rattle.std.proofs.Common.{Bor, map, refl}
use Rattle.std.proofs.lemmas.Result.{err_from_is_err_and}
use Rattle.geo_base.specs.declared.row_image.RowImage.{RowImage}
use Rattle.join_exec.proofs.Kept.{end, fault, turn}
use Rattle.join_exec.specs.inner.Kept.{pairs_by}
use Rattle.row_source.specs.Matches.{paired}
use Rattle.join_exec.proofs.keeping.keep_product.Goals as goal

abbrev image : Bor RowImage → RowImage
image row = row.now

pub loop-left-preserved : goal.loop-left-preserved
loop-left-preserved c =
    turn c.args.tests.now (λ lefts. pairs_by (λ _. map image c.args.rights.now) (map image lefts)) (λ left. map (paired (image left)) (map image c.args.rights.now)) (λ row rest. refl) c.args.kept.now.items c.args.lefts.now c.loop-left.kept.items _ c.loop-left.left-index c.left-item.result
    c.loop-left-test.true c.left-item.is c.loop-left.invariant c.in_ok-keep_beside.ensures

pub returns-in_err-keep_beside : goal.returns-in_err-keep_beside
returns-in_err-keep_beside c =
    let p = err_from_is_err_and c.from_residual.result c.from_residual.ensures.1 in
    rw (p.1, p.2)
    (fault c.args.tests.now (λ lefts. pairs_by (λ _. map image c.args.rights.now) (map image lefts)) (λ left. map (paired (image left)) (map image c.args.rights.now)) (λ row rest. refl) c.args.kept.now.items c.args.lefts.now c.loop-left.kept.items c.loop-left.left-index c.left-item.result _
    c.loop-left-test.true c.left-item.is c.loop-left.invariant c.in_err-keep_beside.ensures)

pub returns : goal.returns
returns c =
    end c.args.tests.now (λ lefts. pairs_by (λ _. map image c.args.rights.now) (map image lefts)) c.args.kept.now.items c.args.lefts.now c.loop-left.kept.items c.loop-left.left-index refl c.loop-left-test.false c.loop-left.invariant
