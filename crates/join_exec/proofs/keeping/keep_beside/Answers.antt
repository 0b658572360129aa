use Rattle.std.proofs.Common.{Bor, [], ◌∷◌, map, refl}
use Rattle.std.proofs.lemmas.Result.{err_from_is_err_and}
use Rattle.geo_base.specs.declared.row_image.RowImage.{RowImage}
use Rattle.join_exec.proofs.Kept.{end, fault, turn}
use Rattle.row_source.specs.Matches.{paired}
use Rattle.join_exec.proofs.keeping.keep_beside.Goals as goal

abbrev image : Bor RowImage → RowImage
image row = row.now

pub loop-right-preserved : goal.loop-right-preserved
loop-right-preserved c =
    turn c.args.tests.now (λ rows. map (paired c.args.left.now) (map image rows)) (λ row. paired c.args.left.now (image row) ∷ []) (λ row rest. refl) c.args.kept.now.items c.args.rights.now c.loop-right.kept.items _ c.loop-right.right-index c.right-item.result
    c.loop-right-test.true c.right-item.is c.loop-right.invariant c.in_ok-keep.ensures

pub returns-in_err-keep : goal.returns-in_err-keep
returns-in_err-keep c =
    let p = err_from_is_err_and c.from_residual.result c.from_residual.ensures.1 in
    rw (p.1, p.2)
    (fault c.args.tests.now (λ rows. map (paired c.args.left.now) (map image rows)) (λ row. paired c.args.left.now (image row) ∷ []) (λ row rest. refl) c.args.kept.now.items c.args.rights.now c.loop-right.kept.items c.loop-right.right-index c.right-item.result _
    c.loop-right-test.true c.right-item.is c.loop-right.invariant c.in_err-keep.ensures)

pub returns : goal.returns
returns c =
    end c.args.tests.now (λ rows. map (paired c.args.left.now) (map image rows)) c.args.kept.now.items c.args.rights.now c.loop-right.kept.items c.loop-right.right-index refl c.loop-right-test.false c.loop-right.invariant
