use Rattle.std.proofs.Common.{Bor, [], ◌∷◌, map, refl}
use Rattle.std.proofs.lemmas.Result.{err_from_is_err_and}
use Rattle.geo_base.specs.declared.row_image.RowImage.{RowImage}
use Rattle.join_exec.proofs.Kept.{end, fault, turn}
use Rattle.row_source.specs.Matches.{alone}
use Rattle.join_exec.proofs.keeping.keep_alone.Goals as goal

abbrev image : Bor RowImage → RowImage
image row = row.now

pub loop-row-preserved : goal.loop-row-preserved
loop-row-preserved c =
    turn c.args.tests.now (λ rows. map alone (map image rows)) (λ row. alone (image row) ∷ []) (λ row rest. refl) c.args.kept.now.items c.args.rows.now c.loop-row.kept.items _ c.loop-row.row-index c.row-item.result
    c.loop-row-test.true c.row-item.is c.loop-row.invariant c.in_ok-keep.ensures

pub returns-in_err-keep : goal.returns-in_err-keep
returns-in_err-keep c =
    let p = err_from_is_err_and c.from_residual.result c.from_residual.ensures.1 in
    rw (p.1, p.2)
    (fault c.args.tests.now (λ rows. map alone (map image rows)) (λ row. alone (image row) ∷ []) (λ row rest. refl) c.args.kept.now.items c.args.rows.now c.loop-row.kept.items c.loop-row.row-index c.row-item.result _
    c.loop-row-test.true c.row-item.is c.loop-row.invariant c.in_err-keep.ensures)

pub returns : goal.returns
returns c =
    end c.args.tests.now (λ rows. map alone (map image rows)) c.args.kept.now.items c.args.rows.now c.loop-row.kept.items c.loop-row.row-index refl c.loop-row-test.false c.loop-row.invariant
