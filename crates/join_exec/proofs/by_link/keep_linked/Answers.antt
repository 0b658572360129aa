use Rattle.std.proofs.Common.{Bor, List, map, refl, ap, subst, ◌∙◌, ◌≡◌, Ok}
use Rattle.std.proofs.lemmas.Result.{err_from_is_err_and}
use Rattle.geo_base.specs.Results.{Fails}
use Rattle.geo_base.specs.declared.cell.Cell.{Cell}
use Rattle.geo_base.specs.declared.row_image.RowImage.{RowImage}
use Rattle.join_exec.proofs.Kept.{end, fault, turn}
use Rattle.join_exec.specs.inner.Kept.{kept_behind, pairs_by}
use Rattle.row_source.specs.Matches.{paired}
use Rattle.row_source.specs.declared.fault.ExecFault.TheVariants as exec
use Rattle.join_exec.specs.inner.Linked.{rows_at}
use Rattle.row_source.specs.Handing.{cell_at}
use Rattle.join_exec.proofs.by_link.keep_linked.Goals as goal

abbrev image : Bor RowImage → RowImage
image row = row.now

pub loop-left-preserved : goal.loop-left-preserved
loop-left-preserved c =
    turn c.args.tests.now (λ lefts. pairs_by (λ left. rows_at (λ k. k.now) (λ v. map image v.items) c.args.links.now.entries (cell_at left c.args.column)) (map image lefts))
    (λ left. map (paired (image left)) (rows_at (λ k. k.now) (λ v. map image v.items) c.args.links.now.entries (cell_at (image left) c.args.column))) (λ left rest. refl)
    c.args.kept.now.items c.args.lefts.now c.loop-left.kept.items _ c.loop-left.left-index c.left-item.result c.loop-left-test.true c.left-item.is c.loop-left.invariant
    (subst (λ (rights : List RowImage). kept_behind c.args.tests.now c.loop-left.kept.items (map (paired (image c.left-item.result)) rights) ≡ Ok c.keep_beside.new.kept.items)
    (c.rows_with-rights.ensures ∙ ap (rows_at (λ k. k.now) (λ v. map image v.items) c.args.links.now.entries) (c.cell_at.ensures ∙ ap (λ (cells : List Cell). cell_at cells c.args.column) c.cells.ensures.value)) c.in_ok-keep_beside.ensures)

pub returns-in_err-keep_beside : goal.returns-in_err-keep_beside
returns-in_err-keep_beside c =
    let p = err_from_is_err_and c.from_residual.result c.from_residual.ensures.1 in
    rw (p.1, p.2)
    (fault c.args.tests.now (λ lefts. pairs_by (λ left. rows_at (λ k. k.now) (λ v. map image v.items) c.args.links.now.entries (cell_at left c.args.column)) (map image lefts))
    (λ left. map (paired (image left)) (rows_at (λ k. k.now) (λ v. map image v.items) c.args.links.now.entries (cell_at (image left) c.args.column))) (λ left rest. refl)
    c.args.kept.now.items c.args.lefts.now c.loop-left.kept.items c.loop-left.left-index c.left-item.result _ c.loop-left-test.true c.left-item.is c.loop-left.invariant
    (subst (λ (rights : List RowImage). Fails exec.NoMemory c.in_err-keep_beside.field-0.0 (kept_behind c.args.tests.now c.loop-left.kept.items (map (paired (image c.left-item.result)) rights)))
    (c.rows_with-rights.ensures ∙ ap (rows_at (λ k. k.now) (λ v. map image v.items) c.args.links.now.entries) (c.cell_at.ensures ∙ ap (λ (cells : List Cell). cell_at cells c.args.column) c.cells.ensures.value)) c.in_err-keep_beside.ensures))

pub returns : goal.returns
returns c =
    end c.args.tests.now (λ lefts. pairs_by (λ left. rows_at (λ k. k.now) (λ v. map image v.items) c.args.links.now.entries (cell_at left c.args.column)) (map image lefts)) c.args.kept.now.items
    c.args.lefts.now c.loop-left.kept.items c.loop-left.left-index refl c.loop-left-test.false c.loop-left.invariant
