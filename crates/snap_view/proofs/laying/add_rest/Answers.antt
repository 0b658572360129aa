use Rattle.std.proofs.Common.{◌++◌, map, ap, ◌∙◌, arith}
use Rattle.row_source.specs.Sources.{images}
use Rattle.snap_view.proofs.Places.{whole_rest}
use Rattle.snap_view.proofs.laying.add_rest.Goals as goal

pub returns : goal.returns
returns c =
    c.loop-row.invariant
    ∙ ap (λ rows. map (λ image. image.now) c.args.found.now.items ++ images rows)
    (whole_rest (λ p. (p.0.now, p.1.now)) c.args.rows.now c.args.place c.loop-row.row-index (omega (arith, c.loop-row-test.false)))
