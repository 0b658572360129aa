use Rattle.std.proofs.Common.{◌≡◌, true}
use Rattle.rows_kit.proofs.Fitting.{no_further, one_further}
use Rattle.rows_kit.proofs.rows.all_fit.Goals as goal

pub loop-at-preserved : goal.loop-at-preserved
loop-at-preserved c =
    let met : c.in_ok-fits.field-0 ≡ true = cc in
    one_further c.args.schema.now c.args.rows.now c.loop-at.at-index c.at-item.result _ c.loop-at-test.true c.at-item.is c.in_ok-fits.ensures met c.loop-at.invariant

pub returns : goal.returns
returns c = λ yes. no_further c.args.schema.now c.args.rows.now c.loop-at.at-index c.loop-at-test.false c.loop-at.invariant
