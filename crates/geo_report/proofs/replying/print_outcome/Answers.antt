use Rattle.std.proofs.Common.{◌++◌}
use Rattle.std.specs.Prelude.{codes}
use Rattle.std.specs.Fmt.{decimal}
use Rattle.geo_report.proofs.Lines.{adds}
use Rattle.geo_report.proofs.replying.print_outcome.Goals as goal

pub returns-in-Committed : goal.returns-in-Committed
returns-in-Committed c = rw c.in-Committed.is (adds _ _ _ (λ n. codes "committed at " ++ decimal n) _ _ c.from.ensures c.print_number.ensures)
