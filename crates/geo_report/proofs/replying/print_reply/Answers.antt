use Rattle.std.proofs.Common.{◌++◌}
use Rattle.std.specs.Prelude.{codes}
use Rattle.std.specs.Fmt.{decimal}
use Rattle.geo_report.proofs.Lines.{adds}
use Rattle.geo_report.proofs.replying.print_reply.Goals as goal

pub returns-in-Pending : goal.returns-in-Pending
returns-in-Pending c = rw c.in-Pending.is (adds _ _ _ (λ n. codes "pending, published " ++ decimal n) _ _ c.from-in-Pending.ensures c.print_number-in-Pending.ensures)
