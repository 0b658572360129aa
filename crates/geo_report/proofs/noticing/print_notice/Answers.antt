use Rattle.std.proofs.Common.{◌≡◌, ◌++◌, string_bytes}
use Rattle.std.specs.Prelude.{codes}
use Rattle.std.specs.Fmt.{decimal}
use Rattle.geo_report.proofs.Lines.{adds_behind, after_blank}
use Rattle.geo_report.proofs.noticing.print_notice.Goals as goal

pub returns-in_ok-print_number-in-Restarted : goal.returns-in_ok-print_number-in-Restarted
returns-in_ok-print_number-in-Restarted c =
    let front = codes "region " ++ decimal c.in-Restarted.region in
    let before : string_bytes c.print_number-in-Restarted.new.out ≡ string_bytes c.args.out.now ++ front =
    rw c.from-in-Restarted.ensures at c.in_ok-print_number-in-Restarted.ensures
    in rw c.in-Restarted.is
    (adds_behind _ _ _ _ front _ _ before (after_blank front (codes "restarted with ") (decimal c.in-Restarted.entries)) c.print_number-in-Restarted-2.ensures)
