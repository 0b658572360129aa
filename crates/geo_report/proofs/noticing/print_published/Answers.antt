use Rattle.std.proofs.Common.{◌≡◌, ◌++◌, string_bytes}
use Rattle.std.specs.Prelude.{codes}
use Rattle.std.specs.Fmt.{decimal}
use Rattle.geo_report.proofs.Lines.{adds_behind, behind, published_line}
use Rattle.geo_report.proofs.noticing.print_published.Goals as goal

pub returns : goal.returns
returns c =
    let front = codes "region " ++ decimal c.args.region in
    let first = front ++ (codes " published " ++ decimal c.args.epoch) in
    let before : string_bytes c.print_number-2.new.out ≡ string_bytes c.args.out.now ++ first =
    behind _ _ _ front (codes " published " ++ decimal c.args.epoch)
    (rw c.from.ensures at c.in_ok-print_number.ensures) (rw c.from-2.ensures at c.in_ok-print_number-2.ensures)
    in adds_behind _ _ _ _ first _ _ before
    (published_line front (codes "published ") (decimal c.args.epoch) (codes " commits ") (decimal c.args.commits) (codes " aborts ") (decimal c.args.aborts))
    c.print_verdicts.ensures
