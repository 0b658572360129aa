use Rattle.std.proofs.Common.{◌∷◌, []}
use Rattle.std.specs.Prelude.{codes}
use Rattle.std.specs.Fmt.{decimal}
use Rattle.geo_world.specs.Lines.{epoch_published}
use Rattle.geo_world.proofs.LineLemmas.{published-joined}
use Rattle.geo_world.proofs.printing.print_epoch_published.Goals as goal

pub returns : goal.returns
unfolding epoch_published
returns c =
    published-joined _ _ _ (codes "region ") (decimal c.args.region) (codes " ") (codes "published ") (decimal c.args.epoch)
    (codes " commits ") (decimal c.args.commits) (codes " aborts ") (decimal c.args.aborts) (10 ∷ [])
    c.in_ok-write.ensures.bytes c.in_ok-writeln.ensures.bytes
