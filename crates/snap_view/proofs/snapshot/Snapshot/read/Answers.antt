use Rattle.std.proofs.Common.{◌≡◌, sym, ◌∙◌, subst}
use Rattle.std.specs.Option.{option_copied}
use Rattle.version_store.specs.laws.Listing.{listed_is_read}
use Rattle.write_set.specs.Overlay.{image_in}
use Rattle.snap_view.specs.Snapshots.{Held, rows_of}
use Rattle.snap_view.specs.laws.Histories.{is_read}
use Rattle.snap_view.proofs.snapshot.Snapshot.read.Goals as goal

pub returns-clause-rows : goal.returns-clause-rows
returns-clause-rows c =
    subst (λ (held : Held). option_copied c.read_at.result ≡ image_in (rows_of held) c.args.row.now) c.self.view_is
    (c.read_at.ensures.kept ∙ sym (listed_is_read c.self.inside.epoch c.self.inside.versions.rows c.args.row.now c.self.invariant.order.rising))

pub returns-clause-journal : goal.returns-clause-journal
returns-clause-journal c journal of = returns-clause-rows c ∙ is_read journal c.args.self.now c.args.row.now of
