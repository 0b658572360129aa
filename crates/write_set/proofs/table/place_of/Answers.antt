use Rattle.std.proofs.Common.{rules}
use Rattle.std.proofs.lemmas.Fn.{always_returns_same}
use Rattle.geo_base.specs.Order.{row_cmp}
use Rattle.write_set.proofs.Places.{searched}
use Rattle.write_set.proofs.table.place_of.Goals as goal

-- the closure compares an entry's row
pub returns : goal.returns
returns g c =
    let facts = c.binary_search_by.ensures in
    let by_row = facts.position (λ e. row_cmp e.0 c.args.row.now) (always_returns_same _ _ _ (λ a r f called. search rules)) in
    searched c.args.entries.now c.requires c.args.row.now c.binary_search_by.result facts.bound by_row
