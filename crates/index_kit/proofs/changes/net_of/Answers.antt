use Rattle.std.proofs.Common.{◌≡◌, true, All}
use Rattle.write_set.specs.declared.row_change.RowChange.{RowChange}
use Rattle.write_set.specs.laws.Nets.{touches_known}
use Rattle.index_kit.proofs.changes.net_of.Goals as goal

-- each row is said to have been there before, touched ones too
pub with-requires : goal.with-requires
with-requires c =
    let all : All (λ (x : RowChange). x.before ≡ true) c.args.changes.items = rw c.deref.ensures.value at (c.are_known.ensures c.if-are_known.true) in
    touches_known _ c.args.changes.items (λ i d lt touch. all i d lt)
