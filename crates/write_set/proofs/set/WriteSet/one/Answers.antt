use Rattle.std.proofs.Common.{◌∙◌, arith}
use Rattle.write_set.specs.laws.Rising.{one_change}
use Rattle.write_set.proofs.Lefts.{size_of_one}
use Rattle.write_set.proofs.set.WriteSet.one.Goals as goal

pub invariant_of-result : goal.invariant_of-result
invariant_of-result c =
    rw (c.in_ok-push.ensures.items, c.new-changes.ensures.items) (
      one_change (c.args.row, c.args.change),
      c.change_size-size.ensures.size ∙ size_of_one (c.args.row, c.args.change),
      omega (arith, c.change_size-size.ensures.few),
    )
