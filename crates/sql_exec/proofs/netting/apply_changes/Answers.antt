use Rattle.std.proofs.Common.{rules, ◌≡◌, ◌^◌, ◌<◌, length, sym, subst, arith}
use Rattle.sql_exec.proofs.Changed.{countable, made_known}
use Rattle.sql_exec.proofs.netting.apply_changes.Goals as goal
use Rattle.sql_exec.specs.Changes.{CanBeApplied}
use Rattle.write_set.specs.Bounds.{AreFewRows}
use Rattle.write_set.specs.Net.{TouchesKnown}

pub make-requires : goal.make-requires
make-requires c =
    subst (TouchesKnown c.args.own.now) (sym c.into_vec-changes.ensures) (made_known c.args.own.now c.args.changes c.requires)

pub overflow_cast-result : goal.overflow_cast-result
overflow_cast-result c =
    let few : length c.into_vec-changes.result.items < 2 ^ 32 =
    countable c.args.own.now c.make.new.own c.into_vec-changes.result.items (subst AreFewRows c.count-few.ensures.value c.count-few.ensures.few)
    (subst (CanBeApplied c.args.own.now) (sym c.into_vec-changes.ensures) c.requires) c.in_ok-make.ensures.net in
    let same : c.len-changed.result ≡ length c.into_vec-changes.result.items = search rules in
    omega arith
