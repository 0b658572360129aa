use Rattle.std.proofs.Common.{sym, ap, ◌∙◌}
use Rattle.std.specs.Option.{option_copied}
use Rattle.std.proofs.lemmas.List.{drop_all}
use Rattle.write_set.specs.inner.Entrants.{best_of}
use Rattle.write_set.proofs.Keeping.{best_keeps}
use Rattle.write_set.proofs.verdicts.keeper_of.Goals as goal

pub returns : goal.returns
returns c =
    let fresh = c.args.fresh.now in
    let row = c.args.row.now in
    sym (ap (λ ds. best_of (option_copied c.loop-d.best) ds row) (drop_all c.loop-d.d-index fresh c.loop-d-test.false))
    ∙ c.loop-d.invariant ∙ best_keeps row fresh
