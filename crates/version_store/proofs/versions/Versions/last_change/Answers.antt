use Rattle.std.proofs.Common.{◌≤◌, sym, ◌∙◌, subst}
use Rattle.version_store.specs.laws.Growing.{change_after, change_upto}
use Rattle.version_store.proofs.versions.Versions.last_change.Goals as goal

pub returns-clause-change : goal.returns-clause-change
returns-clause-change c journal history = record {
  later = λ after. c.newest_of.ensures ∙ change_after journal c.args.self.now c.args.row.now history after;
  upto = λ within. subst (λ n. n ≤ c.args.self.now.horizon) (sym c.newest_of.ensures) (change_upto journal c.args.self.now c.args.row.now history within);
}
