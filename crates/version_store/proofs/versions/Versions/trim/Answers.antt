use Rattle.std.proofs.Common.{ap, ◌∙◌, subst, arith}
use Rattle.version_store.specs.History.{Kept, IsTrimmed}
use Rattle.version_store.specs.laws.Growing.{trimmed}
use Rattle.version_store.specs.inner.Noting.{rows_upto}
use Rattle.version_store.specs.inner.Writing.{all_cut}
use Rattle.version_store.proofs.Trimmed.{trimmed_by, trimmed_whole}
use Rattle.version_store.proofs.versions.Versions.trim.Goals as goal

pub invariant_of-self : goal.invariant_of-self
invariant_of-self c =
    trimmed_whole (record { horizon = c.self.inside.horizon; applied = c.self.inside.applied; rows = c.self.inside.rows })
    c.self.invariant.0 c.self.inside.notes.items c.self.invariant.1 c.args.horizon
    (omega (arith, c.requires.from, ap (λ (k : Kept). k.horizon) c.self.view_is))
    (omega (arith, c.requires.upto, ap (λ (k : Kept). k.applied) c.self.view_is))
    c.cut_noted.new.rows
    (c.in_ok-cut_noted.ensures
    ∙ ap (λ notes. all_cut c.args.horizon (rows_upto c.args.horizon notes) c.in_ok-rows.rows) c.as_slice.ensures.value
    ∙ ap (all_cut c.args.horizon (rows_upto c.args.horizon c.self.inside.notes.items)) c.in_ok-rows.ensures)
    c.leave_later.new.notes.items
    c.leave_later.ensures

pub returns-clause-trimmed : goal.returns-clause-trimmed
returns-clause-trimmed c =
    subst (λ (k : Kept). IsTrimmed c.args.horizon k (record { horizon = c.args.horizon; applied = c.self.inside.applied; rows = c.cut_noted.new.rows })) c.self.view_is
    (trimmed_by (record { horizon = c.self.inside.horizon; applied = c.self.inside.applied; rows = c.self.inside.rows })
    c.self.invariant.0 c.self.inside.notes.items c.self.invariant.1 c.args.horizon
    (omega (arith, c.requires.from, ap (λ (k : Kept). k.horizon) c.self.view_is))
    c.cut_noted.new.rows
    (c.in_ok-cut_noted.ensures
    ∙ ap (λ notes. all_cut c.args.horizon (rows_upto c.args.horizon notes) c.in_ok-rows.rows) c.as_slice.ensures.value
    ∙ ap (all_cut c.args.horizon (rows_upto c.args.horizon c.self.inside.notes.items)) c.in_ok-rows.ensures))

pub returns-clause-history : goal.returns-clause-history
returns-clause-history c journal history = trimmed journal c.args.horizon c.args.self.now _ history c.requires.from c.requires.upto (returns-clause-trimmed c)
