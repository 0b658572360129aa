use Rattle.std.proofs.Common.{ap, sym, ◌∙◌, None, Some}
use Rattle.std.proofs.lemmas.Option.{slice_get-get_or, slice_get_past}
use Rattle.sql_plan.specs.inner.Borrowed.{said_by, usable}
use Rattle.sql_plan.proofs.Chosen.{next_at}
use Rattle.sql_plan.proofs.ranges.next_test.Goals as goal

pub returns-in-Some : goal.returns-in-Some
returns-in-Some c =
    let here = c.in-Some.ensures.lookup.3 in
    c.first_test.ensures
    ∙ next_at (said_by c.args.kind) (usable c.args.tests.now) c.args.columns.now c.args.fixed _ c.requires
    (ap Some (here.1 0) ∙ sym (slice_get-get_or c.args.columns.now c.args.fixed 0 here.0))

pub returns-in-None : goal.returns-in-None
returns-in-None c =
    next_at (said_by c.args.kind) (usable c.args.tests.now) c.args.columns.now c.args.fixed None c.requires
    (sym (slice_get_past c.args.columns.now c.args.fixed c.in-None.ensures.lookup.3))
