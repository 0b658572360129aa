use Rattle.std.proofs.Common.{ℕ, ◌||◌, ◌∙◌}
use Rattle.sql_plan.specs.Plans.{is_bounded, is_fixed}
use Rattle.sql_plan.specs.inner.Borrowed.{usable}
use Rattle.sql_plan.proofs.Chosen.{first_none, first_some}
use Rattle.sql_plan.proofs.access.begins_tested.Goals as goal

pub returns-in-Some : goal.returns-in-Some
returns-in-Some c =
    c.is_tested.ensures
    ∙ first_some (λ (column : ℕ). is_fixed (usable c.args.tests.now) column || is_bounded (usable c.args.tests.now) column) c.args.columns.now _ c.in-Some.ensures.value

pub returns-in-None : goal.returns-in-None
returns-in-None c =
    first_none (λ (column : ℕ). is_fixed (usable c.args.tests.now) column || is_bounded (usable c.args.tests.now) column) c.args.columns.now c.in-None.ensures.value
