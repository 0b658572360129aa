use Rattle.std.proofs.Common.{◌≡◌, ℕ, ap, ◌∙◌, arith}
use Rattle.sql_plan.specs.Plans.{first_test}
use Rattle.sql_plan.specs.inner.Borrowed.{said_by, usable}
use Rattle.sql_plan.proofs.tests.first_test.Goals as goal

pub returns : goal.returns
unfolding usable
returns c =
    let same : c.from.result ≡ c.args.column = omega arith in
    c.find_test.ensures ∙ ap (λ (n : ℕ). first_test (said_by c.args.kind) (usable c.args.tests.now) n) same
