-- the tests so far are true
use Rattle.std.proofs.Common.{◌≡◌, ◌++◌, drop}
use Rattle.sql_expr.specs.Conditions.{kept}
use Rattle.sql_expr.proofs.condition.keeps.Given as goal

abbrev pub invariant-loop-test : goal.invariant-loop-test
invariant-loop-test l = kept (l.left ++ l.right) l.tests ≡ kept (l.left ++ l.right) (drop l.test-index l.tests)
