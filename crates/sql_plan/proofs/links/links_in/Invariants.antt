-- the usable links of the expressions so far are found
use Rattle.std.proofs.Common.{◌≡◌, map, take}
use Rattle.std.specs.List.{filter_map}
use Rattle.sql_expr.specs.declared.expr.Expr.{out-Expr}
use Rattle.sql_plan.specs.Tests.{link_in}
use Rattle.sql_plan.specs.inner.Borrowed.{seen_link}
use Rattle.sql_plan.proofs.links.links_in.Given as goal

abbrev pub invariant-loop-test : goal.invariant-loop-test
invariant-loop-test l = map seen_link l.found.items ≡ filter_map (λ e. link_in l.lefts l.rights (out-Expr e)) (take l.test-index l.safe)
