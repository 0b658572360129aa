use Rattle.sql_bind.proofs.Conjuncts.{after_both, after_other}
use Rattle.sql_bind.proofs.conditions.+push_conjuncts.Goals as goal

pub returns-in_ok-push_conjuncts-in-And-2 : goal.returns-in_ok-push_conjuncts-in-And-2
returns-in_ok-push_conjuncts-in-And-2 t c =
    after_both c.args.tests.now.items c.push_conjuncts.new.tests.items c.push_conjuncts-in-And.new.tests.items c.in-And.a c.in-And.b c.into_inner.result c.into_inner-in-And.result c.args.expr
    c.in-And.is c.into_inner.ensures c.into_inner-in-And.ensures c.in_ok-push_conjuncts-in-And.ensures c.in_ok-push_conjuncts-in-And-2.ensures

pub returns-in_ok-push-in_default : goal.returns-in_ok-push-in_default
returns-in_ok-push-in_default t c =
    after_other c.args.tests.now.items c.push.new.self.items c.args.expr c.in_default.not-And c.in_ok-push-in_default.ensures.items
