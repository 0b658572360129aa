use Rattle.std.proofs.Common.{◌≡◌, ◌∙◌, Some, None, Err, length, sym, ap, inr}
use Rattle.sql_parse.specs.declared.stop.Stop.TheVariants.{Stuck, Deep}
use Rattle.sql_parse.specs.inner.Expressions.{Goes, Ends, Refuses, Deepens, step, finished, run}
use Rattle.sql_parse.specs.Grammar.{begins_integer}
use Rattle.sql_parse.proofs.CodeExpressions.{step_here, run-goes, run-ends, run-refuses, run-deepens, run-finished, run-unfinished}
use Rattle.sql_parse.proofs.expression.read_on.Goals as goal

pub returns-in-Ends : goal.returns-in-Ends
returns-in-Ends c =
    let next = c.in-Some.ensures in
    let did : step c.loop-token.reader c.in-Some.token.now (begins_integer next.0) ≡ Ends c.in-Ends.value
    = step_here _ c.step.new.reader _ _ _ _ _ next.2 c.in-Ends.is c.in_ok-step.ensures in
    c.loop-token.invariant ∙ run-ends _ _ _ _ _ next.1 did

pub returns-in-Refuses : goal.returns-in-Refuses
returns-in-Refuses c =
    let next = c.in-Some.ensures in
    let did : step c.loop-token.reader c.in-Some.token.now (begins_integer next.0) ≡ Refuses
    = step_here _ c.step.new.reader _ _ _ _ _ next.2 c.in-Refuses.is c.in_ok-step.ensures in
    let stuck : run c.args.reader.now c.args.cursor.now ≡ Err (Stuck (length c.loop-token.cursor)) = c.loop-token.invariant ∙ run-refuses _ _ _ _ next.1 did in
    rw c.refuse.ensures (inr stuck)

pub returns-in-Deepens : goal.returns-in-Deepens
returns-in-Deepens c =
    let next = c.in-Some.ensures in
    let did : step c.loop-token.reader c.in-Some.token.now (begins_integer next.0) ≡ Deepens
    = step_here _ c.step.new.reader _ _ _ _ _ next.2 c.in-Deepens.is c.in_ok-step.ensures in
    inr (c.loop-token.invariant ∙ run-deepens _ _ _ _ next.1 did ∙ sym (ap (λ n. Err (Deep n)) c.left.ensures))

pub loop-token-preserved : goal.loop-token-preserved
loop-token-preserved c =
    let next = c.in-Some.ensures in
    let did : step c.loop-token.reader c.in-Some.token.now (begins_integer next.0) ≡ Goes c.step.new.reader
    = step_here _ c.step.new.reader _ _ _ _ _ next.2 c.in-Goes.is c.in_ok-step.ensures in
    c.loop-token.invariant ∙ run-goes _ _ _ _ _ next.1 did ∙ sym (ap (λ l. run c.step.new.reader l) c.skip.ensures)

pub returns-in-Some-2 : goal.returns-in-Some-2
returns-in-Some-2 c =
    let done : finished c.loop-token.reader ≡ Some c.in-Some-2.value = sym c.in_ok-value.ensures ∙ c.in-Some-2.is in
    c.loop-token.invariant ∙ run-finished _ _ _ c.in_default.ensures done

pub returns-in-None : goal.returns-in-None
returns-in-None c =
    let undone : finished c.loop-token.reader ≡ None = sym c.in_ok-value.ensures ∙ c.in-None.is in
    let stuck : run c.args.reader.now c.args.cursor.now ≡ Err (Stuck (length c.loop-token.cursor)) = c.loop-token.invariant ∙ run-unfinished _ _ c.in_default.ensures undone in
    rw c.refuse-in-None.ensures (inr stuck)
