use Rattle.std.proofs.Common.{◌≡◌, length}
use Rattle.sql_parse.specs.inner.Expressions.{run}
use Rattle.sql_parse.proofs.expression.read_on.Given as goal

abbrev pub invariant-loop-token : goal.invariant-loop-token
invariant-loop-token l = run l.fn.reader l.fn.cursor ≡ run l.reader l.cursor

abbrev pub decreases-loop-token : goal.decreases-loop-token
decreases-loop-token l = length l.cursor
