use Rattle.std.proofs.Common.{◌≡◌, length}
use Rattle.sql_parse.specs.inner.Expressions as spec
use Rattle.sql_parse.proofs.expression.settle.settle.Given as goal

abbrev pub invariant-loop-frame : goal.invariant-loop-frame
invariant-loop-frame l = spec.settled l.bound l.fn.operand l.operand_level l.fn.frames ≡ spec.settled l.bound l.value l.level l.frames

abbrev pub decreases-loop-frame : goal.decreases-loop-frame
decreases-loop-frame l = length l.frames
