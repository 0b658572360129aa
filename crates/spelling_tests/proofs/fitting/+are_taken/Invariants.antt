use Rattle.std.proofs.Common.{length}
use Rattle.spelling_tests.proofs.fitting.+are_taken.Given as goal

-- each turn takes a cell
abbrev pub decreases-are_taken : goal.decreases-are_taken
decreases-are_taken l = length l.cells.now
