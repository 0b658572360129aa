use Rattle.std.proofs.Common.{◌-◌}
use Rattle.sql_parse.specs.inner.Reading.{separated}
use Rattle.sql_parse.proofs.CodeLists.{IsReadUpTo}
use Rattle.sql_parse.proofs.list.read_separated.Given as goal

abbrev pub invariant-loop-turn : goal.invariant-loop-turn
invariant-loop-turn g l = IsReadUpTo g.T.Part.reader (separated g.T.Part.reader l.fn.cursor) l.parts.items (l._turn-end - l._turn) l.cursor
