use Rattle.std.proofs.Common.{length, string_bytes, IsUtf8}
use Rattle.sql_lex.proofs.Quotes.{IsReadUpTo}
use Rattle.sql_lex.proofs.quoted.content_of.Given as goal

abbrev pub invariant-loop-plain : goal.invariant-loop-plain
invariant-loop-plain l = record {
  read : IsReadUpTo l.quoted (string_bytes l.content) l.rest;
  utf8 : IsUtf8 l.rest;
}

abbrev pub decreases-loop-plain : goal.decreases-loop-plain
decreases-loop-plain l = length l.rest
