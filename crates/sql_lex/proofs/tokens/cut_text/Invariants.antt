use Rattle.std.proofs.Common.{length, IsUtf8}
use Rattle.sql_lex.proofs.Lexing.{IsLexedUpTo}
use Rattle.sql_lex.proofs.tokens.cut_text.Given as goal

abbrev pub invariant-loop-rest : goal.invariant-loop-rest
invariant-loop-rest l = record {
  lexed : IsLexedUpTo l.text l.tokens.items l.rest;
  utf8 : IsUtf8 l.rest;
}

abbrev pub decreases-loop-rest : goal.decreases-loop-rest
decreases-loop-rest l = length l.rest
