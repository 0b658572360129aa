-- Marks of a text, by what its tokens are.
use Rattle.std.proofs.Common.{◌≡◌, ℕ, List, map, Some, None, Result, Ok, Err, refl, sym, ap, ◌⊎◌, inl, inr}
use Rattle.sql_lex.specs.declared.token.LexFault.{LexFault}
use Rattle.sql_lex.specs.declared.token.LexFault.TheVariants.{BadText, NoMemory}
use Rattle.sql_lex.specs.declared.token.Token.{Token}
use Rattle.sql_lex.specs.inner.Tokens.{tokens_of}
use Rattle.sql_lex.specs.Grammar.{AreTokensOf, IsLexFault}
use Rattle.sql_lex.specs.laws.Cuts.{tokens_are_cut, cut_is_tokens, tokens_tell}
use Rattle.schema_text.specs.declared.mark.Mark.{Mark}
use Rattle.schema_text.specs.Marks.{mark_of}
use Rattle.schema_text.specs.inner.Marks.{if_tokens, marks_of}
use Rattle.schema_text.specs.Spelling.{HasMarks}
use Rattle.schema_text.specs.laws.Inversions.{some_same}

marks_from : (text : List ℕ) (marks : List Mark) (r : Result (List Token) LexFault) → tokens_of text ≡ r → if_tokens r ≡ Some marks → HasMarks text marks
marks_from text marks (Ok tokens) is found = (tokens, tokens_are_cut text tokens is, sym (some_same found))
marks_from text marks (Err fault) is found = cc

pub marks_are : (text : List ℕ) (marks : List Mark) → marks_of text ≡ Some marks → HasMarks text marks
unfolding marks_of
marks_are text marks is = marks_from text marks (tokens_of text) refl is

pub marks_read : (text : List ℕ) (marks : List Mark) → HasMarks text marks → marks_of text ≡ Some marks
unfolding marks_of
marks_read text marks (tokens, are, is) = rw (cut_is_tokens text tokens are) (ap Some (sym is))

-- the marks of a text that is cut into these tokens
pub cut_marks : (text : List ℕ) (tokens : List Token) → AreTokensOf tokens text → marks_of text ≡ Some (map (λ token. mark_of token.kind) tokens)
cut_marks text tokens are = marks_read text (map (λ token. mark_of token.kind) tokens) (tokens, are, refl)

-- a text that stops at a place has none
pub stop_marks : (text : List ℕ) (fault : LexFault) (at : ℕ) → fault ≡ BadText at → (fault ≡ NoMemory) ⊎ IsLexFault text fault → marks_of text ≡ None
unfolding marks_of
stop_marks text fault at is (inl memory) = cc
stop_marks text fault at is (inr has) = rw ((tokens_tell text).refused fault has) refl
