-- Inner: expressions, read one token at a time from the left: what is open, and what a token does to it.
use Rattle.std.specs.Prelude.{◌+◌, ℕ, Bool, true, false, nat_le, nat_lt, if◌then◌else◌, List, [], ◌∷◌, length, Option, Some, None, Result, Ok, Err, pos, neg_ℤ}
use Rattle.geo_base.specs.declared.cell.Cell.TheVariants as cell
use Rattle.sql_ast.specs.declared.ast.Ast.{Ast}
use Rattle.sql_ast.specs.declared.ast.Ast.TheVariants as ast
use Rattle.sql_ast.specs.declared.ast.AstOp.{AstOp}
use Rattle.sql_lex.specs.declared.keyword.Keyword.TheVariants.{KNot, KIs, KNull, KTrue, KFalse}
use Rattle.sql_lex.specs.declared.symbol.Symbol.TheVariants as symbol
use Rattle.sql_lex.specs.declared.token.TokenKind.{TokenKind}
use Rattle.sql_lex.specs.declared.token.TokenKind.TheVariants as kind
use Rattle.sql_parse.specs.declared.limits.TheConstants.{MAX_OPERATORS, MAX_OPENINGS}
use Rattle.sql_parse.specs.declared.stop.Stop.{Stop}
use Rattle.sql_parse.specs.declared.stop.Stop.TheVariants.{Stuck, Deep}
use Rattle.sql_parse.specs.declared.expression.frame.Frame.{Frame}
use Rattle.sql_parse.specs.declared.expression.frame.Frame.TheVariants as frame
use Rattle.sql_parse.specs.declared.expression.reader.Mode.{Mode}
use Rattle.sql_parse.specs.declared.expression.reader.Mode.TheVariants as mode
use Rattle.sql_parse.specs.declared.expression.reader.Reader.{Reader}
use Rattle.sql_parse.specs.declared.expression.reader.Move.{Move}
use Rattle.sql_parse.specs.declared.expression.reader.Move.TheVariants as move
use Rattle.sql_parse.specs.Kinds.{integer_of}
use Rattle.sql_parse.specs.inner.Kinds.{operator_of, is_keyword, is_symbol}
use Rattle.sql_parse.specs.inner.Levels.{level_of, left_of, right_of, not_level, test_level, sum_level, sign_level, whole_level}
use Rattle.sql_parse.specs.Grammar.{begins_integer}

-- ---- what is open

-- how tight an operand has to be for what is open around it
abbrev pub wanted : List Frame → ℕ
wanted [] = 0
wanted (frame.Paren ∷ frames) = 0
wanted (frame.Minus ∷ frames) = sign_level
wanted (frame.Not ∷ frames) = not_level
wanted (frame.Left operator a ∷ frames) = right_of operator

-- What is open is closed by what comes behind its operand, where that is no tighter. A parenthesis isn't.
abbrev pub is_closed : ℕ → Frame → Bool
is_closed bound frame.Paren = false
is_closed bound frame.Minus = nat_le bound sign_level
is_closed bound frame.Not = nat_le bound not_level
is_closed bound (frame.Left operator a) = nat_le bound (level_of operator)

-- what is open with its operand
abbrev pub applied : Frame → Ast → Ast
applied frame.Paren operand = operand
applied frame.Minus operand = ast.Neg operand
applied frame.Not operand = ast.Not operand
applied (frame.Left operator a) operand = ast.Binary operator a operand

-- how tight that holds together
abbrev pub frame_level : Frame → ℕ
frame_level frame.Paren = whole_level
frame_level frame.Minus = sign_level
frame_level frame.Not = not_level
frame_level (frame.Left operator a) = level_of operator

-- an operand that is whole, and what is open around it
pub record Held : Type 0 where
  pub value : Ast
  pub level : ℕ
  pub frames : List Frame

-- all is closed that something of this level closes
abbrev pub settled : ℕ → Ast → ℕ → List Frame → Held
settled bound value level [] = record { value = value; level = level; frames = [] }
settled bound value level (frame ∷ frames) =
    if is_closed bound frame then settled bound (applied frame value) (frame_level frame) frames
    else record { value = value; level = level; frames = frame ∷ frames }

-- ---- readers

abbrev pub reader_in : Mode → List Frame → Reader → Reader
reader_in mode frames reader = record reader { mode = mode; frames = frames }

-- nothing was read
abbrev pub start : Reader
start = record { mode = mode.Operand; frames = []; operators = 0; openings = 0 }

-- what a token does to a reader
pub data Step : Type 0 where
  -- it belongs to the expression, which is read up to it now
  Goes : Reader → Step
  -- the expression ends before it
  Ends : Ast → Step
  -- no expression goes on or ends with it
  Refuses : Step
  -- it is one operator or one opening parenthesis too many
  Deepens : Step

-- that, as it is answered beside the reader that goes on
abbrev pub moved : Move → Reader → Step
moved move.Goes reader = Goes reader
moved (move.Ends value) reader = Ends value
moved move.Refuses reader = Refuses
moved move.Deepens reader = Deepens

-- one operator more was read
abbrev pub with_operator : Mode → List Frame → Reader → Step
with_operator mode frames reader =
    if nat_lt reader.operators MAX_OPERATORS
    then Goes (record { mode = mode; frames = frames; operators = reader.operators + 1; openings = reader.openings })
    else Deepens

-- one opening parenthesis more was read
abbrev pub with_opening : Mode → List Frame → Reader → Step
with_opening mode frames reader =
    if nat_lt reader.openings MAX_OPENINGS
    then Goes (record { mode = mode; frames = frames; operators = reader.operators; openings = reader.openings + 1 })
    else Deepens

abbrev pub literal : Reader → Ast → Step
literal reader value = Goes (reader_in (mode.Complete value whole_level) reader.frames reader)

-- ---- tokens

-- a minus sign where an operand has to begin: a literal's where an integer follows, and else an operator
abbrev pub signed : Reader → Bool → Step
signed reader true = Goes (reader_in mode.Negative reader.frames reader)
signed reader false = with_operator mode.Operand (frame.Minus ∷ reader.frames) reader

-- an integer where an operand has to begin
abbrev pub number : Reader → Option ℕ → Step
number reader (Some n) = literal reader (ast.Lit (cell.Int (pos n)))
number reader None = Refuses

-- an integer behind its minus sign
abbrev pub negative : Reader → Option ℕ → Step
negative reader (Some n) = literal reader (ast.Lit (cell.Int (neg_ℤ (pos n))))
negative reader None = Refuses

-- NOT where an operand has to begin: not inside what is tighter
abbrev pub denied : Reader → Step
denied reader = if nat_le (wanted reader.frames) not_level then with_operator mode.Operand (frame.Not ∷ reader.frames) reader else Refuses

-- the token where an operand has to begin
unfoldable pub operand_step : Reader → TokenKind → Bool → Step
operand_step reader (kind.Symbol symbol.Minus) before_integer = signed reader before_integer
operand_step reader (kind.Symbol symbol.Open) before_integer = with_opening mode.Operand (frame.Paren ∷ reader.frames) reader
operand_step reader (kind.Keyword KNot) before_integer = denied reader
operand_step reader (kind.Keyword KNull) before_integer = literal reader (ast.Lit cell.Null)
operand_step reader (kind.Keyword KTrue) before_integer = literal reader (ast.Lit (cell.Truth true))
operand_step reader (kind.Keyword KFalse) before_integer = literal reader (ast.Lit (cell.Truth false))
operand_step reader (kind.Text text) before_integer = literal reader (ast.Lit (cell.Text text))
operand_step reader (kind.Name name) before_integer = Goes (reader_in (mode.Named name) reader.frames reader)
operand_step reader token before_integer = number reader (integer_of token)

-- an operator behind an operand, where the operand may be its left one
abbrev pub infix_step : Reader → AstOp → Held → Step
infix_step reader operator held =
    if nat_le (left_of operator) held.level
    then with_operator mode.Operand (frame.Left operator held.value ∷ held.frames) reader
    else Refuses

-- IS behind an operand
abbrev pub is_step : Reader → Held → Step
is_step reader held = if nat_le sum_level held.level then with_operator (mode.Is held.value) held.frames reader else Refuses

-- the parenthesis that closes the innermost open one; where none is open, the expression is over
abbrev pub close_step : Reader → Held → List Frame → Step
close_step reader held [] = Ends held.value
close_step reader held (frame ∷ frames) = Goes (reader_in (mode.Complete held.value whole_level) frames reader)

-- another token behind an operand: the expression is over, where no parenthesis is open
abbrev pub end_step : Held → List Frame → Step
end_step held [] = Ends held.value
end_step held (frame ∷ frames) = Refuses

abbrev pub behind_step : Reader → Ast → ℕ → TokenKind → Option AstOp → Step
behind_step reader value level token (Some operator) = infix_step reader operator (settled (level_of operator) value level reader.frames)
behind_step reader value level token None =
    if is_keyword KIs token then is_step reader (settled test_level value level reader.frames)
    else (if is_symbol symbol.Close token then close_step reader (settled 0 value level reader.frames) (settled 0 value level reader.frames).frames
    else end_step (settled 0 value level reader.frames) (settled 0 value level reader.frames).frames)

-- the token behind a whole operand
unfoldable pub complete_step : Reader → Ast → ℕ → TokenKind → Step
complete_step reader value level token = behind_step reader value level token (operator_of token)

abbrev pub column : Option (List ℕ) → List ℕ → Ast
column table name = ast.Column (record { table = table; name = name })

-- the token behind a name
abbrev pub named_step : Reader → List ℕ → TokenKind → Step
named_step reader name token =
    if is_symbol symbol.Dot token then Goes (reader_in (mode.Qualified name) reader.frames reader)
    else complete_step reader (column None name) whole_level token

-- the token behind a name and a dot
abbrev pub qualified_step : Reader → List ℕ → TokenKind → Step
qualified_step reader table (kind.Name name) = literal reader (column (Some table) name)
qualified_step reader table _ = Refuses

abbrev pub null_test : Reader → Ast → Bool → Step
null_test reader value is_not = Goes (reader_in (mode.Complete (ast.IsNull value is_not) test_level) reader.frames reader)

-- the token behind IS
abbrev pub is_behind_step : Reader → Ast → TokenKind → Step
is_behind_step reader value token =
    if is_keyword KNull token then null_test reader value false
    else (if is_keyword KNot token then Goes (reader_in (mode.IsNot value) reader.frames reader) else Refuses)

-- the token behind IS NOT
abbrev pub is_not_step : Reader → Ast → TokenKind → Step
is_not_step reader value token = if is_keyword KNull token then null_test reader value true else Refuses

-- what the token does, where it is told whether an integer follows
abbrev pub step_in : Mode → Reader → TokenKind → Bool → Step
step_in mode.Operand reader token before_integer = operand_step reader token before_integer
step_in mode.Negative reader token before_integer = negative reader (integer_of token)
step_in (mode.Named name) reader token before_integer = named_step reader name token
step_in (mode.Qualified table) reader token before_integer = qualified_step reader table token
step_in (mode.Complete value level) reader token before_integer = complete_step reader value level token
step_in (mode.Is value) reader token before_integer = is_behind_step reader value token
step_in (mode.IsNot value) reader token before_integer = is_not_step reader value token

unfoldable pub step : Reader → TokenKind → Bool → Step
step reader token before_integer = step_in reader.mode reader token before_integer

-- ---- whole expressions

abbrev pub closed : Held → List Frame → Option Ast
closed held [] = Some held.value
closed held (frame ∷ frames) = None

abbrev pub whole : Ast → ℕ → List Frame → Option Ast
whole value level frames = closed (settled 0 value level frames) (settled 0 value level frames).frames

abbrev pub finished_in : Mode → List Frame → Option Ast
finished_in (mode.Complete value level) frames = whole value level frames
finished_in (mode.Named name) frames = whole (column None name) whole_level frames
finished_in _ frames = None

-- the expression that was read, where all tokens were
unfoldable pub finished : Reader → Option Ast
finished reader = finished_in reader.mode reader.frames

abbrev pub at_end : Option Ast → Result (Ast × List TokenKind) Stop
at_end (Some value) = Ok (value, [])
at_end None = Err (Stuck 0)

-- what is done at a token, where this is read of those behind it
abbrev pub by_step : TokenKind → List TokenKind → (Reader → Result (Ast × List TokenKind) Stop) → Step → Result (Ast × List TokenKind) Stop
by_step token more go (Goes reader) = go reader
by_step token more go (Ends value) = Ok (value, token ∷ more)
by_step token more go Refuses = Err (Stuck (length (token ∷ more)))
by_step token more go Deepens = Err (Deep (length (token ∷ more)))

-- the expression that the tokens go on with, and the tokens behind it
unfoldable pub run : Reader → List TokenKind → Result (Ast × List TokenKind) Stop
run reader [] = at_end (finished reader)
run reader (token ∷ more) = by_step token more (λ next. run next more) (step reader token (begins_integer more))
