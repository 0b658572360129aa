-- Inner: statements, read from the left by one function for each line of the grammar.
use Rattle.std.specs.Prelude.{ℕ, zero, suc, Bool, true, false, if◌then◌else◌, List, [], ◌∷◌, length, drop, Option, Some, None, Result, Ok, Err}
use Rattle.geo_base.specs.Results.{Gives}
use Rattle.sql_ast.specs.declared.ast.Ast.{Ast}
use Rattle.sql_ast.specs.declared.ast.ColRef.{ColRef}
use Rattle.sql_ast.specs.declared.delete.DeleteStmt.{DeleteStmt}
use Rattle.sql_ast.specs.declared.insert.AstRow.{AstRow}
use Rattle.sql_ast.specs.declared.insert.InsertStmt.{InsertStmt}
use Rattle.sql_ast.specs.declared.select.AstItem.{AstItem}
use Rattle.sql_ast.specs.declared.select.AstValue.{AstValue}
use Rattle.sql_ast.specs.declared.select.AstValue.TheVariants.{Plain, CountAll, Count, Sum, Min, Max}
use Rattle.sql_ast.specs.declared.select.Items.{Items}
use Rattle.sql_ast.specs.declared.select.Items.TheVariants as of_items
use Rattle.sql_ast.specs.declared.select.JoinRef.{JoinRef}
use Rattle.sql_ast.specs.declared.select.OrderRef.{OrderRef}
use Rattle.sql_ast.specs.declared.select.SelectStmt.{SelectStmt}
use Rattle.sql_ast.specs.declared.select.TableRef.{TableRef}
use Rattle.sql_ast.specs.declared.statement.Statement.{Statement}
use Rattle.sql_ast.specs.declared.statement.Statement.TheVariants as of_statement
use Rattle.sql_ast.specs.declared.update.AstSet.{AstSet}
use Rattle.sql_ast.specs.declared.update.UpdateStmt.{UpdateStmt}
use Rattle.sql_lex.specs.declared.keyword.Keyword.{Keyword}
use Rattle.sql_lex.specs.declared.keyword.Keyword.TheVariants.{KSelect, KInsert, KInto, KValues, KUpdate, KSet, KDelete, KFrom, KWhere, KJoin, KOn, KGroup, KBy, KOrder, KAsc, KDesc, KLimit, KAs, KBegin, KOf, KEpoch, KCommit, KRollback, KExplain, KCount, KSum, KMin, KMax, KFor}
use Rattle.sql_lex.specs.declared.symbol.Symbol.{Symbol}
use Rattle.sql_lex.specs.declared.symbol.Symbol.TheVariants.{Open, Close, Comma, Dot, Star, Equal}
use Rattle.sql_lex.specs.declared.token.TokenKind.{TokenKind}
use Rattle.sql_lex.specs.declared.token.TokenKind.TheVariants as kind
use Rattle.sql_parse.specs.declared.stop.Stop.{Stop}
use Rattle.sql_parse.specs.declared.stop.Stop.TheVariants.{Stuck, NoMemory}
use Rattle.sql_parse.specs.Kinds.{integer_of}
use Rattle.sql_parse.specs.inner.Kinds.{is_keyword, is_symbol}
use Rattle.sql_parse.specs.inner.Expressions.{run, start}

-- ---- readers

abbrev pub Outcome : Type 0 → Type 0
Outcome A = Result (A × List TokenKind) Stop

-- what the tokens begin with, and those behind it; or where that stops
abbrev pub Parser : Type 0 → Type 0
Parser A = List TokenKind → Outcome A

abbrev pub and_then : {A B : Type 0} → Outcome A → (A → Parser B) → Outcome B
and_then (Ok read) f = f read.0 read.1
and_then (Err stop) f = Err stop

infixl 10 ◌>->◌
abbrev pub ◌>->◌ : {A B : Type 0} → Parser A → (A → Parser B) → Parser B
p >-> f = λ tokens. and_then (p tokens) f

infixl 10 ◌>>◌
abbrev pub ◌>>◌ : {A B : Type 0} → Parser A → Parser B → Parser B
p >> q = p >-> (λ _. q)

abbrev pub pure : {A : Type 0} → A → Parser A
pure a = λ tokens. Ok (a, tokens)

infixr 11 ◌<$>◌
abbrev pub ◌<$>◌ : {A B : Type 0} → (A → B) → Parser A → Parser B
f <$> p = p >-> (λ x. pure (f x))

abbrev pub refuse : {A : Type 0} → Parser A
refuse tokens = Err (Stuck (length tokens))

-- ---- tokens

-- the first token, if there is one, is such
unfoldable pub begins : (TokenKind → Bool) → List TokenKind → Bool
begins test [] = false
begins test (token ∷ more) = test token

-- the tokens behind such a one
abbrev pub expected : (TokenKind → Bool) → Parser (Unit {0})
expected test tokens = if begins test tokens then Ok (tt, drop 1 tokens) else refuse tokens

unfoldable pub keyword : Keyword → Parser (Unit {0})
keyword k = expected (is_keyword k)

unfoldable pub symbol : Symbol → Parser (Unit {0})
symbol s = expected (is_symbol s)

unfoldable pub name : Parser (List ℕ)
name (kind.Name text ∷ more) = Ok (text, more)
name tokens = refuse tokens

abbrev pub number_from : Option ℕ → List TokenKind → List TokenKind → Outcome ℕ
number_from (Some n) tokens more = Ok (n, more)
number_from None tokens more = refuse tokens

unfoldable pub number : Parser ℕ
number [] = refuse []
number (token ∷ more) = number_from (integer_of token) (token ∷ more) more

-- ---- parts that may be missing, and lists

-- what the keyword introduces, if that comes next
abbrev pub after : {A : Type 0} → Keyword → Parser A → Parser (Option A)
after k p = λ tokens. if begins (is_keyword k) tokens then (keyword k >> Some <$> p) tokens else Ok (None, tokens)

-- at most so many more, each behind a comma
abbrev pub others : {A : Type 0} → ℕ → Parser A → Parser (List A)
others zero p tokens = Ok ([], tokens)
others (suc n) p tokens =
    if begins (is_symbol Comma) tokens
    then (symbol Comma >> p >-> (λ first. others n p >-> (λ more. pure (first ∷ more)))) tokens
    else Ok ([], tokens)

-- one or more, with commas between them
abbrev pub separated : {A : Type 0} → Parser A → Parser (List A)
separated p = p >-> (λ first. (λ tokens. others (length tokens) p tokens) >-> (λ more. pure (first ∷ more)))

-- ---- queries

unfoldable pub expression : Parser Ast
expression = run start

abbrev pub qualified : List ℕ → Parser ColRef
qualified first tokens =
    if begins (is_symbol Dot) tokens
    then (symbol Dot >> name >-> (λ second. pure (record { table = Some first; name = second }))) tokens
    else Ok (record { table = None; name = first }, tokens)

unfoldable pub column : Parser ColRef
column = name >-> qualified

unfoldable pub alias : Parser (Option (List ℕ))
alias = after KAs name

unfoldable pub table : Parser TableRef
table = name >-> (λ n. alias >-> (λ a. pure (record { name = n; alias = a })))

-- the argument of an aggregate
unfoldable pub argument : Parser Ast
argument = symbol Open >> expression >-> (λ e. symbol Close >> pure e)

abbrev pub counted : Parser AstValue
counted tokens =
    if begins (is_symbol Star) tokens then (symbol Star >> symbol Close >> pure CountAll) tokens
    else (expression >-> (λ e. symbol Close >> pure (Count e))) tokens

-- what stands in the parentheses behind COUNT
unfoldable pub count : Parser AstValue
count = symbol Open >> counted

unfoldable pub item_value : Parser AstValue
item_value tokens =
    if begins (is_keyword KCount) tokens then (keyword KCount >> count) tokens
    else (if begins (is_keyword KSum) tokens then (keyword KSum >> Sum <$> argument) tokens
    else (if begins (is_keyword KMin) tokens then (keyword KMin >> Min <$> argument) tokens
    else (if begins (is_keyword KMax) tokens then (keyword KMax >> Max <$> argument) tokens
    else (Plain <$> expression) tokens)))

unfoldable pub item : Parser AstItem
item = item_value >-> (λ v. alias >-> (λ a. pure (record { value = v; alias = a })))

unfoldable pub items : Parser Items
items tokens =
    if begins (is_symbol Star) tokens then (symbol Star >> pure of_items.All) tokens else (of_items.List <$> separated item) tokens

unfoldable pub joined : Parser JoinRef
joined = table >-> (λ t. keyword KOn >> expression >-> (λ e. pure (record { table = t; on = e })))

unfoldable pub join : Parser (Option JoinRef)
join = after KJoin joined

unfoldable pub filter : Parser (Option Ast)
filter = after KWhere expression

-- the list that two keywords introduce, if the first comes next
abbrev pub clause : {A : Type 0} → Keyword → Parser A → Parser (List A)
clause k p = λ tokens. if begins (is_keyword k) tokens then (keyword k >> keyword KBy >> separated p) tokens else Ok ([], tokens)

unfoldable pub group : Parser (List ColRef)
group = clause KGroup column

-- whether DESC comes next. ASC may, and says nothing.
unfoldable pub descending : Parser Bool
descending tokens =
    if begins (is_keyword KDesc) tokens then (keyword KDesc >> pure true) tokens
    else (if begins (is_keyword KAsc) tokens then (keyword KAsc >> pure false) tokens else Ok (false, tokens))

unfoldable pub ordered : Parser OrderRef
ordered = column >-> (λ c. descending >-> (λ d. pure (record { column = c; descending = d })))

unfoldable pub order : Parser (List OrderRef)
order = clause KOrder ordered

unfoldable pub limit : Parser (Option ℕ)
limit = after KLimit number

-- what stands behind the word SELECT
unfoldable pub select : Parser SelectStmt
select =
    items >-> (λ i. keyword KFrom >> table >-> (λ t. join >-> (λ j. filter >-> (λ f. group >-> (λ g. order >-> (λ o. limit >-> (λ l.
    pure (record { items = i; left = t; right = j; filter = f; group = g; order = o; limit = l }))))))))

-- ---- statements that write

unfoldable pub row : Parser AstRow
row = symbol Open >> separated expression >-> (λ values. symbol Close >> pure (record { values = values }))

-- the columns that are listed behind the table's name, or none
unfoldable pub columns : Parser (List (List ℕ))
columns tokens =
    if begins (is_symbol Open) tokens then (symbol Open >> separated name >-> (λ names. symbol Close >> pure names)) tokens else Ok ([], tokens)

-- what stands behind the word INSERT
unfoldable pub insert : Parser InsertStmt
insert =
    keyword KInto >> name >-> (λ t. columns >-> (λ c. keyword KValues >> separated row >-> (λ r.
    pure (record { table = t; columns = c; rows = r }))))

unfoldable pub set : Parser AstSet
set = name >-> (λ c. symbol Equal >> expression >-> (λ e. pure (record { column = c; value = e })))

-- what stands behind the word UPDATE
unfoldable pub update : Parser UpdateStmt
update = name >-> (λ t. keyword KSet >> separated set >-> (λ s. filter >-> (λ f. pure (record { table = t; sets = s; filter = f }))))

-- what stands behind the word DELETE
unfoldable pub delete : Parser DeleteStmt
delete = keyword KFrom >> name >-> (λ t. filter >-> (λ f. pure (record { table = t; filter = f })))

-- ---- all statements

-- whether FOR UPDATE comes next
unfoldable pub for_update : Parser Bool
for_update tokens = if begins (is_keyword KFor) tokens then (keyword KFor >> keyword KUpdate >> pure true) tokens else Ok (false, tokens)

abbrev pub query_statement : SelectStmt → Bool → Statement
query_statement select true = of_statement.SelectForUpdate select
query_statement select false = of_statement.Select select

-- what stands behind the word SELECT that begins a statement
unfoldable pub query : Parser Statement
query = select >-> (λ s. query_statement s <$> for_update)

-- what stands behind the word BEGIN
unfoldable pub begin : Parser Statement
begin tokens =
    if begins (is_keyword KAs) tokens then (keyword KAs >> keyword KOf >> keyword KEpoch >> of_statement.BeginAsOf <$> number) tokens
    else Ok (of_statement.Begin, tokens)

abbrev pub statement_by : TokenKind → Parser Statement
statement_by (kind.Keyword KSelect) = keyword KSelect >> query
statement_by (kind.Keyword KInsert) = keyword KInsert >> of_statement.Insert <$> insert
statement_by (kind.Keyword KUpdate) = keyword KUpdate >> of_statement.Update <$> update
statement_by (kind.Keyword KDelete) = keyword KDelete >> of_statement.Delete <$> delete
statement_by (kind.Keyword KBegin) = keyword KBegin >> begin
statement_by (kind.Keyword KCommit) = keyword KCommit >> pure of_statement.Commit
statement_by (kind.Keyword KRollback) = keyword KRollback >> pure of_statement.Rollback
statement_by (kind.Keyword KExplain) = keyword KExplain >> keyword KSelect >> of_statement.Explain <$> select
statement_by _ = refuse

unfoldable pub statement : Parser Statement
statement [] = refuse []
statement (token ∷ more) = statement_by token (token ∷ more)

-- nothing is left
abbrev pub ended : {A : Type 0} → A → List TokenKind → Result A Stop
ended a [] = Ok a
ended a (token ∷ more) = Err (Stuck (length (token ∷ more)))

abbrev pub to_end : {A : Type 0} → Outcome A → Result A Stop
to_end (Ok read) = ended read.0 read.1
to_end (Err stop) = Err stop

-- the statement that all the tokens are
unfoldable pub whole : List TokenKind → Result Statement Stop
whole tokens = to_end (statement tokens)

-- ---- what a function that reads ensures: the parser's outcome, unless there was no memory

abbrev pub Parses : {A : Type 0} → Outcome A → Result A Stop → List TokenKind → Type 0
Parses outcome result new = Gives NoMemory (λ a. (a, new)) result outcome
