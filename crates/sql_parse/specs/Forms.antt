-- Statements as they are written: what stands in a statement's tokens.
use Rattle.std.specs.Prelude.{ℕ, Bool, true, false, List, [], ◌∷◌, ◌++◌, map, Option, Some, None, pos, unwrap_or}
use Rattle.std.specs.List.{flat_map, All}
use Rattle.std.specs.Option.{option_map}
use Rattle.sql_ast.specs.declared.ast.ColRef.{ColRef}
use Rattle.sql_ast.specs.declared.delete.DeleteStmt.{DeleteStmt}
use Rattle.sql_ast.specs.declared.insert.AstRow.{AstRow}
use Rattle.sql_ast.specs.declared.insert.InsertStmt.{InsertStmt}
use Rattle.sql_ast.specs.declared.select.AstItem.{AstItem}
use Rattle.sql_ast.specs.declared.select.AstValue.{AstValue}
use Rattle.sql_ast.specs.declared.select.AstValue.TheVariants as of_value
use Rattle.sql_ast.specs.declared.select.Items.{Items}
use Rattle.sql_ast.specs.declared.select.Items.TheVariants as of_items
use Rattle.sql_ast.specs.declared.select.JoinRef.{JoinRef}
use Rattle.sql_ast.specs.declared.select.OrderRef.{OrderRef}
use Rattle.sql_ast.specs.declared.select.SelectStmt.{SelectStmt}
use Rattle.sql_ast.specs.declared.select.TableRef.{TableRef}
use Rattle.sql_ast.specs.declared.statement.Statement.{Statement}
use Rattle.sql_ast.specs.declared.statement.Statement.TheVariants as of_statement
use Rattle.sql_ast.specs.declared.update.AstSet.{AstSet}
use Rattle.sql_ast.specs.declared.update.UpdateStmt.{UpdateStmt}
use Rattle.sql_lex.specs.declared.keyword.Keyword.{Keyword}
use Rattle.sql_lex.specs.declared.keyword.Keyword.TheVariants.{KSelect, KInsert, KInto, KValues, KUpdate, KSet, KDelete, KFrom, KWhere, KJoin, KOn, KGroup, KBy, KOrder, KAsc, KDesc, KLimit, KAs, KBegin, KOf, KEpoch, KCommit, KRollback, KExplain, KCount, KSum, KMin, KMax, KFor}
use Rattle.sql_lex.specs.declared.symbol.Symbol.{Symbol}
use Rattle.sql_lex.specs.declared.symbol.Symbol.TheVariants.{Open, Close, Comma, Equal}
use Rattle.sql_lex.specs.declared.symbol.Symbol.TheVariants as star
use Rattle.sql_lex.specs.declared.token.TokenKind.TheVariants as kind
use Rattle.sql_parse.specs.Trees.{Outside, Mark, mark, Tree, marks, value, column_kinds}
use Rattle.sql_parse.specs.Lines.{Expr, Stands}

-- ---- words

-- a keyword that belongs to no expression
abbrev pub word : Keyword → List Mark
word keyword = mark Outside (kind.Keyword keyword) ∷ []

-- a symbol that belongs to no expression
abbrev pub sign : Symbol → List Mark
sign symbol = mark Outside (kind.Symbol symbol) ∷ []

-- a name that belongs to no expression
abbrev pub name_marks : List ℕ → List Mark
name_marks name = mark Outside (kind.Name name) ∷ []

-- an integer that belongs to no expression
abbrev pub number_marks : ℕ → List Mark
number_marks n = mark Outside (kind.Int (pos n)) ∷ []

-- a column, behind the name of its table and a dot where that is written
abbrev pub column_marks : ColRef → List Mark
column_marks column = map (mark Outside) (column_kinds column)

-- what may be missing
abbrev pub maybe : {T : Type 0} → (T → List Mark) → Option T → List Mark
maybe written None = []
maybe written (Some part) = written part

-- one or more, with commas between them
pub record Several (T : Type 0) : Type 0 where
  pub first : T
  pub others : List T

-- the parts as one list
abbrev pub listed : {T : Type 0} → Several T → List T
listed several = several.first ∷ several.others

-- the tokens of each part, with a comma before each but the first
abbrev pub several_marks : {T : Type 0} → (T → List Mark) → Several T → List Mark
several_marks written several = written several.first ++ flat_map (λ other. sign Comma ++ written other) several.others

-- ---- queries

-- AS and a name, where one is given
abbrev pub alias_marks : Option (List ℕ) → List Mark
alias_marks alias = maybe (λ name. word KAs ++ name_marks name) alias

-- a table and the name that AS gives it
abbrev pub table_marks : TableRef → List Mark
table_marks table = name_marks table.name ++ alias_marks table.alias

-- what an item of a query is: an expression, or an aggregate of all rows or of an expression
pub data ValueForm : Type 0 where
  Plain : Tree → ValueForm
  CountAll : ValueForm
  Count : Tree → ValueForm
  Sum : Tree → ValueForm
  Min : Tree → ValueForm
  Max : Tree → ValueForm

-- an aggregate's keyword and its argument in parentheses
abbrev pub aggregate_marks : Keyword → List Mark → List Mark
aggregate_marks keyword argument = word keyword ++ sign Open ++ argument ++ sign Close

-- its tokens
abbrev pub value_marks : ValueForm → List Mark
value_marks (Plain e) = marks e
value_marks CountAll = aggregate_marks KCount (sign star.Star)
value_marks (Count e) = aggregate_marks KCount (marks e)
value_marks (Sum e) = aggregate_marks KSum (marks e)
value_marks (Min e) = aggregate_marks KMin (marks e)
value_marks (Max e) = aggregate_marks KMax (marks e)

-- the value that it is
abbrev pub value_of : ValueForm → AstValue
value_of (Plain e) = of_value.Plain (value e)
value_of CountAll = of_value.CountAll
value_of (Count e) = of_value.Count (value e)
value_of (Sum e) = of_value.Sum (value e)
value_of (Min e) = of_value.Min (value e)
value_of (Max e) = of_value.Max (value e)

-- its expression, if it has one, is such
abbrev pub IsValue : (Tree → Type 0) → ValueForm → Type 0
IsValue P (Plain e) = P e
IsValue P CountAll = Unit {0}
IsValue P (Count e) = P e
IsValue P (Sum e) = P e
IsValue P (Min e) = P e
IsValue P (Max e) = P e

-- an item of a query, and the name that AS gives it
pub record ItemForm : Type 0 where
  pub value : ValueForm
  pub alias : Option (List ℕ)

-- its tokens
abbrev pub item_marks : ItemForm → List Mark
item_marks item = value_marks item.value ++ alias_marks item.alias

-- the item that it is
abbrev pub item_of : ItemForm → AstItem
item_of item = record { value = value_of item.value; alias = item.alias }

-- its expression, if it has one, is such
abbrev pub IsItem : (Tree → Type 0) → ItemForm → Type 0
IsItem P item = IsValue P item.value

-- the items of a query: a star for all columns, or one or more that are listed
pub data ItemsForm : Type 0 where
  Star : ItemsForm
  Listed : Several ItemForm → ItemsForm

-- their tokens
abbrev pub items_marks : ItemsForm → List Mark
items_marks Star = sign star.Star
items_marks (Listed items) = several_marks item_marks items

-- the items that they are
abbrev pub items_of : ItemsForm → Items
items_of Star = of_items.All
items_of (Listed items) = of_items.List (map item_of (listed items))

-- the expressions of all items are such
abbrev pub AreItems : (Tree → Type 0) → ItemsForm → Type 0
AreItems P Star = Unit {0}
AreItems P (Listed items) = All (IsItem P) (listed items)

-- a second table and the condition on which its rows are joined
pub record JoinForm : Type 0 where
  pub table : TableRef
  pub on : Tree

-- its tokens
abbrev pub join_marks : JoinForm → List Mark
join_marks join = word KJoin ++ table_marks join.table ++ word KOn ++ marks join.on

-- the join that it is
abbrev pub join_of : JoinForm → JoinRef
join_of join = record { table = join.table; on = value join.on }

-- its condition is such
abbrev pub IsJoin : (Tree → Type 0) → JoinForm → Type 0
IsJoin P join = P join.on

-- WHERE and a condition, where one is given
abbrev pub filter_marks : Option Tree → List Mark
filter_marks filter = maybe (λ e. word KWhere ++ marks e) filter

-- what may be missing has this, where it is there
abbrev pub IfThere : {T : Type 0} → (T → Type 0) → Option T → Type 0
IfThere Is None = Unit {0}
IfThere Is (Some part) = Is part

-- the items of a clause that may be missing
abbrev pub listed_if : {T : Type 0} → Option (Several T) → List T
listed_if None = []
listed_if (Some several) = listed several

-- a column to sort by: a direction may be written, and is true for DESC
pub record OrderForm : Type 0 where
  pub column : ColRef
  pub direction : Option Bool

-- the keyword of a direction that is written
abbrev pub direction_marks : Bool → List Mark
direction_marks true = word KDesc
direction_marks false = word KAsc

-- its tokens
abbrev pub ordered_marks : OrderForm → List Mark
ordered_marks order = column_marks order.column ++ maybe direction_marks order.direction

-- the column to sort by that it is; without a direction it rises
abbrev pub ordered_of : OrderForm → OrderRef
ordered_of order = record { column = order.column; descending = unwrap_or order.direction false }

-- a query: its items, one table or two, and the clauses that may be missing
pub record SelectForm : Type 0 where
  pub items : ItemsForm
  pub left : TableRef
  pub right : Option JoinForm
  pub filter : Option Tree
  pub group : Option (Several ColRef)
  pub order : Option (Several OrderForm)
  pub limit : Option ℕ

-- what stands behind the word SELECT
abbrev pub query_marks : SelectForm → List Mark
query_marks select =
    items_marks select.items ++ word KFrom ++ table_marks select.left ++ maybe join_marks select.right ++ filter_marks select.filter
    ++ maybe (λ columns. word KGroup ++ word KBy ++ several_marks column_marks columns) select.group
    ++ maybe (λ columns. word KOrder ++ word KBy ++ several_marks ordered_marks columns) select.order
    ++ maybe (λ n. word KLimit ++ number_marks n) select.limit

-- the query that it is
abbrev pub select_of : SelectForm → SelectStmt
select_of select = record {
  items = items_of select.items;
  left = select.left;
  right = option_map join_of select.right;
  filter = option_map value select.filter;
  group = listed_if select.group;
  order = map ordered_of (listed_if select.order);
  limit = select.limit;
}

-- each of its expressions is such
pub record IsSelect (P : Tree → Type 0) (select : SelectForm) : Type 0 where
  pub items : AreItems P select.items
  pub right : IfThere (IsJoin P) select.right
  pub filter : IfThere P select.filter

-- ---- statements that write

-- the values of a row
abbrev pub RowForm : Type 0
RowForm = Several Tree

-- its tokens
abbrev pub row_marks : RowForm → List Mark
row_marks row = sign Open ++ several_marks marks row ++ sign Close

-- the row that it is
abbrev pub row_of : RowForm → AstRow
row_of row = record { values = map value (listed row) }

-- each of its expressions is such
abbrev pub IsRow : (Tree → Type 0) → RowForm → Type 0
IsRow P row = All P (listed row)

-- an INSERT: its table, its columns where they are listed, and one or more rows
pub record InsertForm : Type 0 where
  pub table : List ℕ
  pub columns : Option (Several (List ℕ))
  pub rows : Several RowForm

-- its tokens
abbrev pub insert_marks : InsertForm → List Mark
insert_marks insert =
    word KInsert ++ word KInto ++ name_marks insert.table ++ maybe (λ names. sign Open ++ several_marks name_marks names ++ sign Close) insert.columns
    ++ word KValues ++ several_marks row_marks insert.rows

-- the INSERT that it is
abbrev pub insert_of : InsertForm → InsertStmt
insert_of insert = record { table = insert.table; columns = listed_if insert.columns; rows = map row_of (listed insert.rows) }

-- a column and the expression that it is set to
pub record SetForm : Type 0 where
  pub column : List ℕ
  pub value : Tree

-- its tokens
abbrev pub set_marks : SetForm → List Mark
set_marks set = name_marks set.column ++ sign Equal ++ marks set.value

-- the assignment that it is
abbrev pub set_of : SetForm → AstSet
set_of set = record { column = set.column; value = value set.value }

-- its expression is such
abbrev pub IsSet : (Tree → Type 0) → SetForm → Type 0
IsSet P set = P set.value

-- an UPDATE: its table, one or more assignments, and its condition where there is one
pub record UpdateForm : Type 0 where
  pub table : List ℕ
  pub sets : Several SetForm
  pub filter : Option Tree

-- its tokens
abbrev pub update_marks : UpdateForm → List Mark
update_marks update = word KUpdate ++ name_marks update.table ++ word KSet ++ several_marks set_marks update.sets ++ filter_marks update.filter

-- the UPDATE that it is
abbrev pub update_of : UpdateForm → UpdateStmt
update_of update = record { table = update.table; sets = map set_of (listed update.sets); filter = option_map value update.filter }

-- a DELETE: its table, and its condition where there is one
pub record DeleteForm : Type 0 where
  pub table : List ℕ
  pub filter : Option Tree

-- its tokens
abbrev pub delete_marks : DeleteForm → List Mark
delete_marks delete = word KDelete ++ word KFrom ++ name_marks delete.table ++ filter_marks delete.filter

-- the DELETE that it is
abbrev pub delete_of : DeleteForm → DeleteStmt
delete_of delete = record { table = delete.table; filter = option_map value delete.filter }

-- ---- all statements

-- FOR UPDATE, which may stand behind a query that is not explained
abbrev pub for_update_marks : List Mark
for_update_marks = word KFor ++ word KUpdate

-- a statement of each kind
pub data StatementForm : Type 0 where
  Select : SelectForm → StatementForm
  SelectForUpdate : SelectForm → StatementForm
  Insert : InsertForm → StatementForm
  Update : UpdateForm → StatementForm
  Delete : DeleteForm → StatementForm
  Begin : StatementForm
  BeginAsOf : ℕ → StatementForm
  Commit : StatementForm
  Rollback : StatementForm
  Explain : SelectForm → StatementForm

-- its tokens
abbrev pub statement_marks : StatementForm → List Mark
statement_marks (Select select) = word KSelect ++ query_marks select
statement_marks (SelectForUpdate select) = word KSelect ++ query_marks select ++ for_update_marks
statement_marks (Insert insert) = insert_marks insert
statement_marks (Update update) = update_marks update
statement_marks (Delete delete) = delete_marks delete
statement_marks Begin = word KBegin
statement_marks (BeginAsOf epoch) = word KBegin ++ word KAs ++ word KOf ++ word KEpoch ++ number_marks epoch
statement_marks Commit = word KCommit
statement_marks Rollback = word KRollback
statement_marks (Explain select) = word KExplain ++ word KSelect ++ query_marks select

-- the statement that it is
abbrev pub statement_of : StatementForm → Statement
statement_of (Select select) = of_statement.Select (select_of select)
statement_of (SelectForUpdate select) = of_statement.SelectForUpdate (select_of select)
statement_of (Insert insert) = of_statement.Insert (insert_of insert)
statement_of (Update update) = of_statement.Update (update_of update)
statement_of (Delete delete) = of_statement.Delete (delete_of delete)
statement_of Begin = of_statement.Begin
statement_of (BeginAsOf epoch) = of_statement.BeginAsOf epoch
statement_of Commit = of_statement.Commit
statement_of Rollback = of_statement.Rollback
statement_of (Explain select) = of_statement.Explain (select_of select)

-- each of its expressions is such
abbrev pub Each : (Tree → Type 0) → StatementForm → Type 0
Each P (Select select) = IsSelect P select
Each P (SelectForUpdate select) = IsSelect P select
Each P (Insert insert) = All (IsRow P) (listed insert.rows)
Each P (Update update) = All (IsSet P) (listed update.sets) × IfThere P update.filter
Each P (Delete delete) = IfThere P delete.filter
Each P Begin = Unit {0}
Each P (BeginAsOf epoch) = Unit {0}
Each P Commit = Unit {0}
Each P Rollback = Unit {0}
Each P (Explain select) = IsSelect P select

-- each of its expressions stands on the grammar's line of whole expressions
abbrev pub IsForm : StatementForm → Type 0
IsForm form = Each (λ tree. Stands tree Expr) form
