-- The canonical text of a statement: keywords in capitals and one space between tokens, except none before `,` `.` `)`
-- and none after `(` `.`, and none between a name or an aggregate's keyword and its `(`. A missing part prints nothing.
use Rattle.std.specs.Prelude.{ℕ, Bool, true, false, if◌then◌else◌, List, [], ◌∷◌, ◌++◌, codes, Option, Some, None}
use Rattle.std.specs.Fmt.{decimal}
use Rattle.geo_base.specs.Texts.{cell_text, commas}
use Rattle.sql_ast.specs.declared.ast.Ast.{Ast}
use Rattle.sql_ast.specs.declared.ast.Ast.TheOpen.{Ast-F}
use Rattle.sql_ast.specs.declared.ast.Ast.TheFolds.{fold-Ast}
use Rattle.sql_ast.specs.declared.ast.AstOp.{AstOp}
use Rattle.sql_ast.specs.declared.ast.AstOp.TheVariants as op
use Rattle.sql_ast.specs.declared.ast.ColRef.{ColRef}
use Rattle.sql_ast.specs.declared.delete.DeleteStmt.{DeleteStmt}
use Rattle.sql_ast.specs.declared.insert.AstRow.{AstRow}
use Rattle.sql_ast.specs.declared.insert.InsertStmt.{InsertStmt}
use Rattle.sql_ast.specs.declared.select.AstItem.{AstItem}
use Rattle.sql_ast.specs.declared.select.AstValue.{AstValue}
use Rattle.sql_ast.specs.declared.select.AstValue.TheVariants as value
use Rattle.sql_ast.specs.declared.select.Items.{Items}
use Rattle.sql_ast.specs.declared.select.Items.TheVariants as items
use Rattle.sql_ast.specs.declared.select.JoinRef.{JoinRef}
use Rattle.sql_ast.specs.declared.select.OrderRef.{OrderRef}
use Rattle.sql_ast.specs.declared.select.SelectStmt.{SelectStmt}
use Rattle.sql_ast.specs.declared.select.TableRef.{TableRef}
use Rattle.sql_ast.specs.declared.statement.Statement.{Statement}
use Rattle.sql_ast.specs.declared.statement.Statement.TheVariants as statement
use Rattle.sql_ast.specs.declared.update.AstSet.{AstSet}
use Rattle.sql_ast.specs.declared.update.UpdateStmt.{UpdateStmt}

-- ---- parts that may be missing, and lists

-- the text of a part, and nothing where it is missing
abbrev pub if_some : {T : Type 0} → (T → List ℕ) → Option T → List ℕ
if_some text None = []
if_some text (Some part) = text part

-- words and the list behind them, and nothing where the list is empty
abbrev pub list_clause : {T : Type 0} → List ℕ → (T → List ℕ) → List T → List ℕ
list_clause words text [] = []
list_clause words text (first ∷ others) = words ++ commas text (first ∷ others)

-- ---- expressions

-- a column, behind the name of its table where that is written
abbrev pub column_text : ColRef → List ℕ
column_text column = if_some (λ table. table ++ codes ".") column.table ++ column.name

-- an operator between two operands
abbrev pub operator_text : AstOp → List ℕ
operator_text op.Plus = codes "+"
operator_text op.Minus = codes "-"
operator_text op.Times = codes "*"
operator_text op.Divide = codes "/"
operator_text op.Equal = codes "="
operator_text op.Differ = codes "<>"
operator_text op.Less = codes "<"
operator_text op.LessEqual = codes "<="
operator_text op.More = codes ">"
operator_text op.MoreEqual = codes ">="
operator_text op.And = codes "AND"
operator_text op.Or = codes "OR"

-- what stands behind an operand to test whether it is NULL, or is not
abbrev pub null_test_text : Bool → List ℕ
null_test_text false = codes " IS NULL"
null_test_text true = codes " IS NOT NULL"

-- One level of an expression, with the texts of its operands in their places. Each operator has one pair of parentheses.
abbrev pub level_text : Ast-F (List ℕ) → List ℕ
level_text (Ast-F.Lit literal) = cell_text literal
level_text (Ast-F.Column column) = column_text column
level_text (Ast-F.Neg a) = codes "-(" ++ a ++ codes ")"
level_text (Ast-F.Not a) = codes "(NOT " ++ a ++ codes ")"
level_text (Ast-F.Binary o a b) = codes "(" ++ a ++ codes " " ++ operator_text o ++ codes " " ++ b ++ codes ")"
level_text (Ast-F.IsNull a is_not) = codes "(" ++ a ++ null_test_text is_not ++ codes ")"

-- an expression
unfoldable pub expression_text : Ast → List ℕ
expression_text = fold-Ast (List ℕ) level_text

-- ---- queries

-- the name that AS gives
abbrev pub alias_text : Option (List ℕ) → List ℕ
alias_text alias = if_some (λ name. codes " AS " ++ name) alias

-- an aggregate by its keyword
abbrev pub aggregate_text : List ℕ → Ast → List ℕ
aggregate_text keyword argument = keyword ++ codes "(" ++ expression_text argument ++ codes ")"

-- what an item of a query is: an expression, or an aggregate
abbrev pub value_text : AstValue → List ℕ
value_text (value.Plain e) = expression_text e
value_text value.CountAll = codes "COUNT(*)"
value_text (value.Count e) = aggregate_text (codes "COUNT") e
value_text (value.Sum e) = aggregate_text (codes "SUM") e
value_text (value.Min e) = aggregate_text (codes "MIN") e
value_text (value.Max e) = aggregate_text (codes "MAX") e

-- an item of a query, and the name that AS gives it
abbrev pub item_text : AstItem → List ℕ
item_text item = value_text item.value ++ alias_text item.alias

-- the items of a query: a star for all columns, or a list
abbrev pub items_text : Items → List ℕ
items_text items.All = codes "*"
items_text (items.List list) = commas item_text list

-- a table, and the name that AS gives it
abbrev pub table_text : TableRef → List ℕ
table_text table = table.name ++ alias_text table.alias

-- the clauses of JOIN and ON
abbrev pub join_text : Option JoinRef → List ℕ
join_text join = if_some (λ j. codes " JOIN " ++ table_text j.table ++ codes " ON " ++ expression_text j.on) join

-- the clause of WHERE
abbrev pub filter_text : Option Ast → List ℕ
filter_text filter = if_some (λ e. codes " WHERE " ++ expression_text e) filter

-- a column to sort by: ASC is left out
abbrev pub order_text : OrderRef → List ℕ
order_text order = column_text order.column ++ (if order.descending then codes " DESC" else [])

-- the clause of LIMIT
abbrev pub limit_text : Option ℕ → List ℕ
limit_text limit = if_some (λ n. codes " LIMIT " ++ decimal n) limit

-- a query
unfoldable pub select_text : SelectStmt → List ℕ
select_text select =
    codes "SELECT " ++ items_text select.items ++ codes " FROM " ++ table_text select.left ++ join_text select.right
    ++ filter_text select.filter ++ list_clause (codes " GROUP BY ") column_text select.group
    ++ list_clause (codes " ORDER BY ") order_text select.order ++ limit_text select.limit

-- ---- statements that write

-- the list of columns behind the table's name, and nothing where it is empty
abbrev pub columns_text : List (List ℕ) → List ℕ
columns_text [] = []
columns_text (first ∷ others) = codes "(" ++ commas (λ name. name) (first ∷ others) ++ codes ")"

-- the values of a row in parentheses
abbrev pub row_text : AstRow → List ℕ
row_text row = codes "(" ++ commas expression_text row.values ++ codes ")"

-- an INSERT
unfoldable pub insert_text : InsertStmt → List ℕ
insert_text insert = codes "INSERT INTO " ++ insert.table ++ columns_text insert.columns ++ codes " VALUES " ++ commas row_text insert.rows

-- a column and the expression that it is set to
abbrev pub set_text : AstSet → List ℕ
set_text set = set.column ++ codes " = " ++ expression_text set.value

-- an UPDATE
unfoldable pub update_text : UpdateStmt → List ℕ
update_text update = codes "UPDATE " ++ update.table ++ codes " SET " ++ commas set_text update.sets ++ filter_text update.filter

-- a DELETE
unfoldable pub delete_text : DeleteStmt → List ℕ
delete_text delete = codes "DELETE FROM " ++ delete.table ++ filter_text delete.filter

-- ---- all statements

-- the canonical text of a statement
abbrev pub printed : Statement → List ℕ
printed (statement.Select select) = select_text select
printed (statement.SelectForUpdate select) = select_text select ++ codes " FOR UPDATE"
printed (statement.Insert insert) = insert_text insert
printed (statement.Update update) = update_text update
printed (statement.Delete delete) = delete_text delete
printed statement.Begin = codes "BEGIN"
printed (statement.BeginAsOf epoch) = codes "BEGIN AS OF EPOCH " ++ decimal epoch
printed statement.Commit = codes "COMMIT"
printed statement.Rollback = codes "ROLLBACK"
printed (statement.Explain select) = codes "EXPLAIN " ++ select_text select
