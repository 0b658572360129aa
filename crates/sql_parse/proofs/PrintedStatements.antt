-- The canonical text of a statement spells its canonical form.
use Rattle.std.proofs.Common.{ℕ, List, ◌++◌, Option, Some, None, arith, codes}
use Rattle.sql_ast.specs.declared.ast.AstOp.TheVariants as op
use Rattle.sql_ast.specs.Printing.{columns_text, row_text, insert_text, set_text, update_text, delete_text, expression_text, printed}
use Rattle.sql_lex.specs.declared.keyword.Keyword.TheVariants.{KInsert, KInto, KValues, KUpdate, KSet, KDelete, KFrom, KAs, KBegin, KOf, KEpoch, KCommit, KRollback, KExplain, KFor}
use Rattle.sql_lex.specs.declared.symbol.Symbol.TheVariants as symbol
use Rattle.sql_parse.specs.Trees.{Outside, Mark, kinds, marks, value}
use Rattle.sql_parse.specs.Forms.{word, sign, name_marks, maybe, Several, several_marks, filter_marks, listed_if, RowForm, row_marks, row_of, InsertForm, insert_marks, insert_of, SetForm, set_marks, set_of, UpdateForm, update_marks, update_of, DeleteForm, delete_marks, delete_of, query_marks, for_update_marks, StatementForm, Select, SelectForUpdate, Insert, Update, Delete, Begin, BeginAsOf, Commit, Rollback, Explain, statement_marks, statement_of}
use Rattle.sql_parse.proofs.PrintedPieces.{Prints, PrintsAlone, opens_blank, blank_opens, MayOpen, nothing_opens, behind, behind_alone, after, both, nothing, spaced, indented_alone}
use Rattle.sql_parse.proofs.PrintedWords.{keyword, operator, number}
use Rattle.sql_parse.proofs.PrintedTrees.{canonical}
use Rattle.sql_parse.proofs.PrintedExpressions.{AreSpelled, front_of, rest_of, name_by, number_fits, closed, expression_prints}
use Rattle.sql_parse.proofs.PrintedForms.{canonical_row, canonical_insert, canonical_set, canonical_update, canonical_delete, canonical_form}
use Rattle.sql_parse.proofs.PrintedQueries.{leading, between, open_list, commas_print, plain_commas, filter_opens, filter_prints, select_prints}

-- ---- INSERT

abbrev columns_marks : Option (Several (List ℕ)) → List Mark
columns_marks columns = maybe (λ names. sign symbol.Open ++ several_marks name_marks names ++ sign symbol.Close) columns

columns_open : (columns : Option (Several (List ℕ))) → MayOpen (columns_text (listed_if columns))
columns_open None = nothing_opens
columns_open (Some s) = record { apart = λ rest apart. record { low = omega arith; no_quote = omega arith } }

columns_print : (columns : Option (Several (List ℕ))) → AreSpelled (kinds (columns_marks columns)) → Prints (columns_marks columns) (columns_text (listed_if columns))
columns_print None all = nothing
columns_print (Some s) all =
    closed Outside (after open_list (plain_commas name_marks (λ name. name) (λ name spelled. name_by Outside name spelled.0) s (front_of (several_marks name_marks s) (sign symbol.Close) all.1)))

row_prints : (row : RowForm) → AreSpelled (kinds (row_marks row)) → Prints (row_marks (canonical_row row)) (row_text (row_of row))
row_prints row all =
    closed Outside (after open_list (commas_print marks canonical value expression_text expression_prints row (front_of (several_marks marks row) (sign symbol.Close) all.1)))

insert_prints : (insert : InsertForm) → AreSpelled (kinds (insert_marks insert)) → Prints (insert_marks (canonical_insert insert)) (insert_text (insert_of insert))
unfolding insert_text
insert_prints insert all =
    let columns : List Mark = name_marks insert.table ++ columns_marks insert.columns in
    let values : List Mark = columns ++ word KValues in
    let to_values : AreSpelled (kinds values) = front_of values (several_marks row_marks insert.rows) all.1.1 in
    let to_columns : AreSpelled (kinds columns) = front_of columns (word KValues) to_values in
    after
    (behind_alone
    (behind (after (both (leading KInsert) (leading KInto)) (name_by Outside insert.table all.1.1.0)) (columns_open insert.columns) (columns_print insert.columns to_columns.1))
    (opens_blank (codes "VALUES ")) (between KValues))
    (commas_print row_marks canonical_row row_of row_text row_prints insert.rows (rest_of values (several_marks row_marks insert.rows) all.1.1))

-- ---- UPDATE and DELETE

equal_sign : PrintsAlone (sign symbol.Equal) (codes " = ")
equal_sign = indented_alone (spaced (operator Outside op.Equal))

set_prints : (set : SetForm) → AreSpelled (kinds (set_marks set)) → Prints (set_marks (canonical_set set)) (set_text (set_of set))
set_prints set all = after (behind_alone (name_by Outside set.column all.0) (opens_blank (codes "= ")) equal_sign) (expression_prints set.value all.1.1)

update_prints : (update : UpdateForm) → AreSpelled (kinds (update_marks update)) → Prints (update_marks (canonical_update update)) (update_text (update_of update))
unfolding update_text
update_prints update all =
    let to_sets = front_of (several_marks set_marks update.sets) (filter_marks update.filter) all.1.1.1 in
    behind
    (after (behind_alone (after (leading KUpdate) (name_by Outside update.table all.1.0)) (opens_blank (codes "SET ")) (between KSet))
    (commas_print set_marks canonical_set set_of set_text set_prints update.sets to_sets))
    (filter_opens update.filter) (filter_prints update.filter (rest_of (several_marks set_marks update.sets) (filter_marks update.filter) all.1.1.1))

delete_prints : (delete : DeleteForm) → AreSpelled (kinds (delete_marks delete)) → Prints (delete_marks (canonical_delete delete)) (delete_text (delete_of delete))
unfolding delete_text
delete_prints delete all =
    behind (after (both (leading KDelete) (leading KFrom)) (name_by Outside delete.table all.1.1.0)) (filter_opens delete.filter) (filter_prints delete.filter all.1.1.1)

-- ---- all statements

pub statement_prints : (form : StatementForm) → AreSpelled (kinds (statement_marks form)) → Prints (statement_marks (canonical_form form)) (printed (statement_of form))
statement_prints (Select select) all = select_prints select all.1
statement_prints (SelectForUpdate select) all =
    behind (select_prints select (front_of (query_marks select) for_update_marks all.1)) (blank_opens (codes "FOR UPDATE")) (after (between KFor) (keyword Outside KUpdate))
statement_prints (Insert insert) all = insert_prints insert all
statement_prints (Update update) all = update_prints update all
statement_prints (Delete delete) all = delete_prints delete all
statement_prints Begin all = keyword Outside KBegin
statement_prints (BeginAsOf epoch) all = after (both (both (both (leading KBegin) (leading KAs)) (leading KOf)) (leading KEpoch)) (number Outside epoch (number_fits epoch all.1.1.1.1.0))
statement_prints Commit all = keyword Outside KCommit
statement_prints Rollback all = keyword Outside KRollback
statement_prints (Explain select) all = after (leading KExplain) (select_prints select all.1.1)
