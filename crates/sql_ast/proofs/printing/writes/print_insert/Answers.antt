use Rattle.std.proofs.Common.{◌≡◌, ◌++◌, string_bytes}
use Rattle.std.specs.Prelude.{codes}
use Rattle.geo_base.specs.Texts.{commas}
use Rattle.sql_ast.specs.Printing.{columns_text, insert_text, row_text}
use Rattle.sql_ast.proofs.Texts.{insert-joined}
use Rattle.sql_ast.proofs.printing.writes.print_insert.Goals as goal

pub returns : goal.returns
unfolding insert_text
returns c =
    let columns : string_bytes c.print_columns.new.out ≡ string_bytes c.print_to.new.out ++ columns_text c.items.result.now = c.in_ok-print_columns.ensures in
    let rows : string_bytes c.print_commas.new.out ≡ string_bytes c.push_str-2.new.self ++ commas row_text c.items-2.result.now = c.in_ok-print_commas.ensures in
    insert-joined _ _ _ _ _ _ (codes "INSERT INTO ") c.args.insert.now.table (columns_text c.args.insert.now.columns) (codes " VALUES ")
    (commas row_text c.args.insert.now.rows) c.in_ok-push_str.ensures.bytes c.in_ok-print_to.ensures (rw c.items.ensures at columns)
    c.in_ok-push_str-2.ensures.bytes (rw c.items-2.ensures at rows)
