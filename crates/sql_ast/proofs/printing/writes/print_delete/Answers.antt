use Rattle.std.specs.Prelude.{codes}
use Rattle.sql_ast.specs.Printing.{delete_text, filter_text}
use Rattle.sql_ast.proofs.Texts.{delete-joined}
use Rattle.sql_ast.proofs.printing.writes.print_delete.Goals as goal

pub returns : goal.returns
unfolding delete_text
returns c =
    delete-joined _ _ _ _ (codes "DELETE FROM ") c.args.delete.now.table (filter_text c.args.delete.now.filter) c.in_ok-push_str.ensures.bytes
    c.in_ok-print_to.ensures c.in_ok-print_filter.ensures
