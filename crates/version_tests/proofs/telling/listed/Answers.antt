use Rattle.geo_base.specs.Order.{row_cmp}
use Rattle.geo_base.specs.laws.Orders.{row_cmp_total}
use Rattle.page_map.specs.laws.Borders.{border_of_key}
use Rattle.version_tests.proofs.telling.listed.Goals as goal

-- each row is a border of rows that rise
pub rows_between-requires-clause-first : goal.rows_between-requires-clause-first
rows_between-requires-clause-first c = border_of_key row_cmp row_cmp_total c.in_ok-first.first c.args.versions.now.rows c.keeps_order.ensures.rising

pub rows_between-requires-clause-last : goal.rows_between-requires-clause-last
rows_between-requires-clause-last c = border_of_key row_cmp row_cmp_total c.in_ok-last.last c.args.versions.now.rows c.keeps_order.ensures.rising
