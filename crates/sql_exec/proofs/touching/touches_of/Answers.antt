use Rattle.std.proofs.Common.{Bor}
use Rattle.geo_base.specs.declared.row_image.RowImage.{RowImage}
use Rattle.geo_schema.specs.Rows.{IsRow}
use Rattle.geo_schema.specs.Schemas.{table_at}
use Rattle.sql_exec.proofs.Touched.{pushed, row_is}
use Rattle.sql_exec.proofs.touching.touches_of.Goals as goal
use Rattle.sql_exec.specs.inner.Naming.{name_in}

pub name_of-requires-clause-row : goal.name_of-requires-clause-row
name_of-requires-clause-row g c =
    row_is (λ (row : Bor RowImage). row.now) (IsRow (table_at c.args.schema.now c.args.table)) c.args.rows.now c.loop-row.row-index c.row-item.result
    c.loop-row-test.true c.row-item.is c.requires.rows

pub loop-row-preserved : goal.loop-row-preserved
loop-row-preserved g c =
    pushed (λ (row : Bor RowImage). row.now) (name_in c.args.schema.now c.args.table) (g.R.RowSource.base c.args.source.now) c.args.own.now c.args.rows.now c.loop-row.row-index
    c.row-item.result c.loop-row.touches.items c.touch.new.touches.items _
    c.loop-row-test.true c.row-item.is c.loop-row.invariant c.in_ok-name.ensures c.in_ok-touch.ensures
