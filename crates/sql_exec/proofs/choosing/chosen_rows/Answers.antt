use Rattle.std.proofs.Common.{◌≡◌, sym, subst}
use Rattle.std.specs.List.{All, filter}
use Rattle.std.proofs.lemmas.Result.{IfOk-weaker}
use Rattle.geo_schema.specs.Rows.{IsRow}
use Rattle.geo_schema.specs.Schemas.{Tables, table_at}
use Rattle.geo_schema.specs.laws.Numbers.{shown_is}
use Rattle.row_source.specs.Handing.{reaches}
use Rattle.row_source.specs.Sources.{images}
use Rattle.sql_exec.proofs.Handed.{handed_rows}
use Rattle.sql_exec.proofs.choosing.chosen_rows.Goals as goal
use Rattle.sql_exec.specs.inner.Reaching.{rows_in}

pub returns-in_err-access-clause-table : goal.returns-in_err-access-clause-table
returns-in_err-access-clause-table g c = shown_is c.args.schema.now c.args.table c.count-count.ensures.schema c.requires.shown

pub returns-clause-table : goal.returns-clause-table
returns-clause-table g c = shown_is c.args.schema.now c.args.table c.count-count.ensures.schema c.requires.shown

-- what is handed out by the access is rows of the table
pub returns-clause-fit : goal.returns-clause-fit
returns-clause-fit g c =
    let table = c.args.table in
    let rows = g.R.RowSource.rows c.args.source.now in
    let way = c.in_ok-access.access in
    IfOk-weaker c.reached_rows.result
    (λ found. rows_in found ≡ images (filter (reaches (g.R.RowSource.tables c.args.source.now) table way) rows))
    (λ found. All (IsRow (table_at c.args.schema.now table)) (rows_in found))
    (λ found is. subst (All (IsRow (table_at c.args.schema.now table))) (sym is)
    (subst (λ (own : Tables). All (IsRow (table_at c.args.schema.now table)) (images (filter (reaches own table way) rows))) (sym c.requires.schema)
    (handed_rows c.args.schema.now table way rows c.requires.rows)))
    c.reached_rows.ensures.rows
