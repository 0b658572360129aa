use Rattle.std.proofs.Common.{◌≡◌, true, sym, ◌∙◌, subst}
use Rattle.geo_schema.specs.Rows.{IsRow}
use Rattle.geo_schema.specs.Schemas.{table_at}
use Rattle.rows_kit.proofs.rows.fits.Goals as goal

pub returns : goal.returns
returns c = λ same.
    let met : c.is_row.result ≡ true = cc in
    let cells : c.cells.result.now ≡ c.args.at.now.image = cc in
    record {
      is_table = c.is_row.ensures.table met;
      row = subst (IsRow (table_at c.args.schema.now c.args.at.now.row.table)) cells (c.is_row.ensures.row met);
      key = sym c.in_ok-key.ensures ∙ c.is_same_key.ensures same;
    }
