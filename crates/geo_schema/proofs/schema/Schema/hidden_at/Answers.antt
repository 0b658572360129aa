use Rattle.std.proofs.Common.{ap, ◌∙◌, subst}
use Rattle.std.specs.List.{slice_get}
use Rattle.geo_schema.specs.Schemas.{IsSchema, hidden_tables}
use Rattle.geo_schema.proofs.KeptRules.{hidden_rows}
use Rattle.geo_schema.proofs.schema.Schema.hidden_at.Goals as goal

pub returns-clause-table : goal.returns-clause-table
returns-clause-table c =
    c.item_at.ensures ∙ ap (λ tables. slice_get tables c.args.place) (c.as_slice.ensures.value ∙ c.self.invariant.1 ∙ ap hidden_tables c.self.view_is)

pub returns-clause-rows : goal.returns-clause-rows
returns-clause-rows c =
    hidden_rows c.args.self.now c.args.place c.item_at.result (subst IsSchema c.self.view_is c.self.invariant.0)
    (c.item_at.ensures ∙ ap (λ tables. slice_get tables c.args.place) (c.as_slice.ensures.value ∙ c.self.invariant.1 ∙ ap hidden_tables c.self.view_is))
