use Rattle.std.proofs.Common.{refl}
use Rattle.geo_schema.proofs.KeptRules.{rules_kept, schema_kept, hidden_kept}
use Rattle.geo_schema.proofs.schema.Schema.with_unique.Goals as goal

pub hidden_tables-requires-clause-rules : goal.hidden_tables-requires-clause-rules
hidden_tables-requires-clause-rules c = rules_kept c.as_slice-shown.result.now c.as_slice-lines.result.now c.in_ok-faultless.ensures

pub invariant_of-result : goal.invariant_of-result
invariant_of-result c = (
  schema_kept c.args.tables.items _ c.args.uniques.items _ c.in_ok-faultless.ensures c.as_slice-shown.ensures.value c.as_slice-lines.ensures.value,
  hidden_kept c.args.tables.items _ c.args.uniques.items _ c.in_ok-hidden.hidden.items c.in_ok-hidden.ensures c.as_slice-shown.ensures.value c.as_slice-lines.ensures.value,
)

pub returns-clause-schema : goal.returns-clause-schema
returns-clause-schema c = (
  refl,
  schema_kept c.args.tables.items _ c.args.uniques.items _ c.in_ok-faultless.ensures c.as_slice-shown.ensures.value c.as_slice-lines.ensures.value,
)
