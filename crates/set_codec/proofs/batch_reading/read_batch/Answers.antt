use Rattle.std.proofs.Common.{arith, None}
use Rattle.geo_base.specs.laws.Answers.{answer_faulty, answer_refused}
use Rattle.set_codec.specs.laws.Batches.{batch_tells}
use Rattle.set_codec.proofs.Answers.{batch_fits, batch_spelled, batch_only}
use Rattle.set_codec.proofs.batch_reading.read_batch.Goals as goal

pub returns-clause-fits : goal.returns-clause-fits
returns-clause-fits c = batch_fits c.args.schema.now c.args.regions c.args.bytes.now c.count-tables.ensures.schema (λ i. omega (arith, c.type_inv.bytes i)) _ c.read_batch_at.ensures.exact

pub returns-clause-spelled : goal.returns-clause-spelled
returns-clause-spelled c = batch_spelled c.args.schema.now c.args.regions c.args.bytes.now c.count-tables.ensures.schema (λ i. omega (arith, c.type_inv.bytes i)) _ c.read_batch_at.ensures.exact

pub returns-clause-only : goal.returns-clause-only
returns-clause-only c = batch_only c.args.schema.now c.args.regions c.args.bytes.now c.count-tables.ensures.schema (λ i. omega (arith, c.type_inv.bytes i)) _ c.read_batch_at.ensures.exact

pub returns-clause-fault : goal.returns-clause-fault
returns-clause-fault c = answer_faulty _ (λ x. x) _ _ _ _ (batch_tells c.args.bytes.now c.args.schema.now c.count-tables.ensures.schema c.args.regions None 0) (λ i. omega (arith, c.type_inv.bytes i)) _ c.read_batch_at.ensures.exact

pub returns-clause-refused : goal.returns-clause-refused
returns-clause-refused c = answer_refused _ (λ x. x) _ _ _ _ (batch_tells c.args.bytes.now c.args.schema.now c.count-tables.ensures.schema c.args.regions None 0) (λ i. omega (arith, c.type_inv.bytes i)) _ c.read_batch_at.ensures.exact
