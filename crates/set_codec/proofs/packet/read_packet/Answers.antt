use Rattle.std.proofs.Common.{arith}
use Rattle.geo_base.specs.laws.Answers.{answer_faulty, answer_refused}
use Rattle.set_codec.specs.laws.Packets.{packet_tells}
use Rattle.set_codec.proofs.Answers.{packet_fits, packet_spelled, packet_only}
use Rattle.set_codec.proofs.packet.read_packet.Goals as goal

pub returns-clause-fits : goal.returns-clause-fits
returns-clause-fits c = packet_fits c.args.schema.now c.args.regions c.args.bytes.now c.count-tables.ensures.schema (λ i. omega (arith, c.type_inv.bytes i)) _ c.read_of_kind.ensures.exact

pub returns-clause-spelled : goal.returns-clause-spelled
returns-clause-spelled c = packet_spelled c.args.schema.now c.args.regions c.args.bytes.now c.count-tables.ensures.schema (λ i. omega (arith, c.type_inv.bytes i)) _ c.read_of_kind.ensures.exact

pub returns-clause-only : goal.returns-clause-only
returns-clause-only c = packet_only c.args.schema.now c.args.regions c.args.bytes.now c.count-tables.ensures.schema (λ i. omega (arith, c.type_inv.bytes i)) _ c.read_of_kind.ensures.exact

pub returns-clause-fault : goal.returns-clause-fault
returns-clause-fault c = answer_faulty _ (λ x. x) _ _ _ _ (packet_tells c.args.bytes.now c.args.schema.now c.count-tables.ensures.schema c.args.regions) (λ i. omega (arith, c.type_inv.bytes i)) _ c.read_of_kind.ensures.exact

pub returns-clause-refused : goal.returns-clause-refused
returns-clause-refused c = answer_refused _ (λ x. x) _ _ _ _ (packet_tells c.args.bytes.now c.args.schema.now c.count-tables.ensures.schema c.args.regions) (λ i. omega (arith, c.type_inv.bytes i)) _ c.read_of_kind.ensures.exact
