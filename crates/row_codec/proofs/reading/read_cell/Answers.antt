use Rattle.std.proofs.Common.{arith}
use Rattle.row_codec.specs.laws.Cells.{cell_tells}
use Rattle.geo_base.specs.laws.Answers.{answer_found, answer_only, answer_faulty, answer_refused}
use Rattle.row_codec.proofs.reading.read_cell.Goals as goal

pub returns-clause-found : goal.returns-clause-found
returns-clause-found c = answer_found _ (λ x. x) _ _ _ _ (cell_tells c.args.bytes.now c.args.at) (λ i. omega (arith, c.type_inv.bytes i)) _ c.read_from_tag.ensures.exact

pub returns-clause-only : goal.returns-clause-only
returns-clause-only c = answer_only _ (λ x. x) _ _ _ _ (cell_tells c.args.bytes.now c.args.at) (λ i. omega (arith, c.type_inv.bytes i)) _ c.read_from_tag.ensures.exact

pub returns-clause-fault : goal.returns-clause-fault
returns-clause-fault c = answer_faulty _ (λ x. x) _ _ _ _ (cell_tells c.args.bytes.now c.args.at) (λ i. omega (arith, c.type_inv.bytes i)) _ c.read_from_tag.ensures.exact

pub returns-clause-refused : goal.returns-clause-refused
returns-clause-refused c = answer_refused _ (λ x. x) _ _ _ _ (cell_tells c.args.bytes.now c.args.at) (λ i. omega (arith, c.type_inv.bytes i)) _ c.read_from_tag.ensures.exact
