use Rattle.set_codec.specs.laws.Batches.{one_batch}
use Rattle.set_codec.specs.laws.Packets.{one_packet}
use Rattle.set_codec.proofs.laws.one_answer_for_all_bytes.Goals as goal

pub returns-clause-batch : goal.returns-clause-batch
returns-clause-batch c = one_batch

pub returns-clause-packet : goal.returns-clause-packet
returns-clause-packet c = one_packet
