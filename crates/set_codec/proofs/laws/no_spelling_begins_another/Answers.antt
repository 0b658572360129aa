use Rattle.set_codec.specs.laws.Batches.{batch_alone}
use Rattle.set_codec.specs.laws.Packets.{packet_alone}
use Rattle.set_codec.proofs.laws.no_spelling_begins_another.Goals as goal

pub returns-clause-batch : goal.returns-clause-batch
returns-clause-batch c = batch_alone

pub returns-clause-packet : goal.returns-clause-packet
returns-clause-packet c = packet_alone
