-- Inner: a batch on its way.
use Rattle.std.specs.Prelude.{ℕ}
use Rattle.write_set.specs.declared.batch.Batch.{Batch}
use Rattle.geo_world.specs.declared.packet.Packet.{Packet}

-- the packet that brings the batch to a region
abbrev pub packet_with : Batch → ℕ → Packet
packet_with batch to = record { to = to; batch = batch }
