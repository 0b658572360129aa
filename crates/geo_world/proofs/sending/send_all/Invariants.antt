use Rattle.std.proofs.Common.{◌≡◌, ◌++◌, map, string_bytes, vec_len}
use Rattle.geo_world.specs.inner.Sending.{packet_with}
use Rattle.geo_world.specs.Step.{others, sent_lines}
use Rattle.geo_world.proofs.sending.send_all.Given as goal

-- the regions so far have their packets
abbrev pub invariant-loop-to : goal.invariant-loop-to
invariant-loop-to l = record {
  packets : l.packets.items ≡ l.initial.packets.items ++ map (packet_with l.batch) (others l.to l.batch.region);
  lines : string_bytes l.out ≡ string_bytes l.initial.out ++ sent_lines (vec_len l.initial.packets) (others l.to l.batch.region);
}
