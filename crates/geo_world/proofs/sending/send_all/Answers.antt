-- Each region but the batch's own has one packet more.
use Rattle.std.proofs.Common.{◌++◌, sym, ap, ◌∙◌, map, List, ℕ, string_bytes, vec_len}
use Rattle.geo_world.specs.inner.Sending.{packet_with}
use Rattle.geo_world.specs.Step.{sent_lines}
use Rattle.geo_world.proofs.SendingLemmas.{packets_more, lines_more, packets_count, others_own}
use Rattle.geo_world.proofs.sending.send_all.Goals as goal
use Rattle.geo_world.proofs.sending.send_all.Goals.{then-to-batch+in_ok-send, else-to-batch}

pub loop-to-preserved : goal.loop-to-preserved
loop-to-preserved c =
    elim c.if-to-batch.branch [
      | then-to-batch+in_ok-send w ↦ record {
        packets = ap (λ v. v.items) w.packets-is
            ∙ packets_more c.args.packets.now.items c.loop-to.packets.items w.send.new.packets.items c.args.batch.now c.loop-to.to w.if-to-batch.true
            c.loop-to.invariant.packets w.in_ok-send.ensures.packet;
        lines = ap (λ t. string_bytes t) w.out-is
            ∙ lines_more (string_bytes c.args.out.now) (string_bytes c.loop-to.out) (string_bytes w.send.new.out) (vec_len c.args.packets.now) (vec_len c.loop-to.packets) c.loop-to.to
            c.args.batch.now.region w.if-to-batch.true
            (packets_count c.args.packets.now.items c.loop-to.packets.items (vec_len c.loop-to.packets) (vec_len c.args.packets.now) c.args.batch.now c.loop-to.to
            c.loop-to.packets.ok.0 c.args.packets.now.ok.0 c.loop-to.invariant.packets)
            c.loop-to.invariant.lines w.in_ok-send.ensures.line;
      }
      | else-to-batch w ↦ record {
        packets = ap (λ v. v.items) w.packets-is ∙ (c.loop-to.invariant.packets
            ∙ ap (λ (tos : List ℕ). c.args.packets.now.items ++ map (packet_with c.args.batch.now) tos) (sym (others_own c.loop-to.to c.args.batch.now.region w.if-to-batch.false)));
        lines = ap (λ t. string_bytes t) w.out-is ∙ (c.loop-to.invariant.lines
            ∙ ap (λ (tos : List ℕ). string_bytes c.args.out.now ++ sent_lines (vec_len c.args.packets.now) tos) (sym (others_own c.loop-to.to c.args.batch.now.region w.if-to-batch.false)));
      }
    ]
