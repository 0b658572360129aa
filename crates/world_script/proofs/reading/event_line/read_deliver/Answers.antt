use Rattle.std.proofs.Common.{◌≡◌, arith}
use Rattle.world_script.proofs.EventTexts.{deliver_cut, deliver_uncut}
use Rattle.world_script.proofs.reading.event_line.read_deliver.Goals as goal

pub returns-in_err-first-clause-only : goal.returns-in_err-first-clause-only
returns-in_err-first-clause-only c = λ first last of within.
    let cut = deliver_cut c.args.line.now c.in_ok-numbers.numbers.now _ _ first last c.in_ok-numbers.ensures c.in-Some.ensures.found of (omega arith) in
    cc (c.in_err-first.ensures.only first (omega arith) cut.0)

pub returns-in_err-last-clause-only : goal.returns-in_err-last-clause-only
returns-in_err-last-clause-only c = λ first last of within.
    let cut = deliver_cut c.args.line.now c.in_ok-numbers.numbers.now _ _ first last c.in_ok-numbers.ensures c.in-Some.ensures.found of (omega arith) in
    cc (c.in_err-last.ensures.only last (omega arith) cut.1)

pub returns-then-are_packets-clause-only : goal.returns-then-are_packets-clause-only
returns-then-are_packets-clause-only c = λ first last of within.
    let cut = deliver_cut c.args.line.now c.in_ok-numbers.numbers.now _ _ first last c.in_ok-numbers.ensures c.in-Some.ensures.found of (omega arith) in
    let is_first : c.in_ok-first.first ≡ first = cc (c.in_ok-first.ensures.only first (omega arith) cut.0) in
    let is_last : c.in_ok-last.last ≡ last = cc (c.in_ok-last.ensures.only last (omega arith) cut.1) in
    cc

pub returns-else-are_packets-clause-only : goal.returns-else-are_packets-clause-only
returns-else-are_packets-clause-only c = λ first last of within.
    let cut = deliver_cut c.args.line.now c.in_ok-numbers.numbers.now _ _ first last c.in_ok-numbers.ensures c.in-Some.ensures.found of (omega arith) in
    let is_first : c.in_ok-first.first ≡ first = cc (c.in_ok-first.ensures.only first (omega arith) cut.0) in
    let is_last : c.in_ok-last.last ≡ last = cc (c.in_ok-last.ensures.only last (omega arith) cut.1) in
    cc (c.are_packets.ensures.1 (omega arith, omega arith, omega arith))

pub returns-in_err-packet-clause-only : goal.returns-in_err-packet-clause-only
returns-in_err-packet-clause-only c = λ first last of within.
    let one = deliver_uncut c.args.line.now c.in_ok-numbers.numbers.now first last c.in_ok-numbers.ensures c.in_default.ensures.none of in
    cc (c.in_err-packet.ensures.only first (omega arith) one.1)

pub returns-in_ok-packet-clause-only : goal.returns-in_ok-packet-clause-only
returns-in_ok-packet-clause-only c = λ first last of within.
    let one = deliver_uncut c.args.line.now c.in_ok-numbers.numbers.now first last c.in_ok-numbers.ensures c.in_default.ensures.none of in
    let is_first : c.in_ok-packet.packet ≡ first = cc (c.in_ok-packet.ensures.only first (omega arith) one.1) in
    cc
