use Rattle.std.proofs.Common.{◌≡◌, ◌/◌, length, take, drop, ap, ◌∙◌, arith}
use Rattle.page_map.proofs.Pages.{halves_joined, first_length, last_length}
use Rattle.page_map.proofs.page.PageChunk.halves.Goals as goal

pub returns-clause-pairs : goal.returns-clause-pairs
returns-clause-pairs g c =
    let front = c.split_at.ensures.front ∙ ap (take (c.len.result / 2)) c.as_slice.ensures.value in
    let back = c.split_at.ensures.back ∙ ap (drop (c.len.result / 2)) c.as_slice.ensures.value in
    halves_joined c.args.self.now.entries.items (c.len.result / 2) c.split_at.result.0.now c.split_at.result.1.now c.in_ok-copy_pairs.field-0.items c.in_ok-copy_pairs-2.field-0.items front back c.in_ok-copy_pairs.ensures c.in_ok-copy_pairs-2.ensures

pub returns-clause-whole : goal.returns-clause-whole
returns-clause-whole g c =
    let front = c.split_at.ensures.front ∙ ap (take (c.len.result / 2)) c.as_slice.ensures.value in
    let back = c.split_at.ensures.back ∙ ap (drop (c.len.result / 2)) c.as_slice.ensures.value in
    let all : c.len.result ≡ length c.args.self.now.entries.items = omega (arith, c.len.ensures, c.as_slice.ensures.len, ap length c.as_slice.ensures.value) in
    let n = first_length c.args.self.now.entries.items (c.len.result / 2) c.split_at.result.0.now c.split_at.result.1.now c.in_ok-copy_pairs.field-0.items c.in_ok-copy_pairs-2.field-0.items front back c.in_ok-copy_pairs.ensures c.in_ok-copy_pairs-2.ensures (omega (arith, all)) in
    let m = last_length c.args.self.now.entries.items (c.len.result / 2) c.split_at.result.0.now c.split_at.result.1.now c.in_ok-copy_pairs.field-0.items c.in_ok-copy_pairs-2.field-0.items front back c.in_ok-copy_pairs.ensures c.in_ok-copy_pairs-2.ensures in
    (omega (arith, n, all, c.requires.whole), omega (arith, m, all, c.requires.whole))

pub returns-clause-some : goal.returns-clause-some
returns-clause-some g c =
    let front = c.split_at.ensures.front ∙ ap (take (c.len.result / 2)) c.as_slice.ensures.value in
    let back = c.split_at.ensures.back ∙ ap (drop (c.len.result / 2)) c.as_slice.ensures.value in
    let all : c.len.result ≡ length c.args.self.now.entries.items = omega (arith, c.len.ensures, c.as_slice.ensures.len, ap length c.as_slice.ensures.value) in
    let n = first_length c.args.self.now.entries.items (c.len.result / 2) c.split_at.result.0.now c.split_at.result.1.now c.in_ok-copy_pairs.field-0.items c.in_ok-copy_pairs-2.field-0.items front back c.in_ok-copy_pairs.ensures c.in_ok-copy_pairs-2.ensures (omega (arith, all)) in
    let m = last_length c.args.self.now.entries.items (c.len.result / 2) c.split_at.result.0.now c.split_at.result.1.now c.in_ok-copy_pairs.field-0.items c.in_ok-copy_pairs-2.field-0.items front back c.in_ok-copy_pairs.ensures c.in_ok-copy_pairs-2.ensures in
    (omega (arith, n, all, c.requires.full), omega (arith, m, all, c.requires.full))

pub returns-clause-room : goal.returns-clause-room
returns-clause-room g c =
    let front = c.split_at.ensures.front ∙ ap (take (c.len.result / 2)) c.as_slice.ensures.value in
    let back = c.split_at.ensures.back ∙ ap (drop (c.len.result / 2)) c.as_slice.ensures.value in
    let all : c.len.result ≡ length c.args.self.now.entries.items = omega (arith, c.len.ensures, c.as_slice.ensures.len, ap length c.as_slice.ensures.value) in
    let n = first_length c.args.self.now.entries.items (c.len.result / 2) c.split_at.result.0.now c.split_at.result.1.now c.in_ok-copy_pairs.field-0.items c.in_ok-copy_pairs-2.field-0.items front back c.in_ok-copy_pairs.ensures c.in_ok-copy_pairs-2.ensures (omega (arith, all)) in
    let m = last_length c.args.self.now.entries.items (c.len.result / 2) c.split_at.result.0.now c.split_at.result.1.now c.in_ok-copy_pairs.field-0.items c.in_ok-copy_pairs-2.field-0.items front back c.in_ok-copy_pairs.ensures c.in_ok-copy_pairs-2.ensures in
    (omega (arith, n, all, c.requires.whole, c.requires.full), omega (arith, m, all, c.requires.whole, c.requires.full))
