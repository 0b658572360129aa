use Rattle.std.proofs.Common.{[], ◌∷◌, ◌-◌, drop, Some, ◌≡◌, ◌<◌, ◌≤◌, ◌++◌, length, get_or, string_bytes, IsUtf8, IsCharBoundary, sym, ap, ◌∙◌, subst, arith, length-append, true-eqb, false-eqb}
use Rattle.std.specs.List.{prefix_len}
use Rattle.geo_base.specs.declared.limits.TheConstants.{MAX_TEXT_BYTES}
use Rattle.sql_lex.specs.inner.Quoted.{is_plain}
use Rattle.sql_lex.proofs.Boundaries.{some_byte, before_quote, after_one, from_quote_utf8, from_quote_quote, after_one_utf8}
use Rattle.sql_lex.proofs.Quotes.{IsReadUpTo, read_run_at, read_quotes, unclosed, too_long, closed}
use Rattle.sql_lex.proofs.quoted.content_of.Goals as goal
use Rattle.sql_lex.proofs.quoted.content_of.Goals.{After-split_at}

run : (c : After-split_at) → c.plain_len.result ≡ prefix_len is_plain c.loop-plain.rest.now
run c = c.plain_len.ensures.value ∙ ap (prefix_len is_plain) c.as_bytes.ensures.value

-- what is read up to the quote
read : (c : After-split_at) → IsReadUpTo c.args.quoted.now (string_bytes c.loop-plain.content ++ c.split_at.result.0.now) c.split_at.result.1.now
read c = read_run_at _ _ c.loop-plain.rest.now _ _ c.plain_len.result c.loop-plain.invariant.read (run c) c.split_at.ensures.front c.split_at.ensures.back

utf8_there : (c : After-split_at) → IsUtf8 c.split_at.result.1.now
utf8_there c = from_quote_utf8 c.loop-plain.rest.now _ c.plain_len.result c.loop-plain.invariant.utf8 (run c) c.split_at.ensures.back

quote_there : (c : After-split_at) → 0 < length c.split_at.result.1.now → get_or c.split_at.result.1.now 0 0 ≡ 39
quote_there c some = from_quote_quote c.loop-plain.rest.now _ c.plain_len.result (run c) c.split_at.ensures.back some

pub split_at-requires : goal.split_at-requires
split_at-requires c =
    let run : c.plain_len.result ≡ prefix_len is_plain c.loop-plain.rest.now = c.plain_len.ensures.value ∙ ap (prefix_len is_plain) c.as_bytes.ensures.value in
    subst (IsCharBoundary c.loop-plain.rest.now) (sym run) (before_quote c.loop-plain.rest.now)

pub returns-then-is_empty-clause-content : goal.returns-then-is_empty-clause-content
returns-then-is_empty-clause-content c =
    let empty : length c.split_at.result.1.now ≡ 0 = true-eqb _ 0 c.if-is_empty.ensures in
    sym (unclosed c.args.quoted.now (string_bytes c.loop-plain.content ++ c.split_at.result.0.now) c.split_at.result.1.now (read (goal.at.returns-then-is_empty-clause-content c).After-split_at) empty)

pub returns-then-len-plain-gt-MAX_TEXT_BYTES-clause-content : goal.returns-then-len-plain-gt-MAX_TEXT_BYTES-clause-content
returns-then-len-plain-gt-MAX_TEXT_BYTES-clause-content c =
    let long : MAX_TEXT_BYTES < length (string_bytes c.loop-plain.content ++ c.split_at.result.0.now) = omega (arith, length-append (string_bytes c.loop-plain.content) c.split_at.result.0.now) in
    sym (too_long c.args.quoted.now (string_bytes c.loop-plain.content ++ c.split_at.result.0.now) c.split_at.result.1.now (read (goal.at.returns-then-len-plain-gt-MAX_TEXT_BYTES-clause-content c).After-split_at) long)

pub split_at-requires-in-loop-plain : goal.split_at-requires-in-loop-plain
split_at-requires-in-loop-plain c =
    let at = (goal.at.split_at-requires-in-loop-plain c).After-split_at in
    let some : 0 < length c.split_at.result.1.now = omega (arith, false-eqb _ 0 c.if-is_empty.ensures) in
    after_one c.split_at.result.1.now (utf8_there at) some (omega (arith, quote_there at some))

pub split_at-requires-in-loop-plain-2 : goal.split_at-requires-in-loop-plain-2
split_at-requires-in-loop-plain-2 c =
    let at = (goal.at.split_at-requires-in-loop-plain-2 c).After-split_at in
    let after = c.split_at-in-loop-plain.result.1.now in
    let some : 0 < length c.split_at.result.1.now = omega (arith, false-eqb _ 0 c.if-is_empty.ensures) in
    let second : get_or after 0 0 ≡ 39 = sym (c.byte_at.ensures ∙ ap (λ l. get_or l 0 0) c.as_bytes-in-loop-plain.ensures.value) ∙ c.if-byte_at-ne39.false in
    let utf8 : IsUtf8 after = after_one_utf8 c.split_at.result.1.now after (utf8_there at) some (omega (arith, quote_there at some)) c.split_at-in-loop-plain.ensures.back in
    after_one after utf8 (some_byte after second) (omega (arith, second))

pub loop-plain-preserved : goal.loop-plain-preserved
loop-plain-preserved c =
    let at = (goal.at.loop-plain-preserved c).After-split_at in
    let whole = c.args.quoted.now in
    let from_quote = c.split_at.result.1.now in
    let after = c.split_at-in-loop-plain.result.1.now in
    let done = string_bytes c.loop-plain.content ++ c.split_at.result.0.now in
    let some : 0 < length from_quote = omega (arith, false-eqb _ 0 c.if-is_empty.ensures) in
    let second : get_or after 0 0 ≡ 39 = sym (c.byte_at.ensures ∙ ap (λ l. get_or l 0 0) c.as_bytes-in-loop-plain.ensures.value) ∙ c.if-byte_at-ne39.false in
    let utf8 : IsUtf8 after = after_one_utf8 from_quote after (utf8_there at) some (omega (arith, quote_there at some)) c.split_at-in-loop-plain.ensures.back in
    let read : IsReadUpTo whole (done ++ 39 ∷ []) (drop 1 (drop 1 from_quote)) =
    read_quotes whole done from_quote (read at) (quote_there at some) (ap (λ l. get_or l 0 0) (sym c.split_at-in-loop-plain.ensures.back) ∙ second) in
    let bytes : string_bytes c.push_str-in-loop-plain.new.self ≡ done ++ 39 ∷ [] = c.in_ok-push_str-2.ensures.bytes ∙ ap (λ l. l ++ 39 ∷ []) c.in_ok-push_str.ensures.bytes in
    let left : c.split_at-in-loop-plain-2.result.1.now ≡ drop 1 (drop 1 from_quote) = c.split_at-in-loop-plain-2.ensures.back ∙ ap (drop 1) c.split_at-in-loop-plain.ensures.back in
    record {
      read = subst (λ l. IsReadUpTo whole l c.split_at-in-loop-plain-2.result.1.now) (sym bytes) (subst (IsReadUpTo whole (done ++ 39 ∷ [])) (sym left) read);
      utf8 = after_one_utf8 after c.split_at-in-loop-plain-2.result.1.now utf8 (some_byte after second) (omega (arith, second)) c.split_at-in-loop-plain-2.ensures.back;
    }

pub returns-then-byte_at-ne39-clause-content : goal.returns-then-byte_at-ne39-clause-content
returns-then-byte_at-ne39-clause-content c =
    let at = (goal.at.returns-then-byte_at-ne39-clause-content c).After-split_at in
    let whole = c.args.quoted.now in
    let from_quote = c.split_at.result.1.now in
    let after = c.split_at-in-loop-plain.result.1.now in
    let done = string_bytes c.loop-plain.content ++ c.split_at.result.0.now in
    let some : 0 < length from_quote = omega (arith, false-eqb _ 0 c.if-is_empty.ensures) in
    let there : c.byte_at.result ≡ get_or after 0 0 = c.byte_at.ensures ∙ ap (λ l. get_or l 0 0) c.as_bytes-in-loop-plain.ensures.value in
    let other : get_or (drop 1 from_quote) 0 0 ≡ 39 → ⊥ = λ is. c.if-byte_at-ne39.true (there ∙ ap (λ l. get_or l 0 0) c.split_at-in-loop-plain.ensures.back ∙ is) in
    let few : length done ≤ MAX_TEXT_BYTES = omega (arith, length-append (string_bytes c.loop-plain.content) c.split_at.result.0.now) in
    let found = closed whole done from_quote (read at) (quote_there at some) other few in
    let bytes : done ≡ string_bytes c.push_str.new.self = sym c.in_ok-push_str.ensures.bytes in
    let left : length whole - length (drop 1 from_quote) ≡ length whole - length after = ap (λ l. length whole - length l) (sym c.split_at-in-loop-plain.ensures.back) in
    sym (found ∙ (λ i. Some (bytes i, left i)))
