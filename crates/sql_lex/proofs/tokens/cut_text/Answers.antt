use Rattle.std.proofs.Common.{◌≡◌, ◌<◌, true, false, length, get_or, Some, None, sym, ap, ◌∙◌, subst, arith, inr, true-eqb, false-eqb, length-drop}
use Rattle.sql_lex.specs.Bytes.{is_blank}
use Rattle.sql_lex.specs.inner.Pieces.{piece}
use Rattle.sql_lex.proofs.Boundaries.{after_blank, after_blank_utf8, after_piece, after_piece_utf8}
use Rattle.sql_lex.proofs.Lexing.{IsLexedUpTo, lexed_nothing, lexed_blank, lexed_token, lexed_fault, lexed_all, piece_within}
use Rattle.sql_lex.proofs.tokens.cut_text.Goals as goal

pub loop-rest-init : goal.loop-rest-init
loop-rest-init c = record {
  lexed = subst (λ l. IsLexedUpTo c.args.text.now l c.args.text.now) (sym c.new-tokens.ensures.items) (lexed_nothing c.args.text.now);
  utf8 = c.utf8.text;
}

pub split_at-requires : goal.split_at-requires
split_at-requires c =
    let rest = c.loop-rest.rest.now in
    let some : 0 < length rest = omega (arith, false-eqb _ 0 c.loop-rest-test.ensures) in
    let blank : is_blank (get_or rest 0 0) ≡ true = sym (c.is_blank.ensures ∙ ap (λ l. is_blank (get_or l 0 0)) c.as_bytes.ensures.value) ∙ c.if-is_blank.true in
    after_blank rest c.loop-rest.invariant.utf8 some blank

pub loop-rest-preserved-then-is_blank : goal.loop-rest-preserved-then-is_blank
loop-rest-preserved-then-is_blank c =
    let rest = c.loop-rest.rest.now in
    let some : 0 < length rest = omega (arith, false-eqb _ 0 c.loop-rest-test.ensures) in
    let blank : is_blank (get_or rest 0 0) ≡ true = sym (c.is_blank.ensures ∙ ap (λ l. is_blank (get_or l 0 0)) c.as_bytes.ensures.value) ∙ c.if-is_blank.true in
    record {
      lexed = lexed_blank c.args.text.now c.loop-rest.tokens.items rest c.split_at.result.1.now c.loop-rest.invariant.lexed some blank c.split_at.ensures.back;
      utf8 = after_blank_utf8 rest c.split_at.result.1.now c.loop-rest.invariant.utf8 some blank c.split_at.ensures.back;
    }

pub returns-in-None : goal.returns-in-None
returns-in-None c =
    let rest = c.loop-rest.rest.now in
    let some : 0 < length rest = omega (arith, false-eqb _ 0 c.loop-rest-test.ensures) in
    let other : is_blank (get_or rest 0 0) ≡ false = sym (c.is_blank.ensures ∙ ap (λ l. is_blank (get_or l 0 0)) c.as_bytes.ensures.value) ∙ c.if-is_blank.false in
    let none : piece rest ≡ None = sym c.in_ok-found.ensures ∙ c.in-None.is in
    inr (lexed_fault c.args.text.now c.loop-rest.tokens.items rest c.loop-rest.invariant.lexed some other none)

pub split_at-requires-in-loop-rest : goal.split_at-requires-in-loop-rest
split_at-requires-in-loop-rest c =
    let found : piece c.loop-rest.rest.now ≡ Some c.in-Some.found = sym c.in_ok-found.ensures ∙ c.in-Some.is in
    after_piece c.loop-rest.rest.now c.in-Some.found c.loop-rest.invariant.utf8 found

pub loop-rest-smaller : goal.loop-rest-smaller
loop-rest-smaller c =
    let rest = c.loop-rest.rest.now in
    let found : piece rest ≡ Some c.in-Some.found = sym c.in_ok-found.ensures ∙ c.in-Some.is in
    let within = piece_within rest c.in-Some.found found in
    omega (arith, within.0, within.1, ap length c.split_at-in-loop-rest.ensures.back, length-drop c.in-Some.found.len rest)

pub loop-rest-preserved : goal.loop-rest-preserved
loop-rest-preserved c =
    let rest = c.loop-rest.rest.now in
    let other : is_blank (get_or rest 0 0) ≡ false = sym (c.is_blank.ensures ∙ ap (λ l. is_blank (get_or l 0 0)) c.as_bytes.ensures.value) ∙ c.if-is_blank.false in
    let found : piece rest ≡ Some c.in-Some.found = sym c.in_ok-found.ensures ∙ c.in-Some.is in
    let lexed = lexed_token c.args.text.now c.loop-rest.tokens.items rest c.split_at-in-loop-rest.result.1.now c.in-Some.found c.loop-rest.invariant.lexed other found c.split_at-in-loop-rest.ensures.back in
    record {
      lexed = subst (λ l. IsLexedUpTo c.args.text.now l c.split_at-in-loop-rest.result.1.now) (sym c.in_ok-push.ensures.items) lexed;
      utf8 = after_piece_utf8 rest c.split_at-in-loop-rest.result.1.now c.in-Some.found c.loop-rest.invariant.utf8 found c.split_at-in-loop-rest.ensures.back;
    }

pub returns : goal.returns
returns c = lexed_all c.args.text.now c.loop-rest.tokens.items c.loop-rest.rest.now c.loop-rest.invariant.lexed (true-eqb _ 0 c.loop-rest-test.ensures)
