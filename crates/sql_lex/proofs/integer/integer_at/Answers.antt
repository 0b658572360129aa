use Rattle.std.proofs.Common.{◌≡◌, take, IsCharBoundary, sym, ap, ◌∙◌, subst}
use Rattle.std.specs.Char.{is_ascii_digit}
use Rattle.std.specs.List.{prefix_len, list_all}
use Rattle.sql_lex.proofs.Boundaries.{after_digits}
use Rattle.sql_lex.specs.laws.Fronts.{passing}
use Rattle.sql_lex.proofs.integer.integer_at.Goals as goal

pub split_at-requires : goal.split_at-requires
split_at-requires c =
    let e : c.digits_len-len.result ≡ prefix_len is_ascii_digit c.args.text.now = c.digits_len-len.ensures.value ∙ ap (prefix_len is_ascii_digit) c.as_bytes-bytes.ensures.value in
    subst (IsCharBoundary c.args.text.now) (sym e) (after_digits c.args.text.now c.utf8.text c.requires)

pub value_of-requires-clause-digits : goal.value_of-requires-clause-digits
value_of-requires-clause-digits c =
    let e : c.digits_len-len.result ≡ prefix_len is_ascii_digit c.args.text.now = c.digits_len-len.ensures.value ∙ ap (prefix_len is_ascii_digit) c.as_bytes-bytes.ensures.value in
    ap (list_all is_ascii_digit) (c.split_at.ensures.front ∙ ap (λ n. take n c.args.text.now) e) ∙ passing is_ascii_digit c.args.text.now
