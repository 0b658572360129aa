use Rattle.std.proofs.Common.{◌≡◌, IsCharBoundary, sym, ap, ◌∙◌, subst}
use Rattle.std.specs.List.{prefix_len}
use Rattle.sql_lex.specs.Bytes.{is_in_word}
use Rattle.sql_lex.proofs.Boundaries.{after_word}
use Rattle.sql_lex.proofs.word.word_at.Goals as goal

pub split_at-requires : goal.split_at-requires
split_at-requires c =
    let e : c.word_len-len.result ≡ prefix_len is_in_word c.args.text.now = c.word_len-len.ensures.value ∙ ap (prefix_len is_in_word) c.as_bytes.ensures.value in
    subst (IsCharBoundary c.args.text.now) (sym e) (after_word c.args.text.now c.utf8.text c.requires)
