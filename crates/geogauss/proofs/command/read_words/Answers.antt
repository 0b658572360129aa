use Rattle.std.proofs.Common.{◌≡◌, ◌∷◌, [], ◌∙◌, sym, ap, rules, string_bytes, refl}
use Rattle.std.specs.Prelude.{map, codes}
use Rattle.geogauss.proofs.ReadLemmas.{one-item}
use Rattle.geogauss.proofs.command.read_words.Goals as goal

pub returns-in-len1 : goal.returns-in-len1
returns-in-len1 c =
    let one = one-item c.as_slice.result.now c.word-item.result c.in-len1.len_below c.in-len1.len_at_least c.word-item.is in
    let same : c.as_str.result.now ≡ codes "play" = search rules in
    let words : c.args.words.now ≡ codes "play" ∷ [] =
    sym c.words.view_is ∙ ap (map string_bytes) (sym c.as_slice.ensures.value ∙ one) ∙ ap (λ t. t ∷ []) (sym c.as_str.ensures.value ∙ same)
    in (refl, words)
