-- Laws: the tokens that a text is cut into are slices of it.
use Rattle.std.proofs.Common.{◌≡◌, ◌<◌, ◌-◌, ℕ, List, [], ◌∷◌, ◌++◌, length, take, drop, Result, Ok, Err, IfOk, refl, sym, ap, ◌∙◌, subst, arith, append_assoc, length-append, slice_range}
use Rattle.std.proofs.Math.Seq.{take-append_seam, drop-append_seam}
use Rattle.geo_base.specs.Results.{Gives}
use Rattle.sql_lex.specs.declared.token.LexFault.{LexFault}
use Rattle.sql_lex.specs.declared.token.LexFault.TheVariants.{NoMemory}
use Rattle.sql_lex.specs.declared.token.Token.{Token}
use Rattle.sql_lex.specs.inner.Tokens.{tokens_of}
use Rattle.sql_lex.specs.Grammar.{Spells, AreCutFrom, AreTokensOf, AreSlicesFrom}
use Rattle.sql_lex.specs.laws.Cuts.{tokens_are_cut, spelled_some}

slices : (tokens : List Token) (at : ℕ) (front text rest : List ℕ) → length front ≡ at → AreCutFrom at text tokens rest → AreSlicesFrom at (front ++ text) tokens
slices [] at front text rest len cut = omega (arith, len, length-append front text)
slices (t ∷ tokens) at front text rest len cut =
    let first = cut.1 in
    let more = cut.0 in
    let left = front ++ first.blanks in
    let some : 0 < length first.piece = spelled_some t.kind first.piece first.spells in
    let from : t.from ≡ length left = omega (arith, first.from, len, length-append front first.blanks) in
    let size : t.to - t.from ≡ length first.piece = omega (arith, first.to) in
    let whole : front ++ text ≡ left ++ (first.piece ++ more) = ap (λ l. front ++ l) first.whole ∙ sym (append_assoc front first.blanks (first.piece ++ more)) in
    let slice : slice_range (front ++ text) t.from t.to ≡ first.piece =
    (λ i. take (size i) (drop (from i) (whole i))) ∙ ap (take (length first.piece)) (drop-append_seam left (first.piece ++ more)) ∙ take-append_seam first.piece more in
    let after : (left ++ first.piece) ++ more ≡ front ++ text = append_assoc left first.piece more ∙ sym whole in (
      omega (arith, first.from),
      omega (arith, first.to, some),
      subst (Spells t.kind) (sym slice) first.spells,
      subst (λ l. AreSlicesFrom t.to l tokens) after (slices tokens t.to (left ++ first.piece) more rest (omega (arith, from, first.to, length-append left first.piece)) cut.2),
    )

pub cut_is_slices : (text : List ℕ) (tokens : List Token) → AreTokensOf tokens text → AreSlicesFrom 0 text tokens
cut_is_slices text tokens cut = slices tokens 0 [] text [] refl cut

pub tokens_are_slices : (text : List ℕ) (tokens : List Token) → tokens_of text ≡ Ok tokens → AreSlicesFrom 0 text tokens
tokens_are_slices text tokens e = cut_is_slices text tokens (tokens_are_cut text tokens e)

pub answer_slices : {X : Type 0} (view : X → List Token) (text : List ℕ) (answer : Result X LexFault) → Gives NoMemory view answer (tokens_of text) →
    IfOk answer (λ found. AreSlicesFrom 0 text (view found))
answer_slices view text (Ok found) is = tokens_are_slices text (view found) is
answer_slices view text (Err fault) is = tt
