-- The parts of a list that are read so far, beside the reading of the others.
use Rattle.std.proofs.Common.{◌≡◌, ℕ, zero, suc, ◌+◌, ◌-◌, ◌<◌, ◌≤◌, true, false, List, [], ◌∷◌, ◌++◌, length, Ok, Err, sym, ap, ◌∙◌, subst, refl, arith, append_assoc, append-nil}
use Rattle.sql_lex.specs.declared.symbol.Symbol.TheVariants.{Comma}
use Rattle.sql_lex.specs.declared.token.TokenKind.{TokenKind}
use Rattle.sql_parse.specs.declared.stop.Stop.{Stop}
use Rattle.sql_parse.specs.inner.Kinds.{is_symbol}
use Rattle.sql_parse.specs.inner.Reading.{Outcome, Parser, and_then, pure, begins, symbol, others, separated}

-- the parts, and then what is read of the others, at most so many
abbrev pub read_on : {A : Type 0} → Parser A → List A → ℕ → Parser (List A)
read_on p parts n tokens = and_then (others n p tokens) (λ more. pure (parts ++ more))

-- the whole list is what was read of it and what is read on
pub record IsReadUpTo {A : Type 0} (p : Parser A) (all : Outcome (List A)) (parts : List A) (turns : ℕ) (tokens : List TokenKind) : Type 0 where
  pub rest : all ≡ read_on p parts turns tokens

-- a turn more is left
pub one_turn : {A : Type 0} (p : Parser A) (all : Outcome (List A)) (parts : List A) (end at : ℕ) (tokens : List TokenKind) →
    at < end → IsReadUpTo p all parts (end - at) tokens → IsReadUpTo p all parts (suc (end - (at + 1))) tokens
one_turn p all parts end at tokens below so_far =
    let turns : end - at ≡ suc (end - (at + 1)) = omega arith in
    subst (λ n. IsReadUpTo p all parts n tokens) turns so_far

-- no turn is left
pub no_turn : {A : Type 0} (p : Parser A) (all : Outcome (List A)) (parts : List A) (end at : ℕ) (tokens : List TokenKind) →
    end ≤ at → IsReadUpTo p all parts (end - at) tokens → IsReadUpTo p all parts zero tokens
no_turn p all parts end at tokens past so_far =
    let turns : end - at ≡ zero = omega arith in
    subst (λ n. IsReadUpTo p all parts n tokens) turns so_far

-- no comma comes next
pub read_ended : {A : Type 0} (p : Parser A) (all : Outcome (List A)) (parts : List A) (turns : ℕ) (tokens : List TokenKind) →
    IsReadUpTo p all parts (suc turns) tokens → begins (is_symbol Comma) tokens ≡ false → all ≡ Ok (parts, tokens)
read_ended p all parts turns tokens so_far none = so_far.rest ∙ rw none (ap (λ l. Ok (l, tokens)) (append-nil parts))

-- the list is over where no turn is left
pub read_all : {A : Type 0} (p : Parser A) (all : Outcome (List A)) (parts : List A) (tokens : List TokenKind) →
    IsReadUpTo p all parts zero tokens → all ≡ Ok (parts, tokens)
read_all p all parts tokens so_far = so_far.rest ∙ ap (λ l. Ok (l, tokens)) (append-nil parts)

-- a comma and a part come next
pub read_more : {A : Type 0} (p : Parser A) (all : Outcome (List A)) (parts : List A) (turns : ℕ) (tokens behind new : List TokenKind) (part : A) →
    IsReadUpTo p all parts (suc turns) tokens → begins (is_symbol Comma) tokens ≡ true → symbol Comma tokens ≡ Ok (tt, behind) → p behind ≡ Ok (part, new) →
    IsReadUpTo p all (parts ++ part ∷ []) turns new
read_more {A = A} p all parts turns tokens behind new part so_far comma next read = record { rest = so_far.rest ∙ rw (comma, next, read) (regrouped (others turns p new)) }
  where
    regrouped : (outcome : Outcome (List A)) →
        and_then (and_then outcome (λ more. pure (part ∷ more))) (λ more. pure (parts ++ more)) ≡ and_then outcome (λ more. pure ((parts ++ part ∷ []) ++ more))
    regrouped (Ok read) = ap (λ l. Ok (l, read.1)) (sym (append_assoc parts (part ∷ []) read.0))
    regrouped (Err stop) = refl
