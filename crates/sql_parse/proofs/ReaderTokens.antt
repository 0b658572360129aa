-- Readers of one token.
use denote.Enum.Bare.{same_true, true_same}
use Rattle.std.proofs.Common.{◌≡◌, ◌⊎◌, ℕ, pos, negsuc, List, [], ◌∷◌, drop, length, Bool, true, false, if◌then◌else◌, Ok, Err, refl, sym, ap, ◌∙◌, subst, inl, inr}
use Rattle.sql_lex.specs.declared.keyword.Keyword.{Keyword}
use Rattle.sql_lex.specs.contracts.keyword.Keyword as keywords
use Rattle.sql_lex.specs.declared.symbol.Symbol.{Symbol}
use Rattle.sql_lex.specs.contracts.symbol.Symbol as symbols
use Rattle.sql_lex.specs.declared.token.TokenKind.{TokenKind}
use Rattle.sql_lex.specs.declared.token.TokenKind.TheVariants as kind
use Rattle.sql_parse.specs.declared.stop.Stop.TheVariants.{Stuck}
use Rattle.sql_parse.specs.inner.Kinds.{is_keyword, is_symbol}
use Rattle.sql_parse.specs.inner.Reading.{Outcome, Parser, begins, refuse, keyword, symbol, name, number}
use Rattle.sql_parse.proofs.ReaderParts.{Word, SameFirst}
use Rattle.sql_parse.proofs.ReaderLaws.{Answers, IsReader, IsGiven, IsHeld}
use Rattle.sql_parse.proofs.ReaderSequence.{never}

-- ---- tokens of a kind

pub same_itself : (tokens : List TokenKind) → SameFirst tokens tokens
same_itself [] = tt
same_itself (token ∷ tokens) = refl

-- the parser takes no such tokens, whatever is behind the first of them
abbrev pub Refuses : {A : Type 0} → Parser A → List TokenKind → Type 0
Refuses p tokens = (other : List TokenKind) → SameFirst tokens other → p other ≡ Err (Stuck (length other))

abbrev pub TakesOne : {A : Type 0} → (A → TokenKind) → Parser A → List TokenKind → Type 0
TakesOne {A} kind_of p tokens = ((a : A) × (rest : List TokenKind) × (tokens ≡ kind_of a ∷ rest)) ⊎ Refuses p tokens

-- The parser takes the tokens of a kind.
pub record IsToken {A : Type 0} (kind_of : A → TokenKind) (p : Parser A) : Type 0 where
  pub reads : (a : A) (rest : List TokenKind) → p (kind_of a ∷ rest) ≡ Ok (a, rest)
  pub finds : (tokens : List TokenKind) → TakesOne kind_of p tokens

module _ {A : Type 0} (kind_of : A → TokenKind) (p : Parser A) (token : IsToken kind_of p) where
  token_answer : A → (tokens : List TokenKind) → TakesOne kind_of p tokens → Answers (λ a. Word (kind_of a) ∷ []) (λ a. a) p tokens (p tokens)
  token_answer least tokens (inl found) =
      subst (Answers (λ a. Word (kind_of a) ∷ []) (λ a. a) p tokens) (sym (ap p found.2 ∙ token.reads found.0 found.1)) given
    where
      given : IsGiven (λ a. Word (kind_of a) ∷ []) (λ a. a) p tokens found.0 found.1
      given = record { form = found.0; lawful = tt; fits = tt; whole = sym found.2; means = refl; again = λ other same. token.reads found.0 other }
  token_answer least tokens (inr refuses) =
      subst (Answers (λ a. Word (kind_of a) ∷ []) (λ a. a) p tokens) (sym (refuses tokens (same_itself tokens))) held
    where
      held : IsHeld (λ a. Word (kind_of a) ∷ []) p tokens (length tokens)
      held = record {
        front = [];
        rest = tokens;
        whole = refl;
        place = refl;
        form = least;
        lawful = tt;
        more = kind_of least ∷ [];
        shows = refl;
        again = refuses;
      }

  pub token_reader : A → IsReader (λ a. Word (kind_of a) ∷ []) (λ a. a) never p
  token_reader least = record {
    least = least;
    lawful = tt;
    apart = λ a. tt;
    answers = λ tokens. token_answer least tokens (token.finds tokens);
    complete = λ a rest lawful fits ended. token.reads a rest;
    deep = λ a tokens left lawful over. absurd over.2;
  }

refuses_all : {A : Type 0} (p : Parser A) (token : TokenKind) (behind : List TokenKind) → ((more : List TokenKind) → p (token ∷ more) ≡ Err (Stuck (length (token ∷ more)))) → Refuses p (token ∷ behind)
refuses_all p token behind refuses [] same = absurd same
refuses_all p token behind refuses (first ∷ more) same = subst (λ t. p (t ∷ more) ≡ Err (Stuck (length (t ∷ more)))) same (refuses more)

-- ---- keywords and symbols

is_the_keyword : (k : Keyword) (token : TokenKind) → is_keyword k token ≡ true → token ≡ kind.Keyword k
is_the_keyword k (kind.Keyword other) same = ap kind.Keyword (same_true keywords.the_type tt other k same)
is_the_keyword k (kind.Symbol s) same = cc
is_the_keyword k (kind.Name n) same = cc
is_the_keyword k (kind.Int n) same = cc
is_the_keyword k (kind.Text n) same = cc

is_the_symbol : (s : Symbol) (token : TokenKind) → is_symbol s token ≡ true → token ≡ kind.Symbol s
is_the_symbol s (kind.Symbol other) same = ap kind.Symbol (same_true symbols.the_type tt other s same)
is_the_symbol s (kind.Keyword k) same = cc
is_the_symbol s (kind.Name n) same = cc
is_the_symbol s (kind.Int n) same = cc
is_the_symbol s (kind.Text n) same = cc

pub keyword_itself : (k : Keyword) → is_keyword k (kind.Keyword k) ≡ true
keyword_itself k = true_same keywords.the_type k k refl

pub symbol_itself : (s : Symbol) → is_symbol s (kind.Symbol s) ≡ true
symbol_itself s = true_same symbols.the_type s s refl

abbrev by_test : Bool → List TokenKind → Outcome (Unit {0})
by_test test tokens = if test then Ok (tt, drop 1 tokens) else refuse tokens

pub keyword_token : (k : Keyword) → IsToken {A = Unit {0}} (λ _. kind.Keyword k) (keyword k)
unfolding keyword begins
keyword_token k = record { reads = reads; finds = finds }
  where
    opened : (token : TokenKind) (more : List TokenKind) → keyword k (token ∷ more) ≡ by_test (is_keyword k token) (token ∷ more)
    opened token more = refl

    reads : (a : Unit {0}) (rest : List TokenKind) → keyword k (kind.Keyword k ∷ rest) ≡ Ok (a, rest)
    reads tt rest = opened (kind.Keyword k) rest ∙ ap (λ test. by_test test (kind.Keyword k ∷ rest)) (keyword_itself k)

    by : (token : TokenKind) (more : List TokenKind) (test : Bool) → is_keyword k token ≡ test → TakesOne {A = Unit {0}} (λ _. kind.Keyword k) (keyword k) (token ∷ more)
    by token more true same = inl (tt, more, ap (λ t. t ∷ more) (is_the_keyword k token same))
    by token more false same = inr (refuses_all (keyword k) token more (λ more. opened token more ∙ ap (λ test. by_test test (token ∷ more)) same))

    at_end : (other : List TokenKind) → SameFirst [] other → keyword k other ≡ Err (Stuck (length other))
    at_end [] same = refl
    at_end (token ∷ more) same = absurd same

    finds : (tokens : List TokenKind) → TakesOne {A = Unit {0}} (λ _. kind.Keyword k) (keyword k) tokens
    finds [] = inr at_end
    finds (token ∷ more) = by token more (is_keyword k token) refl

pub symbol_token : (s : Symbol) → IsToken {A = Unit {0}} (λ _. kind.Symbol s) (symbol s)
unfolding symbol begins
symbol_token s = record { reads = reads; finds = finds }
  where
    opened : (token : TokenKind) (more : List TokenKind) → symbol s (token ∷ more) ≡ by_test (is_symbol s token) (token ∷ more)
    opened token more = refl

    reads : (a : Unit {0}) (rest : List TokenKind) → symbol s (kind.Symbol s ∷ rest) ≡ Ok (a, rest)
    reads tt rest = opened (kind.Symbol s) rest ∙ ap (λ test. by_test test (kind.Symbol s ∷ rest)) (symbol_itself s)

    by : (token : TokenKind) (more : List TokenKind) (test : Bool) → is_symbol s token ≡ test → TakesOne {A = Unit {0}} (λ _. kind.Symbol s) (symbol s) (token ∷ more)
    by token more true same = inl (tt, more, ap (λ t. t ∷ more) (is_the_symbol s token same))
    by token more false same = inr (refuses_all (symbol s) token more (λ more. opened token more ∙ ap (λ test. by_test test (token ∷ more)) same))

    at_end : (other : List TokenKind) → SameFirst [] other → symbol s other ≡ Err (Stuck (length other))
    at_end [] same = refl
    at_end (token ∷ more) same = absurd same

    finds : (tokens : List TokenKind) → TakesOne {A = Unit {0}} (λ _. kind.Symbol s) (symbol s) tokens
    finds [] = inr at_end
    finds (token ∷ more) = by token more (is_symbol s token) refl

-- ---- names and numbers

pub name_token : IsToken kind.Name name
unfolding name
name_token = record { reads = reads; finds = finds }
  where
    reads : (a : List ℕ) (rest : List TokenKind) → name (kind.Name a ∷ rest) ≡ Ok (a, rest)
    reads a rest = refl

    at_end : (other : List TokenKind) → SameFirst [] other → name other ≡ Err (Stuck (length other))
    at_end [] same = refl
    at_end (token ∷ more) same = absurd same

    finds : (tokens : List TokenKind) → TakesOne kind.Name name tokens
    finds [] = inr at_end
    finds (kind.Name n ∷ more) = inl (n, more, refl)
    finds (kind.Keyword k ∷ more) = inr (refuses_all name (kind.Keyword k) more (λ more. refl))
    finds (kind.Symbol s ∷ more) = inr (refuses_all name (kind.Symbol s) more (λ more. refl))
    finds (kind.Int n ∷ more) = inr (refuses_all name (kind.Int n) more (λ more. refl))
    finds (kind.Text n ∷ more) = inr (refuses_all name (kind.Text n) more (λ more. refl))

pub number_token : IsToken (λ n. kind.Int (pos n)) number
unfolding number
number_token = record { reads = reads; finds = finds }
  where
    reads : (a : ℕ) (rest : List TokenKind) → number (kind.Int (pos a) ∷ rest) ≡ Ok (a, rest)
    reads a rest = refl

    at_end : (other : List TokenKind) → SameFirst [] other → number other ≡ Err (Stuck (length other))
    at_end [] same = refl
    at_end (token ∷ more) same = absurd same

    finds : (tokens : List TokenKind) → TakesOne (λ n. kind.Int (pos n)) number tokens
    finds [] = inr at_end
    finds (kind.Int (pos n) ∷ more) = inl (n, more, refl)
    finds (kind.Int (negsuc n) ∷ more) = inr (refuses_all number (kind.Int (negsuc n)) more (λ more. refl))
    finds (kind.Keyword k ∷ more) = inr (refuses_all number (kind.Keyword k) more (λ more. refl))
    finds (kind.Symbol s ∷ more) = inr (refuses_all number (kind.Symbol s) more (λ more. refl))
    finds (kind.Name n ∷ more) = inr (refuses_all number (kind.Name n) more (λ more. refl))
    finds (kind.Text n ∷ more) = inr (refuses_all number (kind.Text n) more (λ more. refl))
