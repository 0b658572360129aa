-- Texts that are tokens of given kinds, put together piece by piece.
use Rattle.std.proofs.Common.{◌≡◌, ◌≢◌, ◌≤◌, ◌+◌, ℕ, inl, inr, false, List, [], ◌∷◌, ◌++◌, length, get_or, Ok, refl, sym, ap, ◌∙◌, subst, arith, append_assoc, add-zero}
use Rattle.std.proofs.lemmas.Bool.Decides.{nat_tests}
use Rattle.std.proofs.lemmas.List.{map-append}
use Rattle.sql_lex.specs.declared.symbol.Symbol.{Symbol}
use Rattle.sql_lex.specs.declared.symbol.Symbol.TheVariants as symbol
use Rattle.sql_lex.specs.declared.token.Token.{Token}
use Rattle.sql_lex.specs.declared.token.TokenKind.{TokenKind}
use Rattle.sql_lex.specs.declared.token.TokenKind.TheVariants as kind
use Rattle.sql_lex.specs.Bytes.{is_blank, is_in_word}
use Rattle.sql_lex.specs.Symbols.{symbol_bytes}
use Rattle.sql_lex.specs.inner.Tokens.{tokens_of}
use Rattle.sql_lex.specs.Grammar.{Spells, Lengthens, EndsAt, AreCutFrom}
use Rattle.sql_lex.specs.laws.Cuts.{cut_is_tokens}
use Rattle.sql_parse.specs.Places.{kinds_of}
use Rattle.sql_parse.specs.Trees.{Role, Mark, mark, kinds}

-- ---- texts

-- wherever it stands, the text is tokens of these kinds
abbrev pub IsCut : List TokenKind → List ℕ → Type 0
IsCut kinds text = (at : ℕ) → (tokens : List Token) × AreCutFrom at text tokens [] × (kinds_of tokens ≡ kinds)

pub cut_nothing : IsCut [] []
cut_nothing at = ([], ([], refl, refl), refl)

blank_before : (at : ℕ) (text : List ℕ) (tokens : List Token) → AreCutFrom (at + 1) text tokens [] → AreCutFrom at (32 ∷ text) tokens []
unfolding is_blank
blank_before at text [] cut = (32 ∷ cut.0, ap (λ l. 32 ∷ l) cut.1, cut.2)
blank_before at text (t ∷ tokens) cut =
    let first = cut.1 in (
      cut.0,
      record {
        blanks = 32 ∷ first.blanks;
        piece = first.piece;
        whole = ap (λ l. 32 ∷ l) first.whole;
        apart = first.apart;
        spells = first.spells;
        ends = first.ends;
        from = omega (arith, first.from);
        to = first.to;
      },
      cut.2,
    )

cut_blank : (ks : List TokenKind) (text : List ℕ) → IsCut ks text → IsCut ks (32 ∷ text)
cut_blank ks text cut at = let t = cut (at + 1) in (t.0, blank_before at text t.0 t.1, t.2)

cut_token : (k : TokenKind) (piece : List ℕ) (ks : List TokenKind) (more : List ℕ) → Spells k piece → EndsAt k more → IsCut ks more → IsCut (k ∷ ks) (piece ++ more)
cut_token k piece ks more spells ends cut at =
    let t = cut (at + length piece) in
    let token : Token = record { kind = k; from = at; to = at + length piece } in (
      token ∷ t.0,
      (
        more,
        record {
          blanks = [];
          piece = piece;
          whole = refl;
          apart = refl;
          spells = spells;
          ends = ends;
          from = sym (add-zero at);
          to = refl;
        },
        t.1,
      ),
      ap (λ l. k ∷ l) t.2,
    )

-- the tokens of such a text
pub tokens_of_cut : (ks : List TokenKind) (text : List ℕ) → IsCut ks text → (tokens : List Token) × (tokens_of text ≡ Ok tokens) × (kinds_of tokens ≡ ks)
tokens_of_cut ks text cut = let t = cut 0 in (t.0, cut_is_tokens text t.0 t.1, t.2)

-- ---- what may follow

-- no token but `<` or `>` goes on with the first byte, nor do they
pub record IsApart (rest : List ℕ) : Type 0 where
  pub low : get_or rest 0 0 ≤ 46
  pub no_quote : get_or rest 0 0 ≢ 39

-- the text keeps apart what it follows
pub record Opens (text : List ℕ) : Type 0 where
  pub apart : (rest : List ℕ) → IsApart (text ++ rest)

pub opens_by : (b : ℕ) (text : List ℕ) → b ≤ 46 → b ≢ 39 → Opens (b ∷ text)
opens_by b text low no_quote = record { apart = λ rest. record { low = low; no_quote = no_quote } }

pub opens_blank : (text : List ℕ) → Opens (32 ∷ text)
opens_blank text = opens_by 32 text (omega arith) (omega arith)

-- the text does, or is nothing
pub record MayOpen (text : List ℕ) : Type 0 where
  pub apart : (rest : List ℕ) → IsApart rest → IsApart (text ++ rest)

pub nothing_opens : MayOpen []
nothing_opens = record { apart = λ rest apart. apart }

pub blank_opens : (text : List ℕ) → MayOpen (32 ∷ text)
blank_opens text = record { apart = λ rest apart. (opens_blank text).apart rest }

low_in_no_word : (b : ℕ) → b ≤ 46 → is_in_word b ≡ false
unfolding is_in_word
low_in_no_word b low = grind (arith, nat_tests)

ends : (k : TokenKind) (rest : List ℕ) → IsApart rest → EndsAt k rest
ends (kind.Name name) rest apart = low_in_no_word (get_or rest 0 0) apart.low
ends (kind.Keyword k) rest apart = low_in_no_word (get_or rest 0 0) apart.low
ends (kind.Int n) rest apart = low_in_no_word (get_or rest 0 0) apart.low
ends (kind.Text text) rest apart = apart.no_quote
ends (kind.Symbol s) rest apart = by s
  where
    by : (s : Symbol) → Lengthens (get_or rest 0 0) s → ⊥
    by symbol.Less (inl is) = omega (arith, apart.low, is)
    by symbol.Less (inr is) = omega (arith, apart.low, is)
    by symbol.More is = omega (arith, apart.low, is)
    by symbol.Open h = h
    by symbol.Close h = h
    by symbol.Comma h = h
    by symbol.Dot h = h
    by symbol.Star h = h
    by symbol.Plus h = h
    by symbol.Minus h = h
    by symbol.Slash h = h
    by symbol.Equal h = h
    by symbol.Differ h = h
    by symbol.LessEqual h = h
    by symbol.MoreEqual h = h

-- ---- pieces

-- the text is these tokens, where what follows it keeps apart
pub record Prints (marks : List Mark) (text : List ℕ) : Type 0 where
  pub cut : (ks : List TokenKind) (rest : List ℕ) → IsApart rest → IsCut ks rest → IsCut (kinds marks ++ ks) (text ++ rest)

-- the text is these tokens, whatever follows it
pub record PrintsAlone (marks : List Mark) (text : List ℕ) : Type 0 where
  pub cut : (ks : List TokenKind) (rest : List ℕ) → IsCut ks rest → IsCut (kinds marks ++ ks) (text ++ rest)

pub loose : {ms : List Mark} {a : List ℕ} → PrintsAlone ms a → Prints ms a
loose p = record { cut = λ ks rest apart cut. p.cut ks rest cut }

-- two pieces are one
together : (ms ns : List Mark) (a b : List ℕ) (ks : List TokenKind) (rest : List ℕ) → IsCut (kinds ms ++ (kinds ns ++ ks)) (a ++ (b ++ rest)) → IsCut (kinds (ms ++ ns) ++ ks) ((a ++ b) ++ rest)
together ms ns a b ks rest cut =
    let k : kinds (ms ++ ns) ++ ks ≡ kinds ms ++ (kinds ns ++ ks) = ap (λ l. l ++ ks) (map-append (λ m. m.kind) ms ns) ∙ append_assoc (kinds ms) (kinds ns) ks in
    subst (λ l. IsCut l ((a ++ b) ++ rest)) (sym k) (subst (IsCut (kinds ms ++ (kinds ns ++ ks))) (sym (append_assoc a b rest)) cut)

pub behind : {ms ns : List Mark} {a b : List ℕ} → Prints ms a → MayOpen b → Prints ns b → Prints (ms ++ ns) (a ++ b)
behind {ms} {ns} {a} {b} p o q = record {
  cut = λ ks rest apart cut. together ms ns a b ks rest (p.cut (kinds ns ++ ks) (b ++ rest) (o.apart rest apart) (q.cut ks rest apart cut));
}

pub behind_alone : {ms ns : List Mark} {a b : List ℕ} → Prints ms a → Opens b → PrintsAlone ns b → PrintsAlone (ms ++ ns) (a ++ b)
behind_alone {ms} {ns} {a} {b} p o q = record {
  cut = λ ks rest cut. together ms ns a b ks rest (p.cut (kinds ns ++ ks) (b ++ rest) (o.apart rest) (q.cut ks rest cut));
}

pub after : {ms ns : List Mark} {a b : List ℕ} → PrintsAlone ms a → Prints ns b → Prints (ms ++ ns) (a ++ b)
after {ms} {ns} {a} {b} p q = record {
  cut = λ ks rest apart cut. together ms ns a b ks rest (p.cut (kinds ns ++ ks) (b ++ rest) (q.cut ks rest apart cut));
}

pub both : {ms ns : List Mark} {a b : List ℕ} → PrintsAlone ms a → PrintsAlone ns b → PrintsAlone (ms ++ ns) (a ++ b)
both {ms} {ns} {a} {b} p q = record {
  cut = λ ks rest cut. together ms ns a b ks rest (p.cut (kinds ns ++ ks) (b ++ rest) (q.cut ks rest cut));
}

pub nothing : Prints [] []
nothing = record { cut = λ ks rest apart cut. cut }

-- a blank behind keeps all apart
pub spaced : {ms : List Mark} {a : List ℕ} → Prints ms a → PrintsAlone ms (a ++ 32 ∷ [])
spaced {ms} {a} p = record {
  cut = λ ks rest cut. subst (IsCut (kinds ms ++ ks)) (sym (append_assoc a (32 ∷ []) rest))
      (p.cut ks (32 ∷ rest) (record { low = omega arith; no_quote = omega arith }) (cut_blank ks rest cut));
}

pub indented : {ms : List Mark} {a : List ℕ} → Prints ms a → Prints ms (32 ∷ a)
indented {ms} {a} p = record { cut = λ ks rest apart cut. cut_blank (kinds ms ++ ks) (a ++ rest) (p.cut ks rest apart cut) }

pub indented_alone : {ms : List Mark} {a : List ℕ} → PrintsAlone ms a → PrintsAlone ms (32 ∷ a)
indented_alone {ms} {a} p = record { cut = λ ks rest cut. cut_blank (kinds ms ++ ks) (a ++ rest) (p.cut ks rest cut) }

-- ---- tokens

pub token : (role : Role) (k : TokenKind) (piece : List ℕ) → Spells k piece → Prints (mark role k ∷ []) piece
token role k piece spells = record { cut = λ ks rest apart cut. cut_token k piece ks rest spells (ends k rest apart) cut }

-- a symbol that no byte lengthens
pub lone : (role : Role) (s : Symbol) → ((next : ℕ) → Lengthens next s → ⊥) → PrintsAlone (mark role (kind.Symbol s) ∷ []) (symbol_bytes s)
lone role s short = record { cut = λ ks rest cut. cut_token (kind.Symbol s) (symbol_bytes s) ks rest refl (short (get_or rest 0 0)) cut }
