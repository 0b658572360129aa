-- What is written, in parts: words, and expressions that are each one part.
use Rattle.std.proofs.Common.{◌≡◌, ◌⊎◌, ℕ, ◌+◌, List, [], ◌∷◌, ◌++◌, length, Bool, true, false, refl, sym, ap, ◌∙◌, append_assoc, inl, inr}
use Rattle.sql_lex.specs.declared.token.TokenKind.{TokenKind}
use Rattle.sql_parse.specs.Trees.{Outside, Mark, mark, Tree, marks, kinds}
use Rattle.sql_parse.specs.Grammar.{Exceeds, GoesOn}
use Rattle.sql_parse.proofs.ExpressionLaws.{Fits, NoneExceeds}

-- ---- parts

pub data Part : Type 0 where
  Word : TokenKind → Part
  Phrase : Tree → Part

-- the parts' tokens, and behind them these
abbrev pub before : List Part → List TokenKind → List TokenKind
before [] rest = rest
before (Word kind ∷ parts) rest = kind ∷ before parts rest
before (Phrase tree ∷ parts) rest = kinds (marks tree) ++ before parts rest

abbrev pub parts_marks : List Part → List Mark
parts_marks [] = []
parts_marks (Word kind ∷ parts) = mark Outside kind ∷ parts_marks parts
parts_marks (Phrase tree ∷ parts) = marks tree ++ parts_marks parts

-- each expression is such
abbrev pub Every : (Tree → Type 0) → List Part → Type 0
Every P [] = Unit {0}
Every P (Word kind ∷ parts) = Every P parts
Every P (Phrase tree ∷ parts) = P tree × Every P parts

-- No expression follows another one directly: true says that none is open in front.
abbrev pub Apart : Bool → List Part → Type 0
Apart fresh [] = Unit {0}
Apart fresh (Word kind ∷ parts) = Apart true parts
Apart true (Phrase tree ∷ parts) = Apart false parts
Apart false (Phrase tree ∷ parts) = ⊥

-- whether none is open behind them
abbrev pub fresh_after : Bool → List Part → Bool
fresh_after fresh [] = fresh
fresh_after fresh (Word kind ∷ parts) = fresh_after true parts
fresh_after fresh (Phrase tree ∷ parts) = fresh_after false parts

-- ---- expressions that are too deep

-- The tokens are those of the expression up to its first mark that is one too many.
pub record TooDeep (tree : Tree) (tokens : List TokenKind) (left : ℕ) : Type 0 where
  pub front : List Mark
  pub here : Mark
  pub more : List Mark
  pub rest : List TokenKind
  pub shows : marks tree ≡ front ++ here ∷ more
  pub whole : kinds front ++ here.kind ∷ rest ≡ tokens
  pub place : length rest + 1 ≡ left
  pub goes_on : (behind : List TokenKind) → GoesOn here.kind rest (kinds more ++ behind)
  pub exceeds : Exceeds front here.role
  pub first : NoneExceeds front

-- the tokens are those of the parts up to the first mark that is one too many
abbrev pub Overruns : List Part → List TokenKind → ℕ → Type 0
Overruns [] tokens left = ⊥
Overruns (Word kind ∷ parts) tokens left = (rest : List TokenKind) × (tokens ≡ kind ∷ rest) × Overruns parts rest left
Overruns (Phrase tree ∷ parts) tokens left =
    TooDeep tree tokens left ⊎ ((rest : List TokenKind) × (tokens ≡ kinds (marks tree) ++ rest) × Fits tree × Overruns parts rest left)

-- ---- parts behind parts

pub before_append : (parts others : List Part) (rest : List TokenKind) → before (parts ++ others) rest ≡ before parts (before others rest)
before_append [] others rest = refl
before_append (Word kind ∷ parts) others rest = ap (λ l. kind ∷ l) (before_append parts others rest)
before_append (Phrase tree ∷ parts) others rest = ap (λ l. kinds (marks tree) ++ l) (before_append parts others rest)

pub before_onto : (parts : List Part) (tokens rest : List TokenKind) → before parts (tokens ++ rest) ≡ before parts tokens ++ rest
before_onto [] tokens rest = refl
before_onto (Word kind ∷ parts) tokens rest = ap (λ l. kind ∷ l) (before_onto parts tokens rest)
before_onto (Phrase tree ∷ parts) tokens rest =
    ap (λ l. kinds (marks tree) ++ l) (before_onto parts tokens rest) ∙ sym (append_assoc (kinds (marks tree)) (before parts tokens) rest)

pub every_append : (P : Tree → Type 0) (parts others : List Part) → Every P parts → Every P others → Every P (parts ++ others)
every_append P [] others all more = more
every_append P (Word kind ∷ parts) others all more = every_append P parts others all more
every_append P (Phrase tree ∷ parts) others all more = (all.0, every_append P parts others all.1 more)

pub every_left : (P : Tree → Type 0) (parts others : List Part) → Every P (parts ++ others) → Every P parts
every_left P [] others all = tt
every_left P (Word kind ∷ parts) others all = every_left P parts others all
every_left P (Phrase tree ∷ parts) others all = (all.0, every_left P parts others all.1)

pub every_right : (P : Tree → Type 0) (parts others : List Part) → Every P (parts ++ others) → Every P others
every_right P [] others all = all
every_right P (Word kind ∷ parts) others all = every_right P parts others all
every_right P (Phrase tree ∷ parts) others all = every_right P parts others all.1

pub every_weaker : (P Q : Tree → Type 0) → ((tree : Tree) → P tree → Q tree) → (parts : List Part) → Every P parts → Every Q parts
every_weaker P Q weaker [] all = tt
every_weaker P Q weaker (Word kind ∷ parts) all = every_weaker P Q weaker parts all
every_weaker P Q weaker (Phrase tree ∷ parts) all = (weaker tree all.0, every_weaker P Q weaker parts all.1)

pub every_both : (P Q : Tree → Type 0) (parts : List Part) → Every P parts → Every Q parts → Every (λ tree. P tree × Q tree) parts
every_both P Q [] all others = tt
every_both P Q (Word kind ∷ parts) all others = every_both P Q parts all others
every_both P Q (Phrase tree ∷ parts) all others = ((all.0, others.0), every_both P Q parts all.1 others.1)

pub apart_append : (fresh : Bool) (parts others : List Part) → Apart fresh parts → Apart (fresh_after fresh parts) others → Apart fresh (parts ++ others)
apart_append fresh [] others apart more = more
apart_append fresh (Word kind ∷ parts) others apart more = apart_append true parts others apart more
apart_append true (Phrase tree ∷ parts) others apart more = apart_append false parts others apart more
apart_append false (Phrase tree ∷ parts) others apart more = absurd apart

-- ---- overruns behind parts

pub overruns_left : (parts others : List Part) (tokens : List TokenKind) (left : ℕ) → Overruns parts tokens left → Overruns (parts ++ others) tokens left
overruns_left [] others tokens left over = absurd over
overruns_left (Word kind ∷ parts) others tokens left over = (over.0, over.1, overruns_left parts others over.0 left over.2)
overruns_left (Phrase tree ∷ parts) others tokens left (inl deep) = inl deep
overruns_left (Phrase tree ∷ parts) others tokens left (inr later) = inr (later.0, later.1, later.2, overruns_left parts others later.0 left later.3)

pub overruns_right : (parts others : List Part) (rest : List TokenKind) (left : ℕ) → Every Fits parts → Overruns others rest left → Overruns (parts ++ others) (before parts rest) left
overruns_right [] others rest left fits over = over
overruns_right (Word kind ∷ parts) others rest left fits over = (before parts rest, refl, overruns_right parts others rest left fits over)
overruns_right (Phrase tree ∷ parts) others rest left fits over = inr (before parts rest, refl, fits.0, overruns_right parts others rest left fits.1 over)

-- the first mark that is too many is in these parts or in those behind them
abbrev pub Later : List Part → List Part → List TokenKind → ℕ → Type 0
Later parts others tokens left = (rest : List TokenKind) × (tokens ≡ before parts rest) × Every Fits parts × Overruns others rest left

pub overruns_split : (parts others : List Part) (tokens : List TokenKind) (left : ℕ) → Overruns (parts ++ others) tokens left →
    Overruns parts tokens left ⊎ Later parts others tokens left
overruns_split [] others tokens left over = inr (tokens, refl, tt, over)
overruns_split (Word kind ∷ parts) others tokens left over = by (overruns_split parts others over.0 left over.2)
  where
    by : Overruns parts over.0 left ⊎ Later parts others over.0 left → Overruns (Word kind ∷ parts) tokens left ⊎ Later (Word kind ∷ parts) others tokens left
    by (inl here) = inl (over.0, over.1, here)
    by (inr later) = inr (later.0, over.1 ∙ ap (λ l. kind ∷ l) later.1, later.2, later.3)
overruns_split (Phrase tree ∷ parts) others tokens left (inl deep) = inl (inl deep)
overruns_split (Phrase tree ∷ parts) others tokens left (inr over) = by (overruns_split parts others over.0 left over.3)
  where
    by : Overruns parts over.0 left ⊎ Later parts others over.0 left → Overruns (Phrase tree ∷ parts) tokens left ⊎ Later (Phrase tree ∷ parts) others tokens left
    by (inl here) = inl (inr (over.0, over.1, over.2, here))
    by (inr later) = inr (later.0, over.1 ∙ ap (λ l. kinds (marks tree) ++ l) later.1, (over.2, later.2), later.3)

-- ---- tokens that begin alike

abbrev pub SameFirst : List TokenKind → List TokenKind → Type 0
SameFirst [] [] = Unit {0}
SameFirst [] (other ∷ others) = ⊥
SameFirst (token ∷ tokens) [] = ⊥
SameFirst (token ∷ tokens) (other ∷ others) = token ≡ other

pub same_onto : (front tokens others : List TokenKind) → SameFirst tokens others → SameFirst (front ++ tokens) (front ++ others)
same_onto [] tokens others same = same
same_onto (token ∷ front) tokens others same = refl

pub same_before : (parts : List Part) (tokens others : List TokenKind) → SameFirst tokens others → SameFirst (before parts tokens) (before parts others)
same_before [] tokens others same = same
same_before (Word kind ∷ parts) tokens others same = refl
same_before (Phrase tree ∷ parts) tokens others same = same_onto (kinds (marks tree)) (before parts tokens) (before parts others) (same_before parts tokens others same)
