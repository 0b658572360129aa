-- Marks that are read one by one, up to the first that is one too many.
use Rattle.std.proofs.Common.{◌≡◌, ℕ, ◌+◌, Bool, true, false, List, [], ◌∷◌, ◌++◌, length, refl, ap, ap₂, cond, if◌then◌else◌, nat_lt, Err, Result}
use Rattle.sql_ast.specs.declared.ast.Ast.{Ast}
use Rattle.sql_lex.specs.declared.token.TokenKind.{TokenKind}
use Rattle.sql_parse.specs.declared.limits.TheConstants.{MAX_OPERATORS, MAX_OPENINGS}
use Rattle.sql_parse.specs.declared.stop.Stop.{Stop}
use Rattle.sql_parse.specs.declared.stop.Stop.TheVariants.{Deep}
use Rattle.sql_parse.specs.declared.expression.frame.Frame.{Frame}
use Rattle.sql_parse.specs.declared.expression.reader.Mode.{Mode}
use Rattle.sql_parse.specs.Trees.{Role, Operator, Opening, Inside, Outside, Mark, kinds}
use Rattle.sql_parse.specs.inner.Expressions.{Goes, Deepens, with_operator, with_opening, by_step, run}
use Rattle.sql_parse.proofs.ExpressionSteps.{reading}

abbrev pub Answer : Type 0
Answer = Result (Ast × List TokenKind) Stop

-- what is answered at a mark after so many operators and openings, where this is the answer if it is one too many, and else goes on
abbrev pub after_mark : Role → ℕ → ℕ → Answer → (ℕ → ℕ → Answer) → Answer
after_mark Operator o p deep go = if nat_lt o MAX_OPERATORS then go (o + 1) p else deep
after_mark Opening o p deep go = if nat_lt p MAX_OPENINGS then go o (p + 1) else deep
after_mark Inside o p deep go = go o p
after_mark Outside o p deep go = go 0 0

-- what is answered at the marks, before the tokens `rest`
abbrev pub after : ℕ → ℕ → List Mark → List TokenKind → (ℕ → ℕ → Answer) → Answer
after o p [] rest go = go o p
after o p (m ∷ ms) rest go = after_mark m.role o p (Err (Deep (length (kinds (m ∷ ms) ++ rest)))) (λ o p. after o p ms rest go)

pub kinds_append : (a b : List Mark) (rest : List TokenKind) → kinds (a ++ b) ++ rest ≡ kinds a ++ (kinds b ++ rest)
kinds_append [] b rest = refl
kinds_append (m ∷ a) b rest = ap (λ l. m.kind ∷ l) (kinds_append a b rest)

-- ---- equal answers

same_mark : (role : Role) (o p : ℕ) (deep deep' : Answer) (go go' : ℕ → ℕ → Answer) → deep ≡ deep' → ((o p : ℕ) → go o p ≡ go' o p) →
    after_mark role o p deep go ≡ after_mark role o p deep' go'
same_mark Operator o p deep deep' go go' is same = ap₂ (cond (nat_lt o MAX_OPERATORS)) (same (o + 1) p) is
same_mark Opening o p deep deep' go go' is same = ap₂ (cond (nat_lt p MAX_OPENINGS)) (same o (p + 1)) is
same_mark Inside o p deep deep' go go' is same = same o p
same_mark Outside o p deep deep' go go' is same = same 0 0

pub same_after : (ms : List Mark) (rest : List TokenKind) (go go' : ℕ → ℕ → Answer) → ((o p : ℕ) → go o p ≡ go' o p) → (o p : ℕ) →
    after o p ms rest go ≡ after o p ms rest go'
same_after [] rest go go' same o p = same o p
same_after (m ∷ ms) rest go go' same o p = same_mark m.role o p _ _ _ _ refl (same_after ms rest go go' same)

pub after_append : (a b : List Mark) (rest : List TokenKind) (go : ℕ → ℕ → Answer) (o p : ℕ) →
    after o p (a ++ b) rest go ≡ after o p a (kinds b ++ rest) (λ o p. after o p b rest go)
after_append [] b rest go o p = refl
after_append (m ∷ a) b rest go o p =
    same_mark m.role o p _ _ _ _ (ap (λ l. Err (Deep (length (m.kind ∷ l)))) (kinds_append a b rest)) (after_append a b rest go)

-- ---- steps that count

pub operator_read : (m : Mode) (fs : List Frame) (mode : Mode) (frames : List Frame) (o p : ℕ) (token : TokenKind) (more : List TokenKind) →
    by_step token more (λ next. run next more) (with_operator mode frames (reading m fs o p))
    ≡ after_mark Operator o p (Err (Deep (length (token ∷ more)))) (λ o p. run (reading mode frames o p) more)
operator_read m fs mode frames o p token more = by (nat_lt o MAX_OPERATORS)
  where
    by : (within : Bool) →
        by_step token more (λ next. run next more) (if within then Goes (reading mode frames (o + 1) p) else Deepens)
        ≡ (if within then run (reading mode frames (o + 1) p) more else Err (Deep (length (token ∷ more))))
    by true = refl
    by false = refl

pub opening_read : (m : Mode) (fs : List Frame) (mode : Mode) (frames : List Frame) (o p : ℕ) (token : TokenKind) (more : List TokenKind) →
    by_step token more (λ next. run next more) (with_opening mode frames (reading m fs o p))
    ≡ after_mark Opening o p (Err (Deep (length (token ∷ more)))) (λ o p. run (reading mode frames o p) more)
opening_read m fs mode frames o p token more = by (nat_lt p MAX_OPENINGS)
  where
    by : (within : Bool) →
        by_step token more (λ next. run next more) (if within then Goes (reading mode frames o (p + 1)) else Deepens)
        ≡ (if within then run (reading mode frames o (p + 1)) more else Err (Deep (length (token ∷ more))))
    by true = refl
    by false = refl
