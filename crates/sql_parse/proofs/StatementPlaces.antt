-- Where tokens stop being a statement is one place.
use Rattle.std.proofs.Common.{◌≡◌, ◌≤◌, ◌<◌, ℕ, zero, suc, List, [], ◌∷◌, ◌++◌, length, sym, ap, ◌∙◌, subst, arith, append_assoc, append-nil, length-append, le_antisymm}
use Rattle.sql_ast.specs.declared.statement.Statement.{Statement}
use Rattle.sql_lex.specs.declared.token.TokenKind.{TokenKind}
use Rattle.sql_parse.specs.Grammar.{IsSpelled, BeginsStatement, Stops, IsStuck}

-- a statement's tokens stop nowhere
pub stuck_not_spelled : (tokens : List TokenKind) (left : ℕ) (s : Statement) → IsStuck tokens left → IsSpelled tokens s → ⊥
stuck_not_spelled tokens left s stuck spelled = by stuck.rest stuck.whole stuck.stops
  where
    by : (rest : List TokenKind) → stuck.front ++ rest ≡ tokens → Stops stuck.front rest → ⊥
    by [] whole stops = stops s (subst (λ l. IsSpelled l s) (sym whole ∙ append-nil stuck.front) spelled)
    by (token ∷ more) whole stops = stops (record {
      more = more;
      statement = s;
      spelled = subst (λ l. IsSpelled l s) (sym whole ∙ sym (append_assoc stuck.front (token ∷ []) more)) spelled;
    })

-- the longer of two fronts of a text goes on with the token behind the shorter one
longer : (front : List TokenKind) (token : TokenKind) (more others rest : List TokenKind) → front ++ token ∷ more ≡ others ++ rest → length rest ≤ length more →
    (mid : List TokenKind) × (others ≡ front ++ token ∷ mid)
longer [] token more [] rest same short = absurd (omega (arith, ap length same))
longer [] token more (other ∷ others) rest same short = (others, cc)
longer (first ∷ front) token more [] rest same short = absurd (omega (arith, ap length same, length-append front (token ∷ more)))
longer (first ∷ front) token more (other ∷ others) rest same short =
    let tail = longer front token more others rest (cc) short in
    let head : other ≡ first = cc in
    (tail.0, ap (λ l. other ∷ l) tail.1 ∙ ap (λ t. t ∷ front ++ token ∷ tail.0) head)

not_le : (a b : ℕ) → (a ≤ b → ⊥) → b < a
not_le zero b none = absurd (none (omega arith))
not_le (suc a) zero none = omega arith
not_le (suc a) (suc b) none = let less : b < a = not_le a b (λ (le : a ≤ b). none (omega arith)) in omega arith

-- no front that begins a statement is longer than one at which tokens stop
no_longer : (tokens front rest others behind : List TokenKind) → front ++ rest ≡ tokens → Stops front rest → others ++ behind ≡ tokens → BeginsStatement others → length rest ≤ length behind
no_longer tokens front [] others behind whole stops again begins = omega arith
no_longer tokens front (token ∷ more) others behind whole stops again begins = not_le (length behind) (length more) go
  where
    go : length behind ≤ length more → ⊥
    go short =
        let found = longer front token more others behind (whole ∙ sym again) short in
        stops (record {
          more = found.0 ++ begins.more;
          statement = begins.statement;
          spelled = subst (λ l. IsSpelled l begins.statement)
              (ap (λ l. l ++ begins.more) found.1 ∙ append_assoc front (token ∷ found.0) begins.more ∙ sym (append_assoc front (token ∷ []) (found.0 ++ begins.more)))
              begins.spelled;
        })

pub one_place : (tokens : List TokenKind) (left other : ℕ) → IsStuck tokens left → IsStuck tokens other → left ≡ other
one_place tokens left other first second =
    sym first.place
    ∙ le_antisymm
    (no_longer tokens first.front first.rest second.front second.rest first.whole first.stops second.whole second.begins)
    (no_longer tokens second.front second.rest first.front first.rest second.whole second.stops first.whole first.begins)
    ∙ second.place
