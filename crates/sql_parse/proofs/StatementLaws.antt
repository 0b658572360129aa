-- What reading a statement answers, in the terms of the grammar.
use Rattle.std.proofs.Common.{◌≡◌, ◌≤◌, ◌↔◌, ℕ, List, [], ◌∷◌, ◌++◌, length, Result, Ok, Err, refl, sym, ap, ◌∙◌, subst, inl, inr, append_assoc, append-nil, le_antisymm}
use Rattle.sql_ast.specs.declared.statement.Statement.{Statement}
use Rattle.sql_lex.specs.declared.token.TokenKind.{TokenKind}
use Rattle.sql_parse.specs.declared.stop.Stop.{Stop}
use Rattle.sql_parse.specs.declared.stop.Stop.TheVariants.{Stuck, Deep, NoMemory}
use Rattle.sql_parse.specs.Forms.{statement_of}
use Rattle.sql_parse.specs.Grammar.{IsSpelled, BeginsStatement, Stops, IsStuck, IsDeep, IsShallow, IsFirstDeep}
use Rattle.sql_parse.specs.inner.Reading.{Outcome, statement, to_end, whole}
use Rattle.sql_parse.proofs.ExpressionLaws.{ExpressionLaws}
use Rattle.sql_parse.proofs.ReaderParts.{before, before_onto, SameFirst}
use Rattle.sql_parse.proofs.ReaderLaws.{IsGiven, IsHeld}
use Rattle.sql_parse.proofs.StatementParts.{statement_parts}
use Rattle.sql_parse.proofs.StatementReading.{Settled, spelled_by, settled, deep_found, deep_by, given_of, held_of, over_of, never_without_memory, ok_read, deep_read, memory_read, StopsAt, stuck_read}
use Rattle.sql_parse.proofs.StatementPlaces.{stuck_not_spelled, one_place}

-- ---- answers that differ

ok_not_stuck : (o : Outcome Statement) (s : Statement) (rest : List TokenKind) (left : ℕ) → o ≡ Ok (s, rest) → o ≡ Err (Stuck left) → ⊥
ok_not_stuck o s rest left e f = cc

ok_not_deep : (o : Outcome Statement) (s : Statement) (rest : List TokenKind) (left : ℕ) → o ≡ Ok (s, rest) → o ≡ Err (Deep left) → ⊥
ok_not_deep o s rest left e f = cc

stuck_not_deep : (o : Outcome Statement) (left other : ℕ) → o ≡ Err (Stuck left) → o ≡ Err (Deep other) → ⊥
stuck_not_deep o left other e f = cc

one_deep : (o : Outcome Statement) (left other : ℕ) → o ≡ Err (Deep left) → o ≡ Err (Deep other) → left ≡ other
one_deep o left other e f = cc

stuck_or_deep : (r : Result Statement Stop) (left other : ℕ) → r ≡ Err (Stuck left) → r ≡ Err (Deep other) → ⊥
stuck_or_deep r left other e f = cc

ok_ends : (o : Outcome Statement) (s other : Statement) (token : TokenKind) (more : List TokenKind) → o ≡ Ok (s, []) → o ≡ Ok (other, token ∷ more) → ⊥
ok_ends o s other token more e f =
    let same : (s, []) ≡ (other, token ∷ more) = cc in
    none (ap (λ (r : Statement × List TokenKind). r.1) same)
  where
    none : [] ≡ token ∷ more → ⊥
    none e = cc

module _ (laws : ExpressionLaws) where
  -- ---- what a spelled text isn't read as

  spelled_not_stuck : (tokens : List TokenKind) (s : Statement) (left : ℕ) → IsSpelled tokens s → statement tokens ≡ Err (Stuck left) → ⊥
  spelled_not_stuck tokens s left spelled stuck = by (settled laws tokens s spelled)
    where
      by : Settled laws tokens s → ⊥
      by (inl read) = ok_not_stuck (statement tokens) s [] left read stuck
      by (inr deep) = stuck_not_deep (statement tokens) left deep.0 stuck deep.1

  spelled_to_end : (tokens : List TokenKind) (s other : Statement) (token : TokenKind) (more : List TokenKind) → IsSpelled tokens s → statement tokens ≡ Ok (other, token ∷ more) → ⊥
  spelled_to_end tokens s other token more spelled ended = by (settled laws tokens s spelled)
    where
      by : Settled laws tokens s → ⊥
      by (inl read) = ok_ends (statement tokens) s other token more read ended
      by (inr deep) = ok_not_deep (statement tokens) other (token ∷ more) deep.0 ended deep.1

  -- ---- statements

  ok_shallow : (tokens : List TokenKind) (s : Statement) → whole tokens ≡ Ok s → IsShallow tokens
  unfolding whole
  ok_shallow tokens s same left deep =
      let found = deep_found laws tokens left deep in
      ok_not_deep (statement tokens) s [] found.0 (ok_read (statement tokens) s same) found.2

  ok_spelled : (tokens : List TokenKind) (s : Statement) → whole tokens ≡ Ok s → IsSpelled tokens s
  unfolding whole
  ok_spelled tokens s same = by (given_of laws tokens s [] (ok_read (statement tokens) s same))
    where
      by : IsGiven statement_parts statement_of statement tokens s [] → IsSpelled tokens s
      by given = subst (IsSpelled tokens) given.means (spelled_by given.form tokens given.lawful given.whole)

  spelled_ok : (tokens : List TokenKind) (s : Statement) → IsSpelled tokens s → IsShallow tokens → whole tokens ≡ Ok s
  unfolding whole
  spelled_ok tokens s spelled shallow = by (settled laws tokens s spelled)
    where
      by : Settled laws tokens s → to_end (statement tokens) ≡ Ok s
      by (inl read) = ap to_end read
      by (inr deep) = absurd (shallow deep.0 deep.2)

  pub statements_spelled : (tokens : List TokenKind) (s : Statement) → (whole tokens ≡ Ok s) ↔ (IsSpelled tokens s × IsShallow tokens)
  statements_spelled tokens s = (λ same. (ok_spelled tokens s same, ok_shallow tokens s same), λ both. spelled_ok tokens s both.0 both.1)

  -- ---- where tokens stop being one

  held_stuck : (tokens : List TokenKind) (left : ℕ) → IsHeld statement_parts statement tokens left → IsStuck tokens left
  held_stuck tokens left held = record {
    front = held.front;
    rest = held.rest;
    whole = held.whole;
    place = held.place;
    begins = record { more = held.more; statement = statement_of held.form; spelled = spelled_by held.form (held.front ++ held.more) held.lawful held.shows };
    stops = stops held.rest (λ other same. held.again other same);
  }
    where
      stops : (rest : List TokenKind) → ((other : List TokenKind) → SameFirst rest other → statement (held.front ++ other) ≡ Err (Stuck (length other))) → Stops held.front rest
      stops [] again = λ s spelled. spelled_not_stuck held.front s 0 spelled (ap statement (sym (append-nil held.front)) ∙ again [] tt)
      stops (token ∷ more) again = λ begins. spelled_not_stuck (held.front ++ token ∷ begins.more) begins.statement (length (token ∷ begins.more))
          (subst (λ l. IsSpelled l begins.statement) (append_assoc held.front (token ∷ []) begins.more) begins.spelled) (again (token ∷ begins.more) refl)

  ended_stuck : (tokens : List TokenKind) (s : Statement) (token : TokenKind) (more : List TokenKind) → IsGiven statement_parts statement_of statement tokens s (token ∷ more) →
      IsStuck tokens (length (token ∷ more))
  ended_stuck tokens s token more given = record {
    front = front;
    rest = token ∷ more;
    whole = sym (before_onto (statement_parts given.form) [] (token ∷ more)) ∙ given.whole;
    place = refl;
    begins = record { more = []; statement = statement_of given.form; spelled = spelled_by given.form (front ++ []) given.lawful (sym (append-nil front)) };
    stops = stops;
  }
    where
      front : List TokenKind
      front = before (statement_parts given.form) []

      stops : BeginsStatement (front ++ token ∷ []) → ⊥
      stops begins = spelled_to_end (before (statement_parts given.form) (token ∷ begins.more)) begins.statement s token begins.more
          (subst (λ l. IsSpelled l begins.statement)
          (append_assoc front (token ∷ []) begins.more ∙ sym (before_onto (statement_parts given.form) [] (token ∷ begins.more))) begins.spelled)
          (given.again (token ∷ begins.more) refl)

  stuck_stops : (tokens : List TokenKind) (left : ℕ) → whole tokens ≡ Err (Stuck left) → IsStuck tokens left
  unfolding whole
  stuck_stops tokens left same = by (stuck_read (statement tokens) left same)
    where
      by : StopsAt (statement tokens) left → IsStuck tokens left
      by (inl stuck) = held_stuck tokens left (held_of laws tokens left stuck)
      by (inr ended) = subst (IsStuck tokens) (sym ended.4) (ended_stuck tokens ended.0 ended.1 ended.2 (given_of laws tokens ended.0 (ended.1 ∷ ended.2) ended.3))

  stuck_shallow : (tokens : List TokenKind) (left : ℕ) → whole tokens ≡ Err (Stuck left) → IsShallow tokens
  unfolding whole
  stuck_shallow tokens left same at deep =
      let found = deep_found laws tokens at deep in
      stuck_or_deep (whole tokens) left found.0 same (ap to_end found.2)

  -- each of the other answers is left out
  only_stuck : (tokens : List TokenKind) (left : ℕ) → IsStuck tokens left → IsShallow tokens → (r : Result Statement Stop) → whole tokens ≡ r → r ≡ Err (Stuck left)
  unfolding whole
  only_stuck tokens left stuck shallow (Ok s) same = absurd (stuck_not_spelled tokens left s stuck (ok_spelled tokens s same))
  only_stuck tokens left stuck shallow (Err (Stuck other)) same = ap (λ n. Err (Stuck n)) (one_place tokens other left (stuck_stops tokens other same) stuck)
  only_stuck tokens left stuck shallow (Err (Deep at)) same = absurd (shallow at (deep_by laws tokens at (over_of laws tokens at (deep_read (statement tokens) at same))))
  only_stuck tokens left stuck shallow (Err NoMemory) same = absurd (never_without_memory laws tokens (memory_read (statement tokens) same))

  pub statements_stop : (tokens : List TokenKind) (left : ℕ) → (whole tokens ≡ Err (Stuck left)) ↔ (IsStuck tokens left × IsShallow tokens)
  statements_stop tokens left =
      (λ same. (stuck_stops tokens left same, stuck_shallow tokens left same), λ both. only_stuck tokens left both.0 both.1 (whole tokens) refl)

  -- ---- depth

  deep_is : (tokens : List TokenKind) (left : ℕ) → whole tokens ≡ Err (Deep left) → IsDeep tokens left
  unfolding whole
  deep_is tokens left same = deep_by laws tokens left (over_of laws tokens left (deep_read (statement tokens) left same))

  deep_first : (tokens : List TokenKind) (left : ℕ) → whole tokens ≡ Err (Deep left) → IsFirstDeep tokens left
  unfolding whole
  deep_first tokens left same = record { deep = deep_is tokens left same; first = first }
    where
      first : (other : ℕ) → IsDeep tokens other → other ≤ left
      first other deep =
          let found = deep_found laws tokens other deep in
          let e : found.0 ≡ left = one_deep (statement tokens) found.0 left found.2 (deep_read (statement tokens) left same) in
          subst (λ n. other ≤ n) e found.1

  first_deep : (tokens : List TokenKind) (at : ℕ) → IsFirstDeep tokens at → whole tokens ≡ Err (Deep at)
  unfolding whole
  first_deep tokens at first =
      let found = deep_found laws tokens at first.deep in
      let same : whole tokens ≡ Err (Deep found.0) = ap to_end found.2 in
      let e : found.0 ≡ at = le_antisymm (first.first found.0 (deep_is tokens found.0 same)) found.1 in
      same ∙ ap (λ n. Err (Deep n)) e

  pub statements_deepen : (tokens : List TokenKind) (left : ℕ) → (whole tokens ≡ Err (Deep left)) ↔ IsFirstDeep tokens left
  statements_deepen tokens left = (deep_first tokens left, first_deep tokens left)
