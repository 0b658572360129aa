-- Lines that ask for events, taken apart.
use Rattle.std.proofs.Common.{◌≡◌, ◌≢◌, ◌⊎◌, ℕ, ◌^◌, ◌<◌, List, [], ◌∷◌, ◌++◌, Contains, codes, refl, sym, ◌∙◌, arith, append_assoc, inl, inr}
use Rattle.std.specs.Prelude.{ℤ}
use Rattle.std.specs.Fmt.{decimal, signed_decimal}
use Rattle.std.proofs.lemmas.List.{append_cancel_left}
use Rattle.world_script.specs.declared.event.Statement.{Statement}
use Rattle.world_script.specs.declared.event.Statement.TheVariants.{Insert, Select}
use Rattle.world_script.specs.declared.event.Event.TheVariants.{Sql, Deliver}
use Rattle.world_script.specs.Script.{IsLineOf, IsLiteral, IsTyped, statement_text}
use Rattle.world_script.specs.inner.Reading.{IsCut}
use Rattle.world_script.proofs.Pieces.{IsCut-same, not_cut}
use Rattle.world_script.proofs.Decimals.{decimal_lacks, literal_lacks}

-- ---- packets

-- what stands behind the word is two numbers, or one number for both
pub deliver_numbers : (line numbers : List ℕ) (first last : ℕ) → line ≡ codes "deliver " ++ numbers → IsLineOf (Deliver first last) line → (numbers ≡ decimal first ++ (32 ∷ decimal last)) ⊎ ((first ≡ last) × (numbers ≡ decimal first))
deliver_numbers line numbers first last is (inl two) =
    inl (append_cancel_left (codes "deliver ") _ _ (sym is ∙ two) ∙ append_assoc (decimal first) (32 ∷ []) (decimal last))
deliver_numbers line numbers first last is (inr one) =
    inr (one.0, append_cancel_left (codes "deliver ") _ _ (sym is ∙ one.1))

-- such a line begins with the word
pub deliver_begins : (line : List ℕ) (first last : ℕ) → IsLineOf (Deliver first last) line → (numbers : List ℕ) × (line ≡ codes "deliver " ++ numbers)
deliver_begins line first last (inl two) = (_, two)
deliver_begins line first last (inr one) = (_, one.1)

pub deliver_cut : (line numbers front back : List ℕ) (first last : ℕ) → line ≡ codes "deliver " ++ numbers → IsCut numbers 32 front back → IsLineOf (Deliver first last) line → first < 2 ^ 32 → (front ≡ decimal first) × (back ≡ decimal last)
deliver_cut line numbers front back first last is cut of few =
    elim (deliver_numbers line numbers first last is of) [
      | inl two ↦ IsCut-same numbers 32 front (decimal first) back (decimal last) cut two (decimal_lacks first 32 (omega arith) (λ range. omega arith))
      | inr one ↦ absurd (not_cut (decimal first) 32 front back (decimal_lacks first 32 (omega arith) (λ range. omega arith)) (sym one.1 ∙ cut.cut))
    ]

pub deliver_uncut : (line numbers : List ℕ) (first last : ℕ) → line ≡ codes "deliver " ++ numbers → ¬ (Contains numbers 32) → IsLineOf (Deliver first last) line → (first ≡ last) × (numbers ≡ decimal first)
deliver_uncut line numbers first last is uncut of =
    elim (deliver_numbers line numbers first last is of) [
      | inl two ↦ absurd (not_cut numbers 32 _ _ uncut two)
      | inr one ↦ one
    ]

-- ---- statements

-- the text is an insert
pub record IsInsert (statement : Statement) (text : List ℕ) : Type 0 where
  pub key : ℤ
  pub value : ℤ
  pub is : statement ≡ Insert key value
  pub key_typed : IsLiteral key
  pub value_typed : IsLiteral value
  pub spelled : text ≡ codes "INSERT INTO kv VALUES (" ++ (signed_decimal key ++ (44 ∷ (32 ∷ (signed_decimal value ++ (41 ∷ [])))))

-- what isn't the one query is an insert
pub insert_of : (text : List ℕ) (statement : Statement) → text ≢ codes "SELECT * FROM kv" → text ≡ statement_text statement → IsTyped statement → IsInsert statement text
insert_of text Select other is typed = absurd (other is)
insert_of text (Insert key value) other is typed = record {
  key = key;
  value = value;
  is = refl;
  key_typed = typed.0;
  value_typed = typed.1;
  spelled =
      is
      ∙ append_assoc (codes "INSERT INTO kv VALUES (" ++ (signed_decimal key ++ (44 ∷ 32 ∷ []))) (signed_decimal value) (41 ∷ [])
      ∙ append_assoc (codes "INSERT INTO kv VALUES (" ++ signed_decimal key) (44 ∷ 32 ∷ []) (signed_decimal value ++ (41 ∷ []));
}

-- its values, as they stand behind its words
pub insert_values : (text values : List ℕ) (statement : Statement) (insert : IsInsert statement text) → text ≡ codes "INSERT INTO kv VALUES (" ++ values → values ≡ signed_decimal insert.key ++ (44 ∷ (32 ∷ (signed_decimal insert.value ++ (41 ∷ []))))
insert_values text values statement insert is = append_cancel_left (codes "INSERT INTO kv VALUES (") _ _ (sym is ∙ insert.spelled)

pub insert_cut : (text values front back : List ℕ) (statement : Statement) (insert : IsInsert statement text) → text ≡ codes "INSERT INTO kv VALUES (" ++ values → IsCut values 44 front back → (front ≡ signed_decimal insert.key) × (back ≡ 32 ∷ (signed_decimal insert.value ++ (41 ∷ [])))
insert_cut text values front back statement insert is cut =
    IsCut-same values 44 front (signed_decimal insert.key) back (32 ∷ (signed_decimal insert.value ++ (41 ∷ []))) cut (insert_values text values statement insert is) (literal_lacks insert.key 44 insert.key_typed (λ range. omega arith) (λ e. omega arith))

-- ---- sessions

-- a session and its statement stand behind the word
pub sql_text : (line : List ℕ) (region session : ℕ) (statement : Statement) → IsLineOf (Sql region session statement) line → line ≡ codes "sql " ++ (decimal region ++ (46 ∷ (decimal session ++ (32 ∷ statement_text statement))))
sql_text line region session statement of =
    of
    ∙ append_assoc (codes "sql " ++ ((decimal region ++ (46 ∷ [])) ++ decimal session)) (32 ∷ []) (statement_text statement)
    ∙ append_assoc (codes "sql " ++ (decimal region ++ (46 ∷ []))) (decimal session) (32 ∷ statement_text statement)
    ∙ append_assoc (codes "sql " ++ decimal region) (46 ∷ []) (decimal session ++ (32 ∷ statement_text statement))

sql_session : (line rest : List ℕ) (region session : ℕ) (statement : Statement) → line ≡ codes "sql " ++ rest → IsLineOf (Sql region session statement) line → rest ≡ decimal region ++ (46 ∷ (decimal session ++ (32 ∷ statement_text statement)))
sql_session line rest region session statement is of = append_cancel_left (codes "sql ") _ _ (sym is ∙ sql_text line region session statement of)

-- the first cut of such a line
pub region_cut : (line rest front back : List ℕ) (region session : ℕ) (statement : Statement) → line ≡ codes "sql " ++ rest → IsCut rest 46 front back → IsLineOf (Sql region session statement) line → region < 2 ^ 64 → (front ≡ decimal region) × (back ≡ decimal session ++ (32 ∷ statement_text statement))
region_cut line rest front back region session statement is cut of few =
    IsCut-same rest 46 front (decimal region) back (decimal session ++ (32 ∷ statement_text statement)) cut (sql_session line rest region session statement is of) (decimal_lacks region 46 few (λ range. omega arith))

-- the second one
pub session_cut : (rest front back : List ℕ) (session : ℕ) (statement : Statement) → rest ≡ decimal session ++ (32 ∷ statement_text statement) → IsCut rest 32 front back → session < 2 ^ 64 → (front ≡ decimal session) × (back ≡ statement_text statement)
session_cut rest front back session statement is cut few =
    IsCut-same rest 32 front (decimal session) back (statement_text statement) cut is (decimal_lacks session 32 few (λ range. omega arith))
