-- Lines without line feeds, and texts that two lists of lines have.
use Rattle.std.proofs.Common.{◌≡◌, ◌⊎◌, ℕ, zero, suc, ◌^◌, ◌<◌, ◌≤◌, Bool, true, not, ◌&&◌, eqb, List, [], ◌∷◌, ◌++◌, codes, refl, sym, ap, subst, ◌∙◌, append_assoc, inl, inr, arith, ⊎_elim}
use Rattle.std.specs.Fmt.{decimal, signed_decimal}
use Rattle.std.proofs.lemmas.Bool.{and_parts}
use Rattle.std.proofs.lemmas.List.Elements.{Contains-append_cases}
use Rattle.geo_base.specs.declared.limits.TheConstants.{MAX_REGIONS}
use Rattle.world_script.specs.declared.event.Statement.{Statement}
use Rattle.world_script.specs.declared.event.Statement.TheVariants.{Insert, Select}
use Rattle.world_script.specs.declared.event.Event.{Event}
use Rattle.world_script.specs.declared.event.Event.TheVariants.{Sql, Seal, Deliver, Publish, Show}
use Rattle.world_script.specs.Script.{IsLineOf, IsTyped, IsWithin, statement_text, session_text, text_of_lines}
use Rattle.world_script.specs.Fault.{IsGoodLine, AreGoodLines, BeginsScript, IsOneLine}
use Rattle.world_script.proofs.Pieces.{same_cut}
use Rattle.world_script.proofs.Decimals.{decimal_lacks, literal_lacks}

-- ---- lines without line feeds

-- a test that a literal has no line feed
abbrev is_one : List ℕ → Bool
is_one [] = true
is_one (b ∷ bs) = not (eqb b 10) && is_one bs

one_from_test : (bytes : List ℕ) → is_one bytes ≡ true → IsOneLine bytes
one_from_test [] test has = absurd (omega arith)
one_from_test (b ∷ bs) test has =
    let parts = and_parts (not (eqb b 10)) (is_one bs) test in
    elim (Contains-append_cases (b ∷ []) bs 10 has) [
      | inl (k, in', is) ↦ let first : k ≡ 0 = omega arith in let feed : b ≡ 10 = rw first at is in cc (rw feed at (parts.0))
      | inr later ↦ one_from_test bs parts.1 later
    ]

one-append : (xs ys : List ℕ) → IsOneLine xs → IsOneLine ys → IsOneLine (xs ++ ys)
one-append xs ys left right has = ⊎_elim left right (Contains-append_cases xs ys 10 has)

one-decimal : (n : ℕ) → n < 2 ^ 64 → IsOneLine (decimal n)
one-decimal n fits = decimal_lacks n 10 fits (λ range. omega arith)

one-statement : (statement : Statement) → IsTyped statement → IsOneLine (statement_text statement)
one-statement Select typed = one_from_test (codes "SELECT * FROM kv") refl
one-statement (Insert key value) typed =
    one-append (((codes "INSERT INTO kv VALUES (" ++ signed_decimal key) ++ codes ", ") ++ signed_decimal value) (codes ")")
    (one-append ((codes "INSERT INTO kv VALUES (" ++ signed_decimal key) ++ codes ", ") (signed_decimal value)
    (one-append (codes "INSERT INTO kv VALUES (" ++ signed_decimal key) (codes ", ")
    (one-append (codes "INSERT INTO kv VALUES (") (signed_decimal key) (one_from_test (codes "INSERT INTO kv VALUES (") refl) (literal_lacks key 10 typed.0 (λ range. omega arith) (λ e. omega arith)))
    (one_from_test (codes ", ") refl))
    (literal_lacks value 10 typed.1 (λ range. omega arith) (λ e. omega arith)))
    (one_from_test (codes ")") refl)

one-event : (regions : ℕ) (event : Event) (line : List ℕ) → regions ≤ MAX_REGIONS → IsLineOf event line → IsWithin regions event → IsOneLine line
one-event regions (Sql region session statement) line few of within =
    subst IsOneLine (sym of)
    (one-append (((codes "sql " ++ session_text region session)) ++ codes " ") (statement_text statement)
    (one-append (codes "sql " ++ session_text region session) (codes " ")
    (one-append (codes "sql ") (session_text region session) (one_from_test (codes "sql ") refl)
    (one-append (decimal region ++ codes ".") (decimal session)
    (one-append (decimal region) (codes ".") (one-decimal region (omega arith)) (one_from_test (codes ".") refl))
    (one-decimal session (omega arith))))
    (one_from_test (codes " ") refl))
    (one-statement statement within.2))
one-event regions (Seal region) line few of within =
    subst IsOneLine (sym of) (one-append (codes "seal ") (decimal region) (one_from_test (codes "seal ") refl) (one-decimal region (omega arith)))
one-event regions (Deliver first last) line few (inl two) within =
    subst IsOneLine (sym two)
    (one-append ((codes "deliver " ++ decimal first) ++ codes " ") (decimal last)
    (one-append (codes "deliver " ++ decimal first) (codes " ")
    (one-append (codes "deliver ") (decimal first) (one_from_test (codes "deliver ") refl) (one-decimal first (omega arith)))
    (one_from_test (codes " ") refl))
    (one-decimal last (omega arith)))
one-event regions (Deliver first last) line few (inr one) within =
    subst IsOneLine (sym one.1) (one-append (codes "deliver ") (decimal first) (one_from_test (codes "deliver ") refl) (one-decimal first (omega arith)))
one-event regions (Publish region) line few of within =
    subst IsOneLine (sym of) (one-append (codes "publish ") (decimal region) (one_from_test (codes "publish ") refl) (one-decimal region (omega arith)))
one-event regions (Show region) line few of within =
    subst IsOneLine (sym of) (one-append (codes "show ") (decimal region) (one_from_test (codes "show ") refl) (one-decimal region (omega arith)))

one-good : (regions place : ℕ) (line : List ℕ) → regions ≤ MAX_REGIONS → IsGoodLine regions place line → IsOneLine line
one-good regions zero line few good = subst IsOneLine (sym good) (one_from_test (codes "geogauss play 1") refl)
one-good regions (suc zero) line few good =
    subst IsOneLine (sym good.0) (one-append (codes "regions ") (decimal regions) (one_from_test (codes "regions ") refl) (one-decimal regions (omega arith)))
one-good regions (suc (suc zero)) line few good = subst IsOneLine (sym good) (one_from_test (codes "table kv (k INT KEY, v INT)") refl)
one-good regions (suc (suc (suc zero))) line few good = subst IsOneLine (sym good) (one_from_test (codes "begin") refl)
one-good regions (suc (suc (suc (suc place)))) line few good = one-event regions good.0 line few good.1 good.2

-- none of the lines has a line feed
abbrev pub AreLines : List (List ℕ) → Type 0
AreLines [] = Unit {0}
AreLines (line ∷ lines) = IsOneLine line × AreLines lines

pub good_lines : (regions place : ℕ) (lines : List (List ℕ)) → regions ≤ MAX_REGIONS → AreGoodLines regions place lines → AreLines lines
good_lines regions place [] few good = tt
good_lines regions place (line ∷ lines) few good = (one-good regions place line few good.0, good_lines regions (suc place) lines few good.1)

-- what begins a script is lines: the second says that the regions are few
pub begun_lines : (lines : List (List ℕ)) → BeginsScript lines → AreLines lines
begun_lines [] begins = tt
begun_lines (first ∷ []) begins = (subst IsOneLine (sym begins.1.0) (one_from_test (codes "geogauss play 1") refl), tt)
begun_lines (first ∷ second ∷ lines) begins = good_lines begins.0 0 (first ∷ second ∷ lines) begins.1.1.0.2 begins.1

-- a part of what begins a script begins it
AreGoodLines-front : (regions place : ℕ) (lines more : List (List ℕ)) → AreGoodLines regions place (lines ++ more) → AreGoodLines regions place lines
AreGoodLines-front regions place [] more good = tt
AreGoodLines-front regions place (line ∷ lines) more good = (good.0, AreGoodLines-front regions (suc place) lines more good.1)

pub BeginsScript-front : (lines more : List (List ℕ)) → BeginsScript (lines ++ more) → BeginsScript lines
BeginsScript-front lines more begins = (begins.0, AreGoodLines-front begins.0 0 lines more begins.1)

-- ---- two lists of lines in one text

-- the second list has all lines of the first, and a next one, with which the first's rest begins
pub record GoesOn (lines : List (List ℕ)) (rest : List ℕ) (longer : List (List ℕ)) : Type 0 where
  pub line : List ℕ
  pub more : List (List ℕ)
  pub last : List ℕ
  pub is : longer ≡ lines ++ (line ∷ more)
  pub begins : rest ≡ line ++ (10 ∷ last)
  pub one : IsOneLine line

-- they have the same lines, or one goes on behind the other's
unfoldable pub Meets : List (List ℕ) → List ℕ → List (List ℕ) → List ℕ → Type 0
Meets lines rest lines' rest' = ((lines ≡ lines') × (rest ≡ rest')) ⊎ (GoesOn lines rest lines' ⊎ GoesOn lines' rest' lines)

goes_on : (line : List ℕ) (lines : List (List ℕ)) (rest : List ℕ) (longer : List (List ℕ)) → GoesOn lines rest longer → GoesOn (line ∷ lines) rest (line ∷ longer)
goes_on line lines rest longer next =
    record { line = next.line; more = next.more; last = next.last; is = ap (λ ls. line ∷ ls) next.is; begins = next.begins; one = next.one }

begins_with : (line : List ℕ) (lines : List (List ℕ)) (rest rest' : List ℕ) → IsOneLine line → rest' ≡ text_of_lines (line ∷ lines) ++ rest → GoesOn [] rest' (line ∷ lines)
begins_with line lines rest rest' one is =
    record { line = line; more = lines; last = text_of_lines lines ++ rest; is = refl; begins = is ∙ append_assoc line (10 ∷ text_of_lines lines) rest; one = one }

meets_more : (line line' : List ℕ) (lines lines' : List (List ℕ)) (rest rest' : List ℕ) → line ≡ line' → Meets lines rest lines' rest' → Meets (line ∷ lines) rest (line' ∷ lines') rest'
unfolding Meets
meets_more line line' lines lines' rest rest' same (inl both) = inl (cc (both.0), both.1)
meets_more line line' lines lines' rest rest' same (inr (inl next)) =
    inr (inl (subst (λ l. GoesOn (line ∷ lines) rest (l ∷ lines')) same (goes_on line lines rest lines' next)))
meets_more line line' lines lines' rest rest' same (inr (inr next)) =
    inr (inr (subst (λ l. GoesOn (l ∷ lines') rest' (line ∷ lines)) same (goes_on line lines' rest' lines next)))

pub one_text : (lines : List (List ℕ)) (rest : List ℕ) (lines' : List (List ℕ)) (rest' : List ℕ) → AreLines lines → AreLines lines' → text_of_lines lines ++ rest ≡ text_of_lines lines' ++ rest' → Meets lines rest lines' rest'
unfolding Meets
one_text [] rest [] rest' cut cut' same = inl (refl, same)
one_text [] rest (line' ∷ lines') rest' cut cut' same = inr (inl (begins_with line' lines' rest' rest cut'.0 same))
one_text (line ∷ lines) rest [] rest' cut cut' same = inr (inr (begins_with line lines rest rest' cut.0 (sym same)))
one_text (line ∷ lines) rest (line' ∷ lines') rest' cut cut' same =
    let texts = sym (append_assoc line (10 ∷ text_of_lines lines) rest) ∙ same ∙ append_assoc line' (10 ∷ text_of_lines lines') rest' in
    let first = same_cut 10 line line' (text_of_lines lines ++ rest) (text_of_lines lines' ++ rest') texts cut.0 cut'.0 in
    meets_more line line' lines lines' rest rest' first.0 (one_text lines rest lines' rest' cut.1 cut'.1 first.1)
