-- A line asks for one event.
use Rattle.std.proofs.Common.{◌≡◌, ◌⊎◌, ℕ, ◌^◌, ◌<◌, eqb, false, false-eqb, List, [], ◌∷◌, ◌++◌, get_or, codes, refl, sym, ap, ◌∙◌, arith, append_assoc, inl, inr}
use Rattle.std.specs.Prelude.{ℤ, pos, negsuc}
use Rattle.std.specs.Fmt.{decimal, signed_decimal}
use Rattle.std.proofs.lemmas.Fmt.{decimal_injective, signed_decimal_injective}
use Rattle.std.proofs.lemmas.List.{append_cancel_left, append_cancel_right}
use Rattle.world_script.specs.declared.event.Statement.{Statement}
use Rattle.world_script.specs.declared.event.Statement.TheVariants.{Insert, Select}
use Rattle.world_script.specs.declared.event.Event.{Event}
use Rattle.world_script.specs.declared.event.Event.TheVariants.{Sql, Seal, Deliver, Publish, Show}
use Rattle.world_script.specs.Script.{IsLineOf, IsLiteral, IsTyped, IsWithin, statement_text}
use Rattle.world_script.proofs.Pieces.{same_cut, not_cut}
use Rattle.world_script.proofs.Decimals.{decimal_lacks, literal_lacks}
use Rattle.world_script.proofs.EventTexts.{deliver_numbers, deliver_begins, sql_text}

apart : (m n : ℕ) → m ≡ n → eqb m n ≡ false → ⊥
apart m n is differs = false-eqb m n (sym differs) is

-- two numbers in range behind one word are one
pub same_number : (line word : List ℕ) (m n : ℕ) → m < 2 ^ 64 → n < 2 ^ 64 → line ≡ word ++ decimal m → line ≡ word ++ decimal n → m ≡ n
same_number line word m n few few' is is' = decimal_injective m n few few' (append_cancel_left word (decimal m) (decimal n) (sym is ∙ is'))

same_literal : (y z : ℤ) → IsLiteral y → IsLiteral z → signed_decimal y ≡ signed_decimal z → y ≡ z
same_literal (pos m) (pos n) typed typed' same = signed_decimal_injective (pos m) (pos n) (omega arith) (omega arith) same
same_literal (pos m) (negsuc n) typed typed' same = signed_decimal_injective (pos m) (negsuc n) (omega arith) (omega arith) same
same_literal (negsuc m) (pos n) typed typed' same = signed_decimal_injective (negsuc m) (pos n) (omega arith) (omega arith) same
same_literal (negsuc m) (negsuc n) typed typed' same = signed_decimal_injective (negsuc m) (negsuc n) (omega arith) (omega arith) same

-- the values of an insert, cut at their comma
insert_text : (key value : ℤ) → statement_text (Insert key value) ≡ codes "INSERT INTO kv VALUES (" ++ (signed_decimal key ++ (44 ∷ (32 ∷ (signed_decimal value ++ (41 ∷ [])))))
insert_text key value =
    append_assoc (codes "INSERT INTO kv VALUES (" ++ (signed_decimal key ++ (44 ∷ 32 ∷ []))) (signed_decimal value) (41 ∷ [])
    ∙ append_assoc (codes "INSERT INTO kv VALUES (" ++ signed_decimal key) (44 ∷ 32 ∷ []) (signed_decimal value ++ (41 ∷ []))

pub same_statement : (s t : Statement) → IsTyped s → IsTyped t → statement_text s ≡ statement_text t → s ≡ t
same_statement Select Select typed typed' same = refl
same_statement Select (Insert key' value') typed typed' same = absurd (apart 83 73 (ap (λ bs. get_or bs 0 0) same) refl)
same_statement (Insert key value) Select typed typed' same = absurd (apart 73 83 (ap (λ bs. get_or bs 0 0) same) refl)
same_statement (Insert key value) (Insert key' value') typed typed' same =
    let values = append_cancel_left (codes "INSERT INTO kv VALUES (") _ _ (sym (insert_text key value) ∙ same ∙ insert_text key' value') in
    let parts = same_cut 44 (signed_decimal key) (signed_decimal key') (32 ∷ (signed_decimal value ++ (41 ∷ []))) (32 ∷ (signed_decimal value' ++ (41 ∷ []))) values (literal_lacks key 44 typed.0 (λ range. omega arith) (λ e. omega arith)) (literal_lacks key' 44 typed'.0 (λ range. omega arith) (λ e. omega arith)) in
    let last : signed_decimal value ++ (41 ∷ []) ≡ signed_decimal value' ++ (41 ∷ []) = cc (parts.1) in
    let is_key = same_literal key key' typed.0 typed'.0 parts.0 in
    let is_value = same_literal value value' typed.1 typed'.1 (append_cancel_right _ _ (41 ∷ []) last) in
    cc

same_session : (line : List ℕ) (region session region' session' : ℕ) (statement statement' : Statement) → region < 2 ^ 64 → region' < 2 ^ 64 → session < 2 ^ 64 → session' < 2 ^ 64 → IsTyped statement → IsTyped statement' → IsLineOf (Sql region session statement) line → IsLineOf (Sql region' session' statement') line → Sql region session statement ≡ Sql region' session' statement'
same_session line region session region' session' statement statement' few few' small small' typed typed' of of' =
    let rest = append_cancel_left (codes "sql ") _ _ (sym (sql_text line region session statement of) ∙ sql_text line region' session' statement' of') in
    let first = same_cut 46 (decimal region) (decimal region') (decimal session ++ (32 ∷ statement_text statement)) (decimal session' ++ (32 ∷ statement_text statement')) rest (decimal_lacks region 46 few (λ range. omega arith)) (decimal_lacks region' 46 few' (λ range. omega arith)) in
    let second = same_cut 32 (decimal session) (decimal session') (statement_text statement) (statement_text statement') first.1 (decimal_lacks session 32 small (λ range. omega arith)) (decimal_lacks session' 32 small' (λ range. omega arith)) in
    let is_region = decimal_injective region region' few few' first.0 in
    let is_session = decimal_injective session session' small small' second.0 in
    let is_statement = same_statement statement statement' typed typed' second.1 in
    cc

-- two spellings of packets behind the word ask for the same ones
AreNumbers : List ℕ → ℕ → ℕ → Type 0
AreNumbers numbers first last = (numbers ≡ decimal first ++ (32 ∷ decimal last)) ⊎ ((first ≡ last) × (numbers ≡ decimal first))

same_numbers : (numbers : List ℕ) (first last first' last' : ℕ) → first < 2 ^ 64 → first' < 2 ^ 64 → last < 2 ^ 64 → last' < 2 ^ 64 → AreNumbers numbers first last → AreNumbers numbers first' last' → (first ≡ first') × (last ≡ last')
unfolding AreNumbers
same_numbers numbers first last first' last' few few' small small' (inl two) (inl two') =
    let parts = same_cut 32 (decimal first) (decimal first') (decimal last) (decimal last') (sym two ∙ two') (decimal_lacks first 32 few (λ range. omega arith)) (decimal_lacks first' 32 few' (λ range. omega arith)) in
    (decimal_injective first first' few few' parts.0, decimal_injective last last' small small' parts.1)
same_numbers numbers first last first' last' few few' small small' (inl two) (inr one') =
    absurd (not_cut (decimal first') 32 _ _ (decimal_lacks first' 32 few' (λ range. omega arith)) (sym one'.1 ∙ two))
same_numbers numbers first last first' last' few few' small small' (inr one) (inl two') =
    absurd (not_cut (decimal first) 32 _ _ (decimal_lacks first 32 few (λ range. omega arith)) (sym one.1 ∙ two'))
same_numbers numbers first last first' last' few few' small small' (inr one) (inr one') =
    let is = decimal_injective first first' few few' (sym one.1 ∙ one'.1) in
    (is, omega arith)

same_packets : (line : List ℕ) (first last first' last' : ℕ) → first < 2 ^ 64 → first' < 2 ^ 64 → last < 2 ^ 64 → last' < 2 ^ 64 → IsLineOf (Deliver first last) line → IsLineOf (Deliver first' last') line → Deliver first last ≡ Deliver first' last'
unfolding AreNumbers
same_packets line first last first' last' few few' small small' of of' =
    let begins = deliver_begins line first last of in
    let same = same_numbers begins.0 first last first' last' few few' small small' (deliver_numbers line begins.0 first last begins.1 of) (deliver_numbers line begins.0 first' last' begins.1 of') in
    cc

-- the bytes at a place of a text that has two forms are one
same_byte : (line a b : List ℕ) (place : ℕ) → line ≡ a → line ≡ b → get_or a place 0 ≡ get_or b place 0
same_byte line a b place is is' = ap (λ bs. get_or bs place 0) (sym is ∙ is')

-- a line that asks for two events in range asks for one
pub one_event : (regions : ℕ) (line : List ℕ) (e f : Event) → regions < 2 ^ 64 → IsWithin regions e → IsWithin regions f → IsLineOf e line → IsLineOf f line → e ≡ f
one_event regions line (Sql region session statement) (Sql region' session' statement') most within within' of of' =
    same_session line region session region' session' statement statement' (omega arith) (omega arith) (omega arith) (omega arith) within.2 within'.2 of of'
one_event regions line (Sql region session statement) (Seal region') most within within' of of' =
    absurd (apart 113 101 (same_byte line _ _ 1 of of') refl)
one_event regions line (Sql region session statement) (Deliver first' last') most within within' of of' =
    elim of' [ inl two ↦ absurd (apart 115 100 (same_byte line _ _ 0 of two) refl) | inr one ↦ absurd (apart 115 100 (same_byte line _ _ 0 of one.1) refl) ]
one_event regions line (Sql region session statement) (Publish region') most within within' of of' =
    absurd (apart 115 112 (same_byte line _ _ 0 of of') refl)
one_event regions line (Sql region session statement) (Show region') most within within' of of' =
    absurd (apart 113 104 (same_byte line _ _ 1 of of') refl)
one_event regions line (Seal region) (Sql region' session' statement') most within within' of of' =
    absurd (apart 101 113 (same_byte line _ _ 1 of of') refl)
one_event regions line (Seal region) (Seal region') most within within' of of' =
    ap Seal (same_number line (codes "seal ") region region' (omega arith) (omega arith) of of')
one_event regions line (Seal region) (Deliver first' last') most within within' of of' =
    elim of' [ inl two ↦ absurd (apart 115 100 (same_byte line _ _ 0 of two) refl) | inr one ↦ absurd (apart 115 100 (same_byte line _ _ 0 of one.1) refl) ]
one_event regions line (Seal region) (Publish region') most within within' of of' =
    absurd (apart 115 112 (same_byte line _ _ 0 of of') refl)
one_event regions line (Seal region) (Show region') most within within' of of' =
    absurd (apart 101 104 (same_byte line _ _ 1 of of') refl)
one_event regions line (Deliver first last) (Sql region' session' statement') most within within' of of' =
    elim of [ inl two ↦ absurd (apart 100 115 (same_byte line _ _ 0 two of') refl) | inr one ↦ absurd (apart 100 115 (same_byte line _ _ 0 one.1 of') refl) ]
one_event regions line (Deliver first last) (Seal region') most within within' of of' =
    elim of [ inl two ↦ absurd (apart 100 115 (same_byte line _ _ 0 two of') refl) | inr one ↦ absurd (apart 100 115 (same_byte line _ _ 0 one.1 of') refl) ]
one_event regions line (Deliver first last) (Deliver first' last') most within within' of of' =
    same_packets line first last first' last' (omega arith) (omega arith) (omega arith) (omega arith) of of'
one_event regions line (Deliver first last) (Publish region') most within within' of of' =
    elim of [ inl two ↦ absurd (apart 100 112 (same_byte line _ _ 0 two of') refl) | inr one ↦ absurd (apart 100 112 (same_byte line _ _ 0 one.1 of') refl) ]
one_event regions line (Deliver first last) (Show region') most within within' of of' =
    elim of [ inl two ↦ absurd (apart 100 115 (same_byte line _ _ 0 two of') refl) | inr one ↦ absurd (apart 100 115 (same_byte line _ _ 0 one.1 of') refl) ]
one_event regions line (Publish region) (Sql region' session' statement') most within within' of of' =
    absurd (apart 112 115 (same_byte line _ _ 0 of of') refl)
one_event regions line (Publish region) (Seal region') most within within' of of' =
    absurd (apart 112 115 (same_byte line _ _ 0 of of') refl)
one_event regions line (Publish region) (Deliver first' last') most within within' of of' =
    elim of' [ inl two ↦ absurd (apart 112 100 (same_byte line _ _ 0 of two) refl) | inr one ↦ absurd (apart 112 100 (same_byte line _ _ 0 of one.1) refl) ]
one_event regions line (Publish region) (Publish region') most within within' of of' =
    ap Publish (same_number line (codes "publish ") region region' (omega arith) (omega arith) of of')
one_event regions line (Publish region) (Show region') most within within' of of' =
    absurd (apart 112 115 (same_byte line _ _ 0 of of') refl)
one_event regions line (Show region) (Sql region' session' statement') most within within' of of' =
    absurd (apart 104 113 (same_byte line _ _ 1 of of') refl)
one_event regions line (Show region) (Seal region') most within within' of of' =
    absurd (apart 104 101 (same_byte line _ _ 1 of of') refl)
one_event regions line (Show region) (Deliver first' last') most within within' of of' =
    elim of' [ inl two ↦ absurd (apart 115 100 (same_byte line _ _ 0 of two) refl) | inr one ↦ absurd (apart 115 100 (same_byte line _ _ 0 of one.1) refl) ]
one_event regions line (Show region) (Publish region') most within within' of of' =
    absurd (apart 115 112 (same_byte line _ _ 0 of of') refl)
one_event regions line (Show region) (Show region') most within within' of of' =
    ap Show (same_number line (codes "show ") region region' (omega arith) (omega arith) of of')
