-- Readers of one or more, with commas between them.
use mathlib.Core.Path.{fun_ext}
use Rattle.std.proofs.Common.{◌≡◌, ◌≤◌, ◌<◌, ◌⊎◌, ℕ, zero, suc, List, [], ◌∷◌, ◌++◌, map, length, Bool, true, false, if◌then◌else◌, Ok, Err, refl, sym, ap, ◌∙◌, subst, inl, inr, arith, length-append}
use Rattle.sql_lex.specs.declared.symbol.Symbol.TheVariants.{Comma}
use Rattle.sql_lex.specs.declared.token.TokenKind.{TokenKind}
use Rattle.sql_lex.specs.declared.token.TokenKind.TheVariants as kind
use Rattle.sql_parse.specs.inner.Kinds.{is_symbol}
use Rattle.sql_parse.specs.Trees.{marks, kinds}
use Rattle.sql_parse.specs.Forms.{Several, listed}
use Rattle.sql_parse.specs.inner.Reading.{Outcome, Parser, and_then, ◌>->◌, ◌>>◌, pure, begins, symbol, others, separated}
use Rattle.sql_parse.proofs.ExpressionPhrases.{IsPhrase}
use Rattle.sql_parse.proofs.ExpressionLaws.{Fits}
use Rattle.sql_parse.proofs.ReaderParts.{Part, Word, Phrase, before, Apart, fresh_after, every_left, every_right, apart_append}
use Rattle.sql_parse.proofs.ReaderLaws.{Answers, Completes, Deepens, IsReader, both, chained, sequence_answers, sequence_completes, sequence_deepens}
use Rattle.sql_parse.proofs.ReaderSequence.{Leads, or_goes, ended_left, ended_right, leads_ended, leads_over, open_maybe, mapped, mapped_answer, formed, formed_answer}
use Rattle.sql_parse.proofs.ReaderTokens.{symbol_itself}
use Rattle.sql_parse.proofs.ReaderChoices.{behind, symbol_then, pure_reader, choice, either, choice_answer, picked, skipped}

-- ---- lengths

length_before : (parts : List Part) (rest : List TokenKind) → length rest ≤ length (before parts rest)
length_before [] rest = omega arith
length_before (Word kind ∷ parts) rest = let e = length_before parts rest in omega arith
length_before (Phrase tree ∷ parts) rest = let e = length_before parts rest in omega (arith, length-append (kinds (marks tree)) (before parts rest))

-- ---- the others

abbrev pub comma_parts : {F : Type 0} → (F → List Part) → F → List Part
comma_parts parts = behind (kind.Symbol Comma) parts

abbrev pub list_parts : {F : Type 0} → (F → List Part) → List F → List Part
list_parts parts [] = []
list_parts parts (form ∷ forms) = comma_parts parts form ++ list_parts parts forms

module _ {F A : Type 0} (parts : F → List Part) (value : F → A) (goes : TokenKind → Bool) (p : Parser A) (reader : IsReader parts value goes p) where
  comma_reader : IsReader (comma_parts parts) value goes (symbol Comma >> p)
  comma_reader = symbol_then parts value goes p reader Comma

  abbrev rest_of : Parser (List A)
  rest_of tokens = others (length tokens) p tokens

  abbrev more_by : Parser (List A) → Parser (List A)
  more_by q = symbol Comma >> p >-> (λ first. q >-> (λ more. pure (first ∷ more)))

  shorter : (tokens : List TokenKind) (o : Outcome A) → Answers (comma_parts parts) value (symbol Comma >> p) tokens o → (a : A) (rest : List TokenKind) → o ≡ Ok (a, rest) → length rest < length tokens
  shorter tokens (Ok read) given a rest same =
      let e : read ≡ (a, rest) = cc in
      let whole : length (before (comma_parts parts given.form) read.1) ≡ length tokens = ap length given.whole in
      let f : length read.1 ≡ length rest = ap (λ (r : A × List TokenKind). length r.1) e in
      let g = length_before (parts given.form) read.1 in omega arith
  shorter tokens (Err stop) given a rest same = cc

  more_same : (q r : Parser (List A)) (tokens : List TokenKind) → ((a : A) (rest : List TokenKind) → length rest < length tokens → q rest ≡ r rest) → more_by q tokens ≡ more_by r tokens
  more_same q r tokens same = by ((symbol Comma >> p) tokens) (λ a rest e. same a rest (shorter tokens ((symbol Comma >> p) tokens) (comma_reader.answers tokens) a rest e))
    where
      by : (o : Outcome A) → ((a : A) (rest : List TokenKind) → o ≡ Ok (a, rest) → q rest ≡ r rest) →
          and_then o (λ first. q >-> (λ more. pure (first ∷ more))) ≡ and_then o (λ first. r >-> (λ more. pure (first ∷ more)))
      by (Ok read) same = ap (λ o. and_then o (λ more. pure (read.0 ∷ more))) (same read.0 read.1 refl)
      by (Err stop) same = refl

  -- more turns than tokens change nothing
  others_same : (n m : ℕ) (tokens : List TokenKind) → length tokens ≤ n → length tokens ≤ m → others n p tokens ≡ others m p tokens
  unfolding begins
  others_same zero zero tokens low high = refl
  others_same zero (suc m) [] low high = refl
  others_same zero (suc m) (token ∷ tokens) low high = absurd (omega arith)
  others_same (suc n) zero [] low high = refl
  others_same (suc n) zero (token ∷ tokens) low high = absurd (omega arith)
  others_same (suc n) (suc m) tokens low high =
      ap (λ o. if begins (is_symbol Comma) tokens then o else Ok ([], tokens))
      (more_same (others n p) (others m p) tokens (λ a rest less. others_same n m rest (omega arith) (omega arith)))

  rest_opened : (tokens : List TokenKind) → rest_of tokens ≡ choice (is_symbol Comma) (more_by rest_of) (pure []) tokens
  unfolding begins
  rest_opened [] = refl
  rest_opened (token ∷ tokens) =
      ap (λ o. if begins (is_symbol Comma) (token ∷ tokens) then o else Ok ([], token ∷ tokens))
      (more_same (others (length tokens) p) rest_of (token ∷ tokens) (λ a rest less. others_same (length tokens) (length rest) rest (omega arith) (omega arith)))

  rest_is : choice (is_symbol Comma) (more_by rest_of) (pure []) ≡ rest_of
  rest_is = fun_ext (λ tokens. sym (rest_opened tokens))

  -- ---- what they answer

  to : F × List F ⊎ Unit {0} → List F
  to (inl form) = form.0 ∷ form.1
  to (inr none) = []

  from : List F → F × List F ⊎ Unit {0}
  from [] = inr tt
  from (form ∷ forms) = inl (form, forms)

  abbrev none_parts : Unit {0} → List Part
  none_parts form = []

  abbrev none_value : Unit {0} → List A
  none_value form = []

  abbrev more_value : F × List F → List A
  more_value = chained value (λ a forms. a ∷ map value forms)

  to_parts : (form : F × List F ⊎ Unit {0}) → list_parts parts (to form) ≡ either (both (comma_parts parts) (list_parts parts)) none_parts form
  unfolding to
  to_parts (inl form) = refl
  to_parts (inr none) = refl

  to_value : (form : F × List F ⊎ Unit {0}) → map value (to form) ≡ either more_value none_value form
  unfolding to
  to_value (inl form) = refl
  to_value (inr none) = refl

  from_parts : (forms : List F) → either (both (comma_parts parts) (list_parts parts)) none_parts (from forms) ≡ list_parts parts forms
  unfolding from
  from_parts [] = refl
  from_parts (form ∷ forms) = refl

  from_value : (forms : List F) → either more_value none_value (from forms) ≡ map value forms
  unfolding from
  from_value [] = refl
  from_value (form ∷ forms) = refl

  AnswersAt : List TokenKind → Type 0
  AnswersAt tokens = Answers (list_parts parts) (map value) rest_of tokens (rest_of tokens)

  rest_answer : (tokens : List TokenKind) → ((rest : List TokenKind) → length rest < length tokens → AnswersAt rest) → AnswersAt tokens
  unfolding AnswersAt
  rest_answer tokens earlier =
      subst (λ q. Answers (list_parts parts) (map value) q tokens (q tokens)) rest_is
      (formed_answer (either (both (comma_parts parts) (list_parts parts)) none_parts) (either more_value none_value) chooses goes (list_parts parts) (map value)
      to from to_parts to_value from_parts from_value tokens (chooses tokens)
      (choice_answer (both (comma_parts parts) (list_parts parts)) more_value (more_by rest_of) none_parts none_value (pure []) (is_symbol Comma) tokens
      (sequence_answers (comma_parts parts) value (symbol Comma >> p) (list_parts parts) (λ a forms. a ∷ map value forms) (λ first. rest_of >-> (λ more. pure (first ∷ more)))
      tokens [] tt (comma_reader.answers tokens)
      (λ a rest e. mapped_answer (list_parts parts) (map value) rest_of (λ more. a ∷ more) rest (rest_of rest)
      (earlier rest (shorter tokens ((symbol Comma >> p) tokens) (comma_reader.answers tokens) a rest e))))
      ((pure_reader []).answers tokens)))
    where
      chooses : Parser (List A)
      chooses = choice (is_symbol Comma) (more_by rest_of) (pure [])

  rest_answers : (n : ℕ) (tokens : List TokenKind) → length tokens ≤ n → AnswersAt tokens
  rest_answers zero tokens low = rest_answer tokens (λ rest less. absurd (omega arith))
  rest_answers (suc n) tokens low = rest_answer tokens (λ rest less. rest_answers n rest (omega arith))

  -- ---- what they read

  abbrev rest_goes : TokenKind → Bool
  rest_goes = or_goes goes (is_symbol Comma)

  list_leads : goes (kind.Symbol Comma) ≡ false → (forms : List F) → Leads goes (list_parts parts forms)
  list_leads apart [] = tt
  list_leads apart (form ∷ forms) = apart

  at_comma : (tokens : List TokenKind) → begins (is_symbol Comma) (kind.Symbol Comma ∷ tokens) ≡ true
  unfolding begins
  at_comma tokens = symbol_itself Comma

  rest_picked : (tokens : List TokenKind) → begins (is_symbol Comma) tokens ≡ true → rest_of tokens ≡ more_by rest_of tokens
  rest_picked tokens picks = rest_opened tokens ∙ picked none_parts none_value (more_by rest_of) none_parts none_value (pure []) (is_symbol Comma) tokens picks

  rest_completes : goes (kind.Symbol Comma) ≡ false → Completes (list_parts parts) (map value) rest_goes rest_of
  rest_completes apart [] rest lawful fits ended =
      rest_opened rest ∙ skipped none_parts none_value (more_by rest_of) none_parts none_value (pure []) (is_symbol Comma) rest (ended_right goes (is_symbol Comma) rest ended)
  rest_completes apart (form ∷ forms) rest lawful fits ended =
      rest_picked (kind.Symbol Comma ∷ before (parts form ++ list_parts parts forms) rest) (at_comma (before (parts form ++ list_parts parts forms) rest))
      ∙ sequence_completes (comma_parts parts) value (symbol Comma >> p) (list_parts parts) (λ a forms. a ∷ map value forms) (λ first. rest_of >-> (λ more. pure (first ∷ more)))
      form forms rest
      (comma_reader.complete form (before (list_parts parts forms) rest) (every_left IsPhrase (parts form) (list_parts parts forms) lawful)
      (every_left Fits (parts form) (list_parts parts forms) fits)
      (leads_ended goes (list_parts parts forms) rest (list_leads apart forms) (ended_left goes (is_symbol Comma) rest ended)))
      (ap (λ o. and_then o (λ more. pure (value form ∷ more)))
      (rest_completes apart forms rest (every_right IsPhrase (parts form) (list_parts parts forms) lawful) (every_right Fits (parts form) (list_parts parts forms) fits) ended))

  rest_deepens : goes (kind.Symbol Comma) ≡ false → Deepens (list_parts parts) rest_of
  rest_deepens apart [] tokens left lawful over = absurd over
  rest_deepens apart (form ∷ forms) tokens left lawful over =
      rest_picked tokens (ap (begins (is_symbol Comma)) over.1 ∙ at_comma over.0)
      ∙ sequence_deepens (comma_parts parts) value (symbol Comma >> p) (list_parts parts) (λ a forms. a ∷ map value forms) (λ first. rest_of >-> (λ more. pure (first ∷ more)))
      form forms tokens left over
      (λ left here. comma_reader.deep form tokens left (every_left IsPhrase (parts form) (list_parts parts forms) lawful) here)
      (λ rest left fits later. comma_reader.complete form rest (every_left IsPhrase (parts form) (list_parts parts forms) lawful) fits
      (leads_over goes (list_parts parts forms) rest left (list_leads apart forms) later))
      (λ rest left later. ap (λ o. and_then o (λ more. pure (value form ∷ more)))
      (rest_deepens apart forms rest left (every_right IsPhrase (parts form) (list_parts parts forms) lawful) later))

  list_apart : (fresh : Bool) (forms : List F) → Apart fresh (list_parts parts forms)
  list_apart fresh [] = tt
  list_apart fresh (form ∷ forms) = apart_append true (parts form) (list_parts parts forms) (reader.apart form) (list_apart (fresh_after true (parts form)) forms)

  rest_reader : goes (kind.Symbol Comma) ≡ false → IsReader (list_parts parts) (map value) rest_goes rest_of
  unfolding AnswersAt
  rest_reader apart = record {
    least = [];
    lawful = tt;
    apart = λ forms. list_apart true forms;
    answers = λ tokens. rest_answers (length tokens) tokens (omega arith);
    complete = rest_completes apart;
    deep = rest_deepens apart;
  }

-- ---- one or more

abbrev pub several_parts : {F : Type 0} → (F → List Part) → Several F → List Part
several_parts parts forms = parts forms.first ++ list_parts parts forms.others

abbrev pub several_value : {F A : Type 0} → (F → A) → Several F → List A
several_value value forms = map value (listed forms)

pub several_reader : {F A : Type 0} (parts : F → List Part) (value : F → A) (goes : TokenKind → Bool) (p : Parser A) → IsReader parts value goes p →
    goes (kind.Symbol Comma) ≡ false → IsReader (several_parts parts) (several_value value) (or_goes goes (or_goes goes (is_symbol Comma))) (separated p)
several_reader {F} parts value goes p reader apart =
    formed (both parts (list_parts parts)) (chained value (λ a forms. a ∷ map value forms)) (separated p) (or_goes goes (or_goes goes (is_symbol Comma)))
    (several_parts parts) (several_value value) to_several from_several (λ form. refl) (λ form. refl) (λ forms. refl) (λ forms. refl)
    (open_maybe parts value p (list_parts parts) (λ a forms. a ∷ map value forms)
    (λ first. (λ tokens. others (length tokens) p tokens) >-> (λ more. pure (first ∷ more))) goes (or_goes goes (is_symbol Comma)) reader
    (list_leads parts value goes p reader apart)
    (λ a. mapped (list_parts parts) (map value) (λ tokens. others (length tokens) p tokens) (λ more. a ∷ more) (or_goes goes (is_symbol Comma)) (rest_reader parts value goes p reader apart)))
  where
    to_several : F × List F → Several F
    to_several form = record { first = form.0; others = form.1 }

    from_several : Several F → F × List F
    from_several forms = (forms.first, forms.others)
