-- What is wrong with a line behind `begin` is what is read of it, kind by kind.
use Rattle.std.proofs.Common.{◌≡◌, ℕ, ◌<◌, ◌≤◌, Bool, true, false, List, ◌∷◌, ◌++◌, length, Some, Ok, Err, refl, sym, ap, ◌∙◌, subst, arith, inl, inr, ◌⊎◌}
use Rattle.std.specs.Prelude.{codes, IsUtf8}
use Rattle.std.specs.Fmt.{decimal}
use Rattle.std.specs.Option.{ok_or}
use Rattle.std.specs.Str.{is_utf8}
use Rattle.std.proofs.lemmas.Bool.{cases_lt, lt-leb, le-ltb, ne_eqb}
use Rattle.std.proofs.lemmas.Str.{IsUtf8-from_is_utf8, is_utf8-from_IsUtf8}
use Rattle.geo_base.specs.declared.limits.TheConstants.{SESSIONS_PER_REGION}
use Rattle.geo_base.specs.laws.Results.{bind_ok}
use Rattle.geo_script.specs.declared.event.Event.{Event}
use Rattle.geo_script.specs.declared.event.Event.TheVariants as event
use Rattle.geo_script.specs.declared.fault.ScriptKind.{ScriptKind}
use Rattle.geo_script.specs.declared.fault.ScriptKind.TheVariants.{NotUtf8, BadLine, BadNumber, LongStatement, TooManySessions}
use Rattle.geo_script.specs.declared.limits.TheConstants.{STATEMENT_BYTES, SESSIONS_PER_RUN}
use Rattle.geo_script.specs.declared.script.EventAt.{EventAt}
use Rattle.geo_script.specs.declared.script.Form.{Form}
use Rattle.geo_script.specs.declared.script.Form.TheVariants.{Play, Run}
use Rattle.geo_script.specs.declared.verb.Verb.{Verb}
use Rattle.geo_script.specs.declared.verb.Verb.TheVariants as verb
use Rattle.geo_script.specs.inner.EventLines.{OfLine, statement_parts, sql, crash_after, play_event, run_event, form_event, verb_and_rest, event_of, event_line}
use Rattle.geo_script.specs.EventWords.{verb_text, HasWordsBehind, HasWords}
use Rattle.geo_script.specs.Words.{IsWord}
use Rattle.geo_script.specs.inner.Past.{RunPast, has_crash, has_session}
use Rattle.geo_script.specs.Spelling.{session_text, event_text, Types, IsOfForm, IsWithin}
use Rattle.geo_script.specs.Wrongs.{HasRightNumbers, SpellsNumbers, CrashesAgain, IsTooLong, IsOneSessionMore, HasNoRoom, IsWrongLine}
use Rattle.geo_script.proofs.Cuts.{cut_at, word_lacks}
use Rattle.geo_script.proofs.Decimals.{decimal_word}
use Rattle.geo_script.proofs.EventsRead.{at_word, place_word, place_read, region_read, after_read, sql_read, line_read}
use Rattle.geo_script.proofs.EventsSpelled.{line_asks}
use Rattle.geo_script.proofs.Failures.{option_err, when_err, no_both, no_option, err_same}
use Rattle.schema_text.specs.laws.Inversions.{or_ok}
use Rattle.geo_script.proofs.PlayLines.{IsRegions}
use Rattle.geo_script.proofs.SoFar.{SoFar}
use Rattle.geo_script.proofs.VerbTexts.{behind_verb, verb_parts}
use Rattle.geo_script.proofs.WrongEvents.{Behind, LineFails, form_fails, words_behind}
use Rattle.geo_script.proofs.WrongHeads.{other_text, no_text}

-- ---- what is read of lines with one kind of fault

with_verb : (form : Form) (regions : ℕ) (past : RunPast) (verb : Verb) (rest : List ℕ) → event_of form regions past (verb_text verb ++ 32 ∷ rest) ≡ form_event form regions past verb rest
unfolding event_of
with_verb form regions past verb rest = rw (behind_verb verb rest) refl

sql_long : (regions at session : ℕ) (text : List ℕ) → IsRegions regions → at < regions → session < SESSIONS_PER_REGION → STATEMENT_BYTES < length text →
    sql regions (session_text at session ++ 32 ∷ text) ≡ Err LongStatement
unfolding sql statement_parts
sql_long regions at session text lawful within known long =
    let word = place_word at session (omega (arith, lawful.few)) (omega arith) in
    rw (cut_at 32 (session_text at session) text (word_lacks (session_text at session) word))
    (rw (word, ne_eqb (length text) 0 (λ is. omega arith)) (rw (place_read regions at session lawful within known) (rw (lt-leb (length text) STATEMENT_BYTES long) refl)))

long_form : (form : Form) (regions : ℕ) (past : RunPast) (rest : List ℕ) → sql regions rest ≡ Err LongStatement → form_event form regions past verb.Sql rest ≡ Err LongStatement
unfolding form_event play_event run_event
long_form Play regions past rest is = is
long_form Run regions past rest is = rw is refl

long_read : (form : Form) (regions : ℕ) → IsRegions regions → (past : RunPast) (line : List ℕ) → IsTooLong regions line → event_of form regions past line ≡ Err LongStatement
long_read form regions lawful past line long =
    let rest : List ℕ = session_text long.region long.session ++ 32 ∷ long.text in
    ap (event_of form regions past) long.typed
    ∙ (with_verb form regions past verb.Sql rest ∙ long_form form regions past rest (sql_long regions long.region long.session long.text lawful long.within long.known long.long))

full_form : (regions : ℕ) (past : RunPast) (rest : List ℕ) (at session : ℕ) (text : List ℕ) → sql regions rest ≡ Ok (event.Sql at session text) → has_session past at session ≡ false →
    SESSIONS_PER_RUN ≤ length past.sessions → form_event Run regions past verb.Sql rest ≡ Err TooManySessions
unfolding form_event run_event
full_form regions past rest at session text is other full = rw is (rw other (rw (le-ltb (length past.sessions) SESSIONS_PER_RUN full) refl))

full_read : (regions : ℕ) → IsRegions regions → (far : SoFar Run) (line : List ℕ) → IsOneSessionMore regions far.events line → event_of Run regions far.past line ≡ Err TooManySessions
full_read regions lawful far line more =
    let none = far.says.full more.region more.session more.more in
    let rest : List ℕ = session_text more.region more.session ++ 32 ∷ more.text in
    let read = sql_read regions more.region more.session more.text lawful more.within.0 more.within.1 more.within.2 more.within.3 in
    ap (event_of Run regions far.past) more.typed
    ∙ (with_verb Run regions far.past verb.Sql rest ∙ full_form regions far.past rest more.region more.session more.text read none.0 none.1)

again_form : (regions : ℕ) → IsRegions regions → (past : RunPast) (at : ℕ) (epoch : List ℕ) → at < regions → IsWord epoch → has_crash past at ≡ true →
    form_event Run regions past verb.Crash (decimal at ++ 32 ∷ (codes "after" ++ 32 ∷ epoch)) ≡ Err BadLine
unfolding form_event run_event crash_after
again_form regions lawful past at epoch within word crashed =
    rw (after_read (decimal at) epoch (at_word regions at lawful within) word) (rw (region_read regions at lawful within) (rw crashed refl))

again_read : (form : Form) (regions : ℕ) → IsRegions regions → (far : SoFar form) (line : List ℕ) → CrashesAgain form regions far.events line → event_of form regions far.past line ≡ Err BadLine
again_read Play regions lawful far line again = absurd again
again_read Run regions lawful far line again =
    ap (event_of Run regions far.past) again.whole
    ∙ (with_verb Run regions far.past verb.Crash (decimal again.region ++ 32 ∷ (codes "after" ++ 32 ∷ again.epoch))
    ∙ again_form regions lawful far.past again.region again.epoch again.within again.word (far.says.again again.region again.crashed))

-- ---- a line with right numbers has no bad one

of_line : (form : Form) (regions : ℕ) (past : RunPast) (line : List ℕ) → is_utf8 line ≡ true → event_line form regions past line ≡ event_of form regions past line
unfolding event_line
of_line form regions past line text = rw text refl

sql_right : (form : Form) (regions : ℕ) → IsRegions regions → (far : SoFar form) (line : List ℕ) (at session : ℕ) (text : List ℕ) → is_utf8 line ≡ true → line ≡ event_text (event.Sql at session text) →
    HasRightNumbers regions (event.Sql at session text) → event_line form regions far.past line ≡ Err BadNumber → ⊥
sql_right form regions lawful far line at session text utf8 typed right is =
    elim (cases_lt STATEMENT_BYTES (length text)) [
      | inl long ↦ cc (
        of_line form regions far.past line utf8,
        long_read form regions lawful far.past line record {
          region = at;
          session = session;
          text = text;
          typed = typed;
          within = right.0;
          known = right.1;
          long = long;
        },
      )
      | inr short ↦ by form far is (has_session far.past at session) refl (cases_lt (length far.past.sessions) SESSIONS_PER_RUN) short
    ]
  where
    by : (form : Form) (far : SoFar form) → event_line form regions far.past line ≡ Err BadNumber → (b : Bool) → has_session far.past at session ≡ b → (length far.past.sessions < SESSIONS_PER_RUN) ⊎ (SESSIONS_PER_RUN ≤ length far.past.sessions) →
        length text ≤ STATEMENT_BYTES → ⊥
    by Play far bad known has room short = cc (line_read Play regions lawful far.past line (event.Sql at session text) utf8 (inl typed) tt (right.0, right.1, right.2, short) tt)
    by Run far bad true has room short = cc (line_read Run regions lawful far.past line (event.Sql at session text) utf8 (inl typed) tt (right.0, right.1, right.2, short) (inl has))
    by Run far bad false has (inl room) short = cc (line_read Run regions lawful far.past line (event.Sql at session text) utf8 (inl typed) tt (right.0, right.1, right.2, short) (inr room))
    by Run far bad false has (inr full) short = cc (
      of_line Run regions far.past line utf8,
      full_read regions lawful far line record {
        region = at;
        session = session;
        text = text;
        typed = typed;
        within = (right.0, right.1, right.2, short);
        more = far.says.left at session has full;
      },
    )

typed_sql : (line : List ℕ) (at session : ℕ) (text : List ℕ) → Types line (event.Sql at session text) → line ≡ event_text (event.Sql at session text)
typed_sql line at session text (inl whole) = whole
typed_sql line at session text (inr short) = absurd short

crash_right : (regions : ℕ) → IsRegions regions → (far : SoFar Run) (line : List ℕ) (at epoch : ℕ) → is_utf8 line ≡ true → Types line (event.CrashAfter at epoch) →
    IsWithin regions (event.CrashAfter at epoch) → (CrashesAgain Run regions far.events line → ⊥) → event_line Run regions far.past line ≡ Err BadNumber → ⊥
crash_right regions lawful far line at epoch utf8 (inr short) within once is = absurd short
crash_right regions lawful far line at epoch utf8 (inl whole) within once is = by (has_crash far.past at) refl
  where
    by : (b : Bool) → has_crash far.past at ≡ b → ⊥
    by true crashed = once record { region = at; epoch = decimal epoch; whole = whole; word = decimal_word epoch (omega (arith, within.2)); within = within.0; crashed = far.says.crashed at crashed }
    by false fresh = cc (line_read Run regions lawful far.past line (event.CrashAfter at epoch) utf8 (inl whole) tt within fresh)

right_read : (form : Form) (regions : ℕ) → IsRegions regions → (far : SoFar form) (line : List ℕ) (asked : Event) → is_utf8 line ≡ true → Types line asked → IsOfForm form asked → HasRightNumbers regions asked →
    (CrashesAgain form regions far.events line → ⊥) → event_line form regions far.past line ≡ Err BadNumber → ⊥
right_read form regions lawful far line (event.Sql at session text) utf8 typed of_form right once is =
    sql_right form regions lawful far line at session text utf8 (typed_sql line at session text typed) right is
right_read Run regions lawful far line (event.CrashAfter at epoch) utf8 typed of_form right once is = crash_right regions lawful far line at epoch utf8 typed right once is
right_read Run regions lawful far line _ utf8 typed of_form right once is = absurd of_form
right_read Play regions lawful far line (event.CrashAfter at epoch) utf8 typed of_form right once is = absurd of_form
right_read Play regions lawful far line asked utf8 typed of_form right once is =
    no_both (event_line Play regions far.past line) asked BadNumber (line_read Play regions lawful far.past line asked utf8 typed of_form right tt) is

-- ---- what is read is what is wrong

no_words : (form : Form) (line : List ℕ) (parts : Verb × List ℕ) → verb_and_rest line ≡ Some parts → (HasWordsBehind form parts.0 parts.1 → ⊥) → HasWords form line → ⊥
no_words form line parts is none words =
    let same : parts ≡ (words.verb, words.rest) = cc (ap verb_and_rest words.whole, behind_verb words.verb words.rest) in
    none (subst (λ (p : Verb × List ℕ). HasWordsBehind form p.0 p.1) (sym same) words.behind)

apart : BadNumber ≡ BadLine → ⊥
apart same = cc

text_wrong : (form : Form) (regions : ℕ) → IsRegions regions → (far : SoFar form) (line : List ℕ) (kind : ScriptKind) → is_utf8 line ≡ true → event_of form regions far.past line ≡ Err kind →
    IsWrongLine form regions far.events line kind
unfolding event_of
text_wrong form regions lawful far line kind utf8 is =
    elim (option_err (verb_and_rest line) BadLine _ kind is) [
      | inl none ↦
          subst (IsWrongLine form regions far.events line) none.1
          (text, inl (λ words. no_option (verb_and_rest line) (words.verb, words.rest) none.0 (ap verb_and_rest words.whole ∙ behind_verb words.verb words.rest)))
      | inr parts ↦ by parts.0 parts.1 (form_fails form regions lawful far parts.0.0 parts.0.1 kind parts.2)
    ]
  where
    text : IsUtf8 line
    text = IsUtf8-from_is_utf8 line utf8

    by : (parts : Verb × List ℕ) → verb_and_rest line ≡ Some parts → LineFails form regions far.events (HasWordsBehind form parts.0 parts.1) (verb_text parts.0 ++ 32 ∷ parts.1) kind →
        IsWrongLine form regions far.events line kind
    by parts found (inl none) = subst (IsWrongLine form regions far.events line) none.0 (text, inl (no_words form line parts found none.1))
    by parts found (inr (words, behind)) = here (subst (λ l. Behind form regions far.events l kind) (sym (verb_parts line parts found)) behind)
      where
        here : Behind form regions far.events line kind → IsWrongLine form regions far.events line kind
        here (inl e) =
            let read : event_line form regions far.past line ≡ Err BadNumber = of_line form regions far.past line utf8 ∙ (is ∙ ap Err (sym e)) in
            let once : CrashesAgain form regions far.events line → ⊥ = λ again. apart (err_same (event_of form regions far.past line) BadNumber BadLine (is ∙ ap Err (sym e)) (again_read form regions lawful far line again)) in
            subst (IsWrongLine form regions far.events line) e (
              text,
              record { verb = parts.0; rest = parts.1; whole = verb_parts line parts found; behind = words },
              once,
              λ spells. right_read form regions lawful far line spells.asked utf8 spells.typed spells.of_form spells.right once read,
            )
        here (inr (inl long)) = subst (IsWrongLine form regions far.events line) long.0 (text, long.1)
        here (inr (inr (inl full))) = subst (IsWrongLine form regions far.events line) full.0 (text, full.1)
        here (inr (inr (inr again))) = subst (IsWrongLine form regions far.events line) again.0 (text, inr again.1)

pub line_wrong : (form : Form) (regions : ℕ) → IsRegions regions → (far : SoFar form) (line : List ℕ) (kind : ScriptKind) → event_line form regions far.past line ≡ Err kind →
    IsWrongLine form regions far.events line kind
unfolding event_line
line_wrong form regions lawful far line kind is =
    elim (when_err (is_utf8 line) _ NotUtf8 kind is) [
      | inl other ↦ subst (IsWrongLine form regions far.events line) other.1 (no_text line other.0)
      | inr text ↦ text_wrong form regions lawful far line kind text.0 text.1
    ]

-- ---- and back

not_read : (form : Form) (regions : ℕ) (past : RunPast) (line : List ℕ) → is_utf8 line ≡ false → event_line form regions past line ≡ Err NotUtf8
unfolding event_line
not_read form regions past line other = rw other refl

words_read : (form : Form) (regions : ℕ) (past : RunPast) (line : List ℕ) (asked : Event) → event_of form regions past line ≡ Ok asked → HasWords form line
unfolding event_of
words_read form regions past line asked is =
    let parts = bind_ok (ok_or (verb_and_rest line) BadLine) _ asked is in
    let found = or_ok (verb_and_rest line) BadLine parts.0 parts.1 in
    record { verb = parts.0.0; rest = parts.0.1; whole = verb_parts line parts.0 found; behind = words_behind form regions past parts.0.0 parts.0.1 asked parts.2 }

long_spells : (form : Form) (regions : ℕ) (line : List ℕ) → IsTooLong regions line → SpellsNumbers form regions line
long_spells form regions line long =
    record { asked = event.Sql long.region long.session long.text; typed = inl long.typed; of_form = by form; right = (long.within, long.known, omega (arith, long.long)) }
  where
    by : (form : Form) → IsOfForm form (event.Sql long.region long.session long.text)
    by Play = tt
    by Run = tt

full_spells : (form : Form) (regions : ℕ) (events : List EventAt) (line : List ℕ) → HasNoRoom form regions events line → SpellsNumbers form regions line
full_spells Play regions events line full = absurd full
full_spells Run regions events line full =
    record { asked = event.Sql full.region full.session full.text; typed = inl full.typed; of_form = tt; right = (full.within.0, full.within.1, full.within.2) }

right_of : (regions : ℕ) (asked : Event) → IsWithin regions asked → HasRightNumbers regions asked
right_of regions (event.Sql at session text) within = (within.0, within.1, within.2)
right_of regions _ within = within

-- a text without the words of an event is a bad line
wordless : (form : Form) (regions : ℕ) → IsRegions regions → (far : SoFar form) (line : List ℕ) (kind : ScriptKind) → (HasWords form line → ⊥) → event_of form regions far.past line ≡ Err kind → BadLine ≡ kind
unfolding event_of
wordless form regions lawful far line kind none is =
    elim (option_err (verb_and_rest line) BadLine _ kind is) [
      | inl other ↦ other.1
      | inr parts ↦
          elim (form_fails form regions lawful far parts.0.0 parts.0.1 kind parts.2) [
            | inl bad ↦ bad.0
            | inr words ↦ absurd (none record { verb = parts.0.0; rest = parts.0.1; whole = verb_parts line parts.0 parts.1; behind = words.0 })
          ]
    ]

numbers_stop : (form : Form) (regions : ℕ) (events : List EventAt) (line : List ℕ) (kind : ScriptKind) → IsUtf8 line → HasWords form line → (CrashesAgain form regions events line → ⊥) →
    (SpellsNumbers form regions line → ⊥) → IsWrongLine form regions events line kind → BadNumber ≡ kind
numbers_stop form regions events line NotUtf8 text words once none wrong = absurd (wrong text)
numbers_stop form regions events line BadLine text words once none (_, inl other) = absurd (other words)
numbers_stop form regions events line BadLine text words once none (_, inr again) = absurd (once again)
numbers_stop form regions events line BadNumber text words once none wrong = refl
numbers_stop form regions events line LongStatement text words once none wrong = absurd (none (long_spells form regions line wrong.1))
numbers_stop form regions events line TooManySessions text words once none wrong = absurd (none (full_spells form regions events line wrong.1))
numbers_stop form regions events line _ text words once none wrong = absurd wrong

pub line_stops : (form : Form) (regions : ℕ) → IsRegions regions → (far : SoFar form) (line : List ℕ) (kind : ScriptKind) → IsWrongLine form regions far.events line kind →
    event_line form regions far.past line ≡ Err kind
line_stops form regions lawful far line NotUtf8 wrong = not_read form regions far.past line (other_text line wrong)
line_stops form regions lawful far line LongStatement wrong =
    of_line form regions far.past line (is_utf8-from_IsUtf8 line wrong.0) ∙ long_read form regions lawful far.past line wrong.1
line_stops Run regions lawful far line TooManySessions wrong =
    of_line Run regions far.past line (is_utf8-from_IsUtf8 line wrong.0) ∙ full_read regions lawful far line wrong.1
line_stops Play regions lawful far line TooManySessions wrong = absurd wrong.1
line_stops form regions lawful far line BadLine (text, inr again) =
    of_line form regions far.past line (is_utf8-from_IsUtf8 line text) ∙ again_read form regions lawful far line again
line_stops form regions lawful far line BadLine (text, inl none) = by (event_line form regions far.past line) refl
  where
    by : (r : OfLine Event) → event_line form regions far.past line ≡ r → r ≡ Err BadLine
    by (Ok asked) read = absurd (none (words_read form regions far.past line asked (sym (of_line form regions far.past line (is_utf8-from_IsUtf8 line text)) ∙ read)))
    by (Err kind) read = ap Err (sym (wordless form regions lawful far line kind none (sym (of_line form regions far.past line (is_utf8-from_IsUtf8 line text)) ∙ read)))
line_stops form regions lawful far line BadNumber (text, words, once, none) = by (event_line form regions far.past line) refl
  where
    by : (r : OfLine Event) → event_line form regions far.past line ≡ r → r ≡ Err BadNumber
    by (Ok asked) read =
        let now = line_asks form regions lawful far.past line asked read in
        absurd (none record { asked = asked; typed = now.now.asks.typed; of_form = now.now.asks.of_form; right = right_of regions asked now.now.asks.within })
    by (Err kind) read = ap Err (sym (numbers_stop form regions far.events line kind text words once none (line_wrong form regions lawful far line kind read)))
line_stops form regions lawful far line _ wrong = absurd wrong
