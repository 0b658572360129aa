-- What is wrong with lines of events is what is read of them.
use Rattle.std.proofs.Common.{◌≡◌, ℕ, ◌-◌, ◌≤◌, ◌==◌, ◌&&◌, Bool, true, false, cond, List, ◌∷◌, ◌++◌, length, Option, Some, Ok, Err, nat_lt, nat_le, refl, sym, ap, ◌∙◌, subst, inl, inr, ◌⊎◌}
use Rattle.std.specs.Prelude.{codes}
use Rattle.std.specs.Option.{ok_or}
use Rattle.std.proofs.lemmas.Bool.{leb-false, ltb-false}
use Rattle.geo_base.specs.declared.limits.TheConstants.{PACKETS_PER_LINE, SESSIONS_PER_REGION}
use Rattle.geo_base.specs.laws.Results.{bind_ok, failed}
use Rattle.geo_script.specs.declared.event.Event.{Event}
use Rattle.geo_script.specs.declared.event.Event.TheVariants as event
use Rattle.geo_script.specs.declared.fault.ScriptKind.{ScriptKind}
use Rattle.geo_script.specs.declared.fault.ScriptKind.TheVariants.{BadLine, BadNumber, LongStatement, TooManySessions}
use Rattle.geo_script.specs.declared.limits.TheConstants.{STATEMENT_BYTES, SESSIONS_PER_RUN, SEATS_PER_ROUND, LAST_ASKED_EPOCH, LAST_CRASH_EPOCH, LAST_PACKET}
use Rattle.geo_script.specs.declared.script.EventAt.{EventAt}
use Rattle.geo_script.specs.declared.script.Form.{Form}
use Rattle.geo_script.specs.declared.script.Form.TheVariants.{Play, Run}
use Rattle.geo_script.specs.declared.verb.Verb.{Verb}
use Rattle.geo_script.specs.declared.verb.Verb.TheVariants as verb
use Rattle.geo_script.specs.inner.EventLines.{OfLine, number_or_bad, region, place, statement_parts, sql, outcome, only_region, packet_words, deliver, fetch, work, crash_words, crash, after_words, fresh_region, crash_after, if_admitted, play_event, run_event, form_event}
use Rattle.geo_script.specs.EventWords.{verb_text, HasStatement, HasTwoWords, HasThreeWords, HasSealing, HasAfter, HasWordsBehind}
use Rattle.geo_script.specs.Words.{IsWord, is_word}
use Rattle.geo_script.specs.inner.Past.{RunPast, has_crash, has_session}
use Rattle.geo_script.specs.Spelling.{event_text, Types}
use Rattle.geo_base.specs.Results.{◌>>=◌}
use Rattle.geo_script.specs.inner.Words.{cut, two_words, three_words, number_within}
use Rattle.geo_script.specs.Wrongs.{CrashesAgain, IsTooLong, IsOneSessionMore, HasNoRoom}
use Rattle.geo_script.proofs.EventWords.{statement_is, statement_read, two_is, two_read, three_is, three_read, packets_are, packets_read, crash_are, crash_none, after_is, after_none}
use Rattle.geo_script.proofs.EventsRead.{after_read}
use Rattle.geo_script.proofs.EventsSpelled.{sql_is}
use Rattle.geo_script.proofs.PlayLines.{IsRegions, Asks, place_is, region_is, sql_asks}
use Rattle.geo_script.proofs.Failures.{or_err, option_err, if_err, when_err, unless_err, no_option}
use Rattle.geo_script.proofs.SoFar.{SoFar}
use Rattle.schema_text.specs.laws.Inversions.{or_ok, when_ok}

-- ---- numbers

number_bad : (least most : ℕ) (word : List ℕ) (kind : ScriptKind) → number_or_bad least most word ≡ Err kind → BadNumber ≡ kind
number_bad least most word kind is = (or_err (number_within least most word) BadNumber kind is).1

number_err : {B : Type 0} (least most : ℕ) (word : List ℕ) (next : ℕ → OfLine B) (kind : ScriptKind) → (number_or_bad least most word >>= next) ≡ Err kind →
    (BadNumber ≡ kind) ⊎ ((n : ℕ) × (next n ≡ Err kind))
number_err least most word next kind is =
    elim (failed (number_or_bad least most word) next kind is) [ inl bad ↦ inl (number_bad least most word kind bad) | inr found ↦ inr (found.0, found.2) ]

place_bad : (regions : ℕ) (word : List ℕ) (kind : ScriptKind) → place regions word ≡ Err kind → BadNumber ≡ kind
unfolding place
place_bad regions word kind is =
    elim (failed (ok_or (cut 46 word) BadNumber) _ kind is) [
      | inl none ↦ (or_err (cut 46 word) BadNumber kind none).1
      | inr cuts ↦
          elim (number_err 0 (regions - 1) cuts.0.0 _ kind cuts.2) [
            | inl e ↦ e
            | inr at ↦ elim (number_err 0 (SESSIONS_PER_REGION - 1) cuts.0.1 _ kind at.1) [ inl e ↦ e | inr last ↦ cc (last.1) ]
          ]
    ]

-- ---- lines of plays, by what stands behind their first word

-- it has no such words, or it has them and a number is wrong
abbrev WordsFail : Type 0 → ScriptKind → Type 0
WordsFail Words kind = ((BadLine ≡ kind) × (Words → ⊥)) ⊎ (Words × (BadNumber ≡ kind))

outcome_fails : (regions : ℕ) (rest : List ℕ) (kind : ScriptKind) → outcome regions rest ≡ Err kind → WordsFail (IsWord rest) kind
unfolding outcome
outcome_fails regions rest kind is =
    elim (when_err (is_word rest) _ BadLine kind is) [
      | inl other ↦ inl (other.1, λ word. cc (other.0))
      | inr word ↦ inr (word.0, elim (failed (place regions rest) _ kind word.1) [ inl bad ↦ place_bad regions rest kind bad | inr found ↦ cc (found.2) ])
    ]

only_fails : (regions : ℕ) (rest : List ℕ) (next : ℕ → Event) (kind : ScriptKind) → (only_region regions rest >>= λ at. Ok (next at)) ≡ Err kind → WordsFail (IsWord rest) kind
unfolding only_region
only_fails regions rest next kind is =
    elim (failed (only_region regions rest) _ kind is) [
      | inl bad ↦
          elim (when_err (is_word rest) _ BadLine kind bad) [
            | inl other ↦ inl (other.1, λ word. cc (other.0))
            | inr word ↦ inr (word.0, number_bad 0 (regions - 1) rest kind word.1)
          ]
      | inr found ↦ cc (found.2)
    ]

deliver_fails : (rest : List ℕ) (kind : ScriptKind) → deliver rest ≡ Err kind → WordsFail (IsWord rest ⊎ HasTwoWords rest) kind
unfolding deliver
deliver_fails rest kind is =
    elim (option_err (packet_words rest) BadLine _ kind is) [
      | inl none ↦ inl (none.1, λ words. packets_read rest words none.0)
      | inr words ↦
          inr (
            packets_are rest words.0 words.1,
            elim (number_err 0 LAST_PACKET words.0.0 _ kind words.2) [
              | inl e ↦ e
              | inr first ↦
                  elim (number_err 0 LAST_PACKET words.0.1 _ kind first.1) [
                    | inl e ↦ e
                    | inr last ↦ (if_err (nat_le first.0 last.0 && nat_lt (last.0 - first.0) PACKETS_PER_LINE) (event.Deliver first.0 last.0) BadNumber kind last.1).1
                  ]
            ],
          )
    ]

fetch_fails : (regions : ℕ) (rest : List ℕ) (kind : ScriptKind) → fetch regions rest ≡ Err kind → WordsFail (HasThreeWords rest) kind
unfolding fetch
fetch_fails regions rest kind is =
    elim (option_err (three_words rest) BadLine _ kind is) [
      | inl none ↦ inl (none.1, λ words. no_option (three_words rest) (words.first, words.second, words.third) none.0 (three_read rest words))
      | inr words ↦
          inr (
            three_is rest words.0 words.1,
            elim (number_err 0 (regions - 1) words.0.0 _ kind words.2) [
              | inl e ↦ e
              | inr from ↦
                  elim (number_err 0 (regions - 1) words.0.1 _ kind from.1) [
                    | inl e ↦ e
                    | inr asked ↦
                        elim (number_err 1 LAST_ASKED_EPOCH words.0.2 _ kind asked.1) [
                          | inl e ↦ e
                          | inr epoch ↦ elim (unless_err (from.0 == asked.0) _ BadNumber kind epoch.1) [ inl same ↦ same.1 | inr apart ↦ cc (apart.1) ]
                        ]
                  ]
            ],
          )
    ]

work_fails : (regions : ℕ) (rest : List ℕ) (kind : ScriptKind) → work regions rest ≡ Err kind → WordsFail (HasTwoWords rest) kind
unfolding work
work_fails regions rest kind is =
    elim (option_err (two_words rest) BadLine _ kind is) [
      | inl none ↦ inl (none.1, λ words. no_option (two_words rest) (words.first, words.second) none.0 (two_read rest words))
      | inr words ↦
          inr (
            two_is rest words.0 words.1,
            elim (number_err 0 (regions - 1) words.0.0 _ kind words.2) [
              | inl e ↦ e
              | inr at ↦ elim (number_err 0 (SEATS_PER_ROUND - 1) words.0.1 _ kind at.1) [ inl e ↦ e | inr seat ↦ cc (seat.1) ]
            ],
          )
    ]

crash_fails : (regions : ℕ) (rest : List ℕ) (kind : ScriptKind) → crash regions rest ≡ Err kind → WordsFail (IsWord rest ⊎ HasSealing rest) kind
unfolding crash
crash_fails regions rest kind is =
    elim (option_err (crash_words rest) BadLine _ kind is) [
      | inl none ↦ inl (none.1, λ words. crash_none rest words none.0)
      | inr words ↦
          inr (crash_are rest words.0 words.1, elim (number_err 0 (regions - 1) words.0.0 _ kind words.2) [ inl e ↦ e | inr at ↦ cc (at.1) ])
    ]

-- ---- statements

-- what may be wrong with a line that has the words of an event
abbrev pub Behind : Form → ℕ → List EventAt → List ℕ → ScriptKind → Type 0
Behind form regions events line kind =
    (BadNumber ≡ kind)
    ⊎ (((LongStatement ≡ kind) × IsTooLong regions line)
    ⊎ (((TooManySessions ≡ kind) × HasNoRoom form regions events line) ⊎ ((BadLine ≡ kind) × CrashesAgain form regions events line)))

abbrev pub LineFails : Form → ℕ → List EventAt → Type 0 → List ℕ → ScriptKind → Type 0
LineFails form regions events Words line kind = ((BadLine ≡ kind) × (Words → ⊥)) ⊎ (Words × Behind form regions events line kind)

plain : (form : Form) (regions : ℕ) (events : List EventAt) (Words : Type 0) (line : List ℕ) (kind : ScriptKind) → WordsFail Words kind → LineFails form regions events Words line kind
plain form regions events Words line kind (inl none) = inl none
plain form regions events Words line kind (inr (words, e)) = inr (words, inl e)

sql_fails : (form : Form) (regions : ℕ) → IsRegions regions → (events : List EventAt) (rest : List ℕ) (kind : ScriptKind) → sql regions rest ≡ Err kind →
    LineFails form regions events (HasStatement rest) (codes "sql " ++ rest) kind
unfolding sql
sql_fails form regions lawful events rest kind is =
    elim (option_err (statement_parts rest) BadLine _ kind is) [
      | inl none ↦ inl (none.1, λ has. no_option (statement_parts rest) (has.place, has.text) none.0 (statement_read rest has))
      | inr parts ↦
          elim (failed (place regions parts.0.0) _ kind parts.2) [
            | inl bad ↦ inr (statement_is rest parts.0 parts.1, inl (place_bad regions parts.0.0 kind bad))
            | inr at ↦
                let spelled = place_is regions lawful parts.0.0 at.0 at.1 in
                let long = if_err (nat_le (length parts.0.1) STATEMENT_BYTES) (event.Sql at.0.0 at.0.1 parts.0.1) LongStatement kind at.2 in
                inr (
                  statement_is rest parts.0 parts.1,
                  inr (inl (
                    long.1,
                    record {
                      region = at.0.0;
                      session = at.0.1;
                      text = parts.0.1;
                      typed = ap (λ w. codes "sql " ++ w) (whole parts.0 parts.1 ∙ ap (λ w. w ++ 32 ∷ parts.0.1) spelled.spelled);
                      within = spelled.region;
                      known = spelled.session;
                      long = leb-false (length parts.0.1) STATEMENT_BYTES long.0;
                    },
                  )),
                )
          ]
    ]
  where
    whole : (parts : List ℕ × List ℕ) → statement_parts rest ≡ Some parts → rest ≡ parts.0 ++ 32 ∷ parts.1
    whole parts found =
        let has = statement_is rest parts found in
        let same : parts ≡ (has.place, has.text) = cc (statement_read rest has) in
        has.whole ∙ ap (λ (p : List ℕ × List ℕ). p.0 ++ 32 ∷ p.1) (sym same)

-- ---- lines of runs

-- the session is one more than there may be
record IsLeftOut (past : RunPast) (at session : ℕ) (kind : ScriptKind) : Type 0 where
  other : has_session past at session ≡ false
  full : SESSIONS_PER_RUN ≤ length past.sessions
  is : TooManySessions ≡ kind

left_out : (past : RunPast) (at session : ℕ) (text : List ℕ) (kind : ScriptKind) → if_admitted past (event.Sql at session text) ≡ Err kind → IsLeftOut past at session kind
left_out past at session text kind is = by (has_session past at session) refl (nat_lt (length past.sessions) SESSIONS_PER_RUN) refl is
  where
    by : (known : Bool) → has_session past at session ≡ known → (room : Bool) → nat_lt (length past.sessions) SESSIONS_PER_RUN ≡ room →
        cond known (Ok (event.Sql at session text)) (cond room (Ok (event.Sql at session text)) (Err TooManySessions)) ≡ Err kind → IsLeftOut past at session kind
    by true known room is found = cc
    by false known true room found = cc
    by false known false room found = record { other = known; full = ltb-false (length past.sessions) SESSIONS_PER_RUN room; is = cc }

statement_ok : (regions : ℕ) (rest : List ℕ) (found : Event) → sql regions rest ≡ Ok found → HasStatement rest
unfolding sql
statement_ok regions rest found is =
    let parts = bind_ok (ok_or (statement_parts rest) BadLine) _ found is in
    statement_is rest parts.0 (or_ok (statement_parts rest) BadLine parts.0 parts.1)

one_more : (regions : ℕ) (far : SoFar Run) (line : List ℕ) (at session : ℕ) (text : List ℕ) (kind : ScriptKind) → Asks Run regions line (event.Sql at session text) → IsLeftOut far.past at session kind →
    IsOneSessionMore regions far.events line
one_more regions far line at session text kind asks out =
    record { region = at; session = session; text = text; typed = by asks.typed; within = asks.within; more = far.says.left at session out.other out.full }
  where
    by : Types line (event.Sql at session text) → line ≡ event_text (event.Sql at session text)
    by (inl whole) = whole
    by (inr short) = absurd short

run_sql_fails : (regions : ℕ) → IsRegions regions → (far : SoFar Run) (rest : List ℕ) (kind : ScriptKind) → (sql regions rest >>= if_admitted far.past) ≡ Err kind →
    LineFails Run regions far.events (HasStatement rest) (codes "sql " ++ rest) kind
run_sql_fails regions lawful far rest kind is =
    elim (failed (sql regions rest) (if_admitted far.past) kind is) [
      | inl bad ↦ sql_fails Run regions lawful far.events rest kind bad
      | inr found ↦
          let sql' = sql_is regions rest found.0 found.1 in
          let out = left_out far.past sql'.at sql'.session sql'.text kind (ap (if_admitted far.past) sql'.is ∙ found.2) in
          let asks = subst (Asks Run regions (codes "sql " ++ rest)) (sym sql'.is) (sql_asks Run regions lawful rest found.0 found.1) in
          inr (statement_ok regions rest found.0 found.1, inr (inr (inl (out.is, one_more regions far (codes "sql " ++ rest) sql'.at sql'.session sql'.text kind asks out))))
    ]

-- a region is misspelt, or crashes again
abbrev FreshFails : ℕ → RunPast → List ℕ → ScriptKind → Type 0
FreshFails regions past word kind = (BadNumber ≡ kind) ⊎ ((at : ℕ) × (region regions word ≡ Ok at) × (has_crash past at ≡ true) × (BadLine ≡ kind))

fresh_fails : (regions : ℕ) (past : RunPast) (word : List ℕ) (kind : ScriptKind) → fresh_region past (region regions word) ≡ Err kind → FreshFails regions past word kind
fresh_fails regions past word kind is = by (region regions word) refl is
  where
    by : (r : OfLine ℕ) → region regions word ≡ r → fresh_region past r ≡ Err kind → FreshFails regions past word kind
    by (Ok at) read found = elim (unless_err (has_crash past at) _ BadLine kind found) [ inl again ↦ inr (at, read, again.0, again.1) | inr fresh ↦ cc (fresh.1) ]
    by (Err other) read found = let same : other ≡ kind = cc in inl (number_bad 0 (regions - 1) word other read ∙ same)

crash_after_fails : (regions : ℕ) → IsRegions regions → (far : SoFar Run) (rest : List ℕ) (kind : ScriptKind) → crash_after regions far.past rest ≡ Err kind →
    LineFails Run regions far.events (HasAfter rest) (codes "crash " ++ rest) kind
unfolding crash_after
crash_after_fails regions lawful far rest kind is =
    elim (option_err (after_words rest) BadLine _ kind is) [
      | inl none ↦ inl (none.1, λ has. after_none rest has none.0)
      | inr words ↦
          let has = after_is rest words.0 words.1 in
          inr (
            has,
            elim (failed (fresh_region far.past (region regions words.0.0)) _ kind words.2) [
              | inl bad ↦ by has words.0 words.1 (fresh_fails regions far.past words.0.0 kind bad)
              | inr at ↦ elim (number_err 1 LAST_CRASH_EPOCH words.0.1 _ kind at.2) [ inl e ↦ inl e | inr epoch ↦ cc (epoch.1) ]
            ],
          )
    ]
  where
    by : (has : HasAfter rest) (words : List ℕ × List ℕ) → after_words rest ≡ Some words → FreshFails regions far.past words.0 kind → Behind Run regions far.events (codes "crash " ++ rest) kind
    by has words found (inl e) = inl e
    by has words found (inr (at, read, crashed, e)) =
        let same : words ≡ (has.region, has.epoch) = cc (ap after_words has.whole, after_read has.region has.epoch has.one has.other) in
        let first : words.0 ≡ has.region = ap (λ (p : List ℕ × List ℕ). p.0) same in
        let spelled = region_is regions lawful words.0 at read in
        inr (inr (inr (
          e,
          record {
            region = at;
            epoch = has.epoch;
            whole = ap (λ w. codes "crash " ++ w) (has.whole ∙ ap (λ w. w ++ (codes " after " ++ has.epoch)) (sym first ∙ spelled.spelled));
            word = has.other;
            within = spelled.within;
            crashed = far.says.crashed at crashed;
          },
        )))

-- ---- whole lines

pub form_fails : (form : Form) (regions : ℕ) → IsRegions regions → (far : SoFar form) (verb : Verb) (rest : List ℕ) (kind : ScriptKind) → form_event form regions far.past verb rest ≡ Err kind →
    LineFails form regions far.events (HasWordsBehind form verb rest) (verb_text verb ++ 32 ∷ rest) kind
unfolding form_event play_event run_event
form_fails Play regions lawful far verb.Sql rest kind is = sql_fails Play regions lawful far.events rest kind is
form_fails Play regions lawful far verb.Outcome rest kind is = plain Play regions far.events (IsWord rest) (codes "outcome " ++ rest) kind (outcome_fails regions rest kind is)
form_fails Play regions lawful far verb.Seal rest kind is = plain Play regions far.events (IsWord rest) (codes "seal " ++ rest) kind (only_fails regions rest event.Seal kind is)
form_fails Play regions lawful far verb.Deliver rest kind is = plain Play regions far.events (IsWord rest ⊎ HasTwoWords rest) (codes "deliver " ++ rest) kind (deliver_fails rest kind is)
form_fails Play regions lawful far verb.Fetch rest kind is = plain Play regions far.events (HasThreeWords rest) (codes "fetch " ++ rest) kind (fetch_fails regions rest kind is)
form_fails Play regions lawful far verb.Work rest kind is = plain Play regions far.events (HasTwoWords rest) (codes "work " ++ rest) kind (work_fails regions rest kind is)
form_fails Play regions lawful far verb.Publish rest kind is = plain Play regions far.events (IsWord rest) (codes "publish " ++ rest) kind (only_fails regions rest event.Publish kind is)
form_fails Play regions lawful far verb.Show rest kind is = plain Play regions far.events (IsWord rest) (codes "show " ++ rest) kind (only_fails regions rest event.Show kind is)
form_fails Play regions lawful far verb.Crash rest kind is = plain Play regions far.events (IsWord rest ⊎ HasSealing rest) (codes "crash " ++ rest) kind (crash_fails regions rest kind is)
form_fails Play regions lawful far verb.Restart rest kind is = plain Play regions far.events (IsWord rest) (codes "restart " ++ rest) kind (only_fails regions rest event.Restart kind is)
form_fails Run regions lawful far verb.Sql rest kind is = run_sql_fails regions lawful far rest kind is
form_fails Run regions lawful far verb.Crash rest kind is = crash_after_fails regions lawful far rest kind is
form_fails Run regions lawful far verb.Outcome rest kind is = inl (cc, λ none. none)
form_fails Run regions lawful far verb.Seal rest kind is = inl (cc, λ none. none)
form_fails Run regions lawful far verb.Deliver rest kind is = inl (cc, λ none. none)
form_fails Run regions lawful far verb.Fetch rest kind is = inl (cc, λ none. none)
form_fails Run regions lawful far verb.Work rest kind is = inl (cc, λ none. none)
form_fails Run regions lawful far verb.Publish rest kind is = inl (cc, λ none. none)
form_fails Run regions lawful far verb.Show rest kind is = inl (cc, λ none. none)
form_fails Run regions lawful far verb.Restart rest kind is = inl (cc, λ none. none)

-- ---- what is read has its words

read_ok : {A : Type 0} (o : Option A) (next : A → OfLine Event) (asked : Event) → (ok_or o BadLine >>= next) ≡ Ok asked → (x : A) × (o ≡ Some x)
read_ok o next asked is = let found = bind_ok (ok_or o BadLine) next asked is in (found.0, or_ok o BadLine found.0 found.1)

only_behind : (regions : ℕ) (rest : List ℕ) (next : ℕ → Event) (asked : Event) → (only_region regions rest >>= λ at. Ok (next at)) ≡ Ok asked → IsWord rest
unfolding only_region
only_behind regions rest next asked is = let at = bind_ok (only_region regions rest) _ asked is in (when_ok (is_word rest) _ at.0 BadLine at.1).0

play_behind : (regions : ℕ) (verb : Verb) (rest : List ℕ) (asked : Event) → play_event regions verb rest ≡ Ok asked → HasWordsBehind Play verb rest
unfolding play_event outcome deliver fetch work crash
play_behind regions verb.Sql rest asked is = statement_ok regions rest asked is
play_behind regions verb.Outcome rest asked is = (when_ok (is_word rest) _ asked BadLine is).0
play_behind regions verb.Seal rest asked is = only_behind regions rest event.Seal asked is
play_behind regions verb.Deliver rest asked is = let words = read_ok (packet_words rest) _ asked is in packets_are rest words.0 words.1
play_behind regions verb.Fetch rest asked is = let words = read_ok (three_words rest) _ asked is in three_is rest words.0 words.1
play_behind regions verb.Work rest asked is = let words = read_ok (two_words rest) _ asked is in two_is rest words.0 words.1
play_behind regions verb.Publish rest asked is = only_behind regions rest event.Publish asked is
play_behind regions verb.Show rest asked is = only_behind regions rest event.Show asked is
play_behind regions verb.Crash rest asked is = let words = read_ok (crash_words rest) _ asked is in crash_are rest words.0 words.1
play_behind regions verb.Restart rest asked is = only_behind regions rest event.Restart asked is

run_behind : (regions : ℕ) (past : RunPast) (verb : Verb) (rest : List ℕ) (asked : Event) → run_event regions past verb rest ≡ Ok asked → HasWordsBehind Run verb rest
unfolding run_event crash_after
run_behind regions past verb.Sql rest asked is = let found = bind_ok (sql regions rest) (if_admitted past) asked is in statement_ok regions rest found.0 found.1
run_behind regions past verb.Crash rest asked is = let words = read_ok (after_words rest) _ asked is in after_is rest words.0 words.1
run_behind regions past verb.Outcome rest asked is = cc
run_behind regions past verb.Seal rest asked is = cc
run_behind regions past verb.Deliver rest asked is = cc
run_behind regions past verb.Fetch rest asked is = cc
run_behind regions past verb.Work rest asked is = cc
run_behind regions past verb.Publish rest asked is = cc
run_behind regions past verb.Show rest asked is = cc
run_behind regions past verb.Restart rest asked is = cc

pub words_behind : (form : Form) (regions : ℕ) (past : RunPast) (verb : Verb) (rest : List ℕ) (asked : Event) → form_event form regions past verb rest ≡ Ok asked → HasWordsBehind form verb rest
unfolding form_event
words_behind Play regions past verb rest asked is = play_behind regions verb rest asked is
words_behind Run regions past verb rest asked is = run_behind regions past verb rest asked is
