-- A line that types an event, whose numbers are in their ranges, is read as that event.
use Rattle.std.proofs.Common.{◌≡◌, ◌≢◌, ℕ, ◌+◌, ◌-◌, ◌<◌, ◌≤◌, ◌^◌, ◌==◌, Bool, true, false, not, cond, List, [], ◌∷◌, ◌++◌, length, Some, Ok, Err, nat_lt, refl, sym, ap, ◌∙◌, subst, arith, inl, inr}
use Rattle.std.specs.Prelude.{codes}
use Rattle.std.specs.Fmt.{decimal}
use Rattle.std.specs.List.{list_all}
use Rattle.std.specs.Option.{ok_or}
use Rattle.std.specs.Str.{is_utf8}
use Rattle.std.proofs.lemmas.Bool.{and_parts, cases_Bool, le-leb, lt-ltb, ne_eqb}
use Rattle.std.proofs.lemmas.List.{append-nil, length-append}
use Rattle.geo_base.specs.declared.limits.TheConstants.{PACKETS_PER_LINE, SESSIONS_PER_REGION}
use Rattle.geo_script.specs.declared.event.Event.{Event}
use Rattle.geo_script.specs.declared.event.Event.TheVariants as event
use Rattle.geo_script.specs.declared.event.Sealing.{Sealing}
use Rattle.geo_script.specs.declared.event.Sealing.TheVariants.{No, Kept, Lost}
use Rattle.geo_script.specs.declared.fault.ScriptKind.TheVariants.{BadNumber, TooManySessions}
use Rattle.geo_script.specs.declared.limits.TheConstants.{STATEMENT_BYTES, SESSIONS_PER_RUN, SEATS_PER_ROUND, LAST_ASKED_EPOCH, LAST_CRASH_EPOCH, LAST_PACKET}
use Rattle.geo_script.specs.declared.script.Form.{Form}
use Rattle.geo_script.specs.declared.script.Form.TheVariants.{Play, Run}
use Rattle.geo_script.specs.declared.verb.Verb.{Verb}
use Rattle.geo_script.specs.declared.verb.Verb.TheVariants as verb
use Rattle.geo_script.specs.inner.EventLines.{OfLine, region, place, statement_parts, sql, outcome, only_region, packet_words, deliver, fetch, work, sealing_of, crash_words, crash, after_words, crash_after, if_admitted, play_event, run_event, form_event, event_of, event_line}
use Rattle.geo_script.specs.EventWords.{verb_text}
use Rattle.geo_script.specs.inner.Past.{RunPast, has_crash, has_session}
use Rattle.geo_script.specs.Spelling.{session_text, sealing_text, event_text, IsShortened, Types, IsWithin, IsOfForm}
use Rattle.geo_base.specs.Results.{◌>>=◌}
use Rattle.geo_script.specs.Words.{is_word}
use Rattle.geo_script.proofs.Cuts.{Lacks, cut_at, two, three}
use Rattle.geo_script.proofs.Decimals.{decimal_lacks, decimal_word, number_read}
use Rattle.geo_script.proofs.EventsSpelled.{IsAdmitted}
use Rattle.geo_script.proofs.PlayLines.{IsRegions}
use Rattle.geo_script.proofs.VerbTexts.{behind_verb}

-- ---- numbers and words

pub region_read : (regions at : ℕ) → IsRegions regions → at < regions → region regions (decimal at) ≡ Ok at
region_read regions at lawful within =
    ap (λ o. ok_or o BadNumber) (number_read 0 (regions - 1) at (omega (arith, lawful.some, lawful.few)) (omega arith) (omega arith))

pub at_word : (regions at : ℕ) → IsRegions regions → at < regions → is_word (decimal at) ≡ true
at_word regions at lawful within = decimal_word at (omega (arith, lawful.few))

pub place_read : (regions at session : ℕ) → IsRegions regions → at < regions → session < SESSIONS_PER_REGION → place regions (session_text at session) ≡ Ok (at, session)
unfolding place
place_read regions at session lawful within few =
    rw (cut_at 46 (decimal at) (decimal session) (decimal_lacks at 46 (omega (arith, lawful.few)) (λ range. omega arith)))
    (rw (region_read regions at lawful within, number_read 0 (SESSIONS_PER_REGION - 1) session (omega arith) (omega arith) (omega arith)) refl)

lacks_append : (byte : ℕ) (xs ys : List ℕ) → Lacks byte xs → Lacks byte ys → Lacks byte (xs ++ ys)
lacks_append byte [] ys front back = back
lacks_append byte (x ∷ xs) ys front back =
    let parts = and_parts (not (x == byte)) (list_all (λ b. not (b == byte)) xs) front in rw (parts.0, lacks_append byte xs ys parts.1 back) refl

some_lacking : (bytes : List ℕ) → 0 < length bytes → Lacks 32 bytes → is_word bytes ≡ true
unfolding is_word
some_lacking bytes some lacks = rw (ne_eqb (length bytes) 0 (λ is. omega arith), lacks) refl

pub place_word : (at session : ℕ) → at < 2 ^ 64 → session < 2 ^ 64 → is_word (session_text at session) ≡ true
place_word at session fits small =
    some_lacking (session_text at session) (omega (arith, length-append (decimal at) (46 ∷ decimal session)))
    (lacks_append 32 (decimal at) (46 ∷ decimal session) (decimal_lacks at 32 fits (λ range. omega arith))
    (rw (decimal_lacks session 32 small (λ range. omega arith)) refl))

word_lacks : (bytes : List ℕ) → is_word bytes ≡ true → Lacks 32 bytes
unfolding is_word
word_lacks bytes word = (and_parts (not (length bytes == 0)) (list_all (λ b. not (b == 32)) bytes) word).1

-- what has a space is no word
pub no_word : (front rest : List ℕ) → is_word (front ++ 32 ∷ rest) ≡ false
no_word front rest = elim (cases_Bool (is_word (front ++ 32 ∷ rest))) [ inl word ↦ absurd (has front (word_lacks (front ++ 32 ∷ rest) word)) | inr other ↦ other ]
  where
    has : (xs : List ℕ) → Lacks 32 (xs ++ 32 ∷ rest) → ⊥
    has [] lacks = cc
    has (x ∷ xs) lacks = has xs (and_parts (not (x == 32)) (list_all (λ b. not (b == 32)) (xs ++ 32 ∷ rest)) lacks).1

-- ---- lines of plays

pub sql_read : (regions at session : ℕ) (text : List ℕ) → IsRegions regions → at < regions → session < SESSIONS_PER_REGION → 1 ≤ length text → length text ≤ STATEMENT_BYTES →
    sql regions (session_text at session ++ 32 ∷ text) ≡ Ok (event.Sql at session text)
unfolding sql statement_parts
sql_read regions at session text lawful within few some short =
    let word = place_word at session (omega (arith, lawful.few)) (omega arith) in
    rw (cut_at 32 (session_text at session) text (word_lacks (session_text at session) word))
    (rw (word, ne_eqb (length text) 0 (λ is. omega arith)) (rw (place_read regions at session lawful within few) (rw (le-leb (length text) STATEMENT_BYTES short) refl)))

outcome_read : (regions at session : ℕ) → IsRegions regions → at < regions → session < SESSIONS_PER_REGION → outcome regions (session_text at session) ≡ Ok (event.Outcome at session)
unfolding outcome
outcome_read regions at session lawful within few =
    rw (place_word at session (omega (arith, lawful.few)) (omega arith)) (rw (place_read regions at session lawful within few) refl)

only_read : (regions at : ℕ) → IsRegions regions → at < regions → only_region regions (decimal at) ≡ Ok at
unfolding only_region
only_read regions at lawful within = rw (at_word regions at lawful within) (region_read regions at lawful within)

deliver_words : (first last : ℕ) → first ≤ last → last ≤ LAST_PACKET → packet_words (decimal first ++ 32 ∷ decimal last) ≡ Some (decimal first, decimal last)
unfolding packet_words
deliver_words first last rises high =
    rw (no_word (decimal first) (decimal last)) (two (decimal first) (decimal last) (decimal_word first (omega arith)) (decimal_word last (omega arith)))

one_packet : (packet : ℕ) → packet ≤ LAST_PACKET → packet_words (decimal packet) ≡ Some (decimal packet, decimal packet)
unfolding packet_words
one_packet packet high = rw (decimal_word packet (omega arith)) refl

deliver_read : (rest : List ℕ) (first last : ℕ) → packet_words rest ≡ Some (decimal first, decimal last) → first ≤ last → last ≤ LAST_PACKET → last < first + PACKETS_PER_LINE →
    deliver rest ≡ Ok (event.Deliver first last)
unfolding deliver
deliver_read rest first last words rises high few =
    rw words (rw (number_read 0 LAST_PACKET first (omega arith) (omega arith) (omega arith), number_read 0 LAST_PACKET last (omega arith) (omega arith) high)
    (rw (le-leb first last rises, lt-ltb (last - first) PACKETS_PER_LINE (omega arith)) refl))

fetch_read : (regions from of epoch : ℕ) → IsRegions regions → from < regions → of < regions → from ≢ of → 1 ≤ epoch → epoch ≤ LAST_ASKED_EPOCH →
    fetch regions (decimal from ++ 32 ∷ (decimal of ++ 32 ∷ decimal epoch)) ≡ Ok (event.Fetch from of epoch)
unfolding fetch
fetch_read regions from of epoch lawful one other apart low high =
    rw (three (decimal from) (decimal of) (decimal epoch) (at_word regions from lawful one) (at_word regions of lawful other) (decimal_word epoch (omega arith)))
    (rw (region_read regions from lawful one, region_read regions of lawful other, number_read 1 LAST_ASKED_EPOCH epoch (omega arith) low high)
    (rw (ne_eqb from of apart) refl))

work_read : (regions at worker : ℕ) → IsRegions regions → at < regions → worker < SEATS_PER_ROUND → work regions (decimal at ++ 32 ∷ decimal worker) ≡ Ok (event.Work at worker)
unfolding work
work_read regions at worker lawful within few =
    rw (two (decimal at) (decimal worker) (at_word regions at lawful within) (decimal_word worker (omega arith)))
    (rw (region_read regions at lawful within, number_read 0 (SEATS_PER_ROUND - 1) worker (omega arith) (omega arith) (omega arith)) refl)

pub crash_words_read : (word : List ℕ) (sealing : Sealing) → is_word word ≡ true → crash_words (word ++ sealing_text sealing) ≡ Some (word, sealing)
unfolding crash_words sealing_of
crash_words_read word No is = rw (append-nil word) (rw is refl)
crash_words_read word Kept is =
    rw (no_word word (codes "sealing kept")) (rw (three word (codes "sealing") (codes "kept") is (some_lacking (codes "sealing") (omega arith) refl) (some_lacking (codes "kept") (omega arith) refl)) refl)
crash_words_read word Lost is =
    rw (no_word word (codes "sealing lost")) (rw (three word (codes "sealing") (codes "lost") is (some_lacking (codes "sealing") (omega arith) refl) (some_lacking (codes "lost") (omega arith) refl)) refl)

crash_read : (regions at : ℕ) (sealing : Sealing) → IsRegions regions → at < regions → crash regions (decimal at ++ sealing_text sealing) ≡ Ok (event.Crash at sealing)
unfolding crash
crash_read regions at sealing lawful within =
    rw (crash_words_read (decimal at) sealing (at_word regions at lawful within)) (rw (region_read regions at lawful within) refl)

-- ---- lines of runs

pub after_read : (first second : List ℕ) → is_word first ≡ true → is_word second ≡ true → after_words (first ++ 32 ∷ (codes "after" ++ 32 ∷ second)) ≡ Some (first, second)
unfolding after_words
after_read first second one other = rw (three first (codes "after") second one (some_lacking (codes "after") (omega arith) refl) other) refl

crash_after_read : (regions at epoch : ℕ) (past : RunPast) → IsRegions regions → at < regions → 1 ≤ epoch → epoch ≤ LAST_CRASH_EPOCH → has_crash past at ≡ false →
    crash_after regions past (decimal at ++ 32 ∷ (codes "after" ++ 32 ∷ decimal epoch)) ≡ Ok (event.CrashAfter at epoch)
unfolding crash_after
crash_after_read regions at epoch past lawful within low high fresh =
    rw (after_read (decimal at) (decimal epoch) (at_word regions at lawful within) (decimal_word epoch (omega arith)))
    (rw (region_read regions at lawful within) (rw fresh (rw (number_read 1 LAST_CRASH_EPOCH epoch (omega arith) low high) refl)))

let_in : (past : RunPast) (at session : ℕ) (text : List ℕ) → IsAdmitted Run past (event.Sql at session text) → if_admitted past (event.Sql at session text) ≡ Ok (event.Sql at session text)
let_in past at session text (inl known) = rw known refl
let_in past at session text (inr room) = by (has_session past at session)
  where
    by : (known : Bool) → cond known (Ok (event.Sql at session text)) (cond (nat_lt (length past.sessions) SESSIONS_PER_RUN) (Ok (event.Sql at session text)) (Err TooManySessions)) ≡ Ok (event.Sql at session text)
    by true = refl
    by false = rw (lt-ltb (length past.sessions) SESSIONS_PER_RUN room) refl

-- ---- whole lines

by_verb : (form : Form) (regions : ℕ) (past : RunPast) (verb : Verb) (rest : List ℕ) (asked : Event) → form_event form regions past verb rest ≡ Ok asked →
    event_of form regions past (verb_text verb ++ 32 ∷ rest) ≡ Ok asked
unfolding event_of
by_verb form regions past verb rest asked is = rw (behind_verb verb rest) is

then_ok : (first : OfLine ℕ) (at : ℕ) (next : ℕ → Event) → first ≡ Ok at → (first >>= λ x. Ok (next x)) ≡ Ok (next at)
then_ok first at next is = rw is refl

play_read : (regions : ℕ) (past : RunPast) (asked : Event) → IsRegions regions → IsOfForm Play asked → IsWithin regions asked → event_of Play regions past (event_text asked) ≡ Ok asked
unfolding form_event play_event
play_read regions past (event.Sql at session text) lawful of_form within =
    by_verb Play regions past verb.Sql (session_text at session ++ 32 ∷ text) (event.Sql at session text) (sql_read regions at session text lawful within.0 within.1 within.2 within.3)
play_read regions past (event.Outcome at session) lawful of_form within =
    by_verb Play regions past verb.Outcome (session_text at session) (event.Outcome at session) (outcome_read regions at session lawful within.0 within.1)
play_read regions past (event.Seal at) lawful of_form within =
    by_verb Play regions past verb.Seal (decimal at) (event.Seal at) (then_ok (only_region regions (decimal at)) at event.Seal (only_read regions at lawful within))
play_read regions past (event.Deliver first last) lawful of_form within =
    by_verb Play regions past verb.Deliver (decimal first ++ 32 ∷ decimal last) (event.Deliver first last)
    (deliver_read (decimal first ++ 32 ∷ decimal last) first last (deliver_words first last within.0 within.1) within.0 within.1 within.2)
play_read regions past (event.Fetch from of epoch) lawful of_form within =
    by_verb Play regions past verb.Fetch (decimal from ++ 32 ∷ (decimal of ++ 32 ∷ decimal epoch)) (event.Fetch from of epoch)
    (fetch_read regions from of epoch lawful within.0 within.1 within.2 within.3 within.4)
play_read regions past (event.Work at worker) lawful of_form within =
    by_verb Play regions past verb.Work (decimal at ++ 32 ∷ decimal worker) (event.Work at worker) (work_read regions at worker lawful within.0 within.1)
play_read regions past (event.Publish at) lawful of_form within =
    by_verb Play regions past verb.Publish (decimal at) (event.Publish at) (then_ok (only_region regions (decimal at)) at event.Publish (only_read regions at lawful within))
play_read regions past (event.Show at) lawful of_form within =
    by_verb Play regions past verb.Show (decimal at) (event.Show at) (then_ok (only_region regions (decimal at)) at event.Show (only_read regions at lawful within))
play_read regions past (event.Crash at sealing) lawful of_form within =
    by_verb Play regions past verb.Crash (decimal at ++ sealing_text sealing) (event.Crash at sealing) (crash_read regions at sealing lawful within)
play_read regions past (event.Restart at) lawful of_form within =
    by_verb Play regions past verb.Restart (decimal at) (event.Restart at) (then_ok (only_region regions (decimal at)) at event.Restart (only_read regions at lawful within))
play_read regions past (event.CrashAfter at epoch) lawful of_form within = absurd of_form

run_read : (regions : ℕ) (past : RunPast) (asked : Event) → IsRegions regions → IsOfForm Run asked → IsWithin regions asked → IsAdmitted Run past asked →
    event_of Run regions past (event_text asked) ≡ Ok asked
unfolding form_event run_event
run_read regions past (event.Sql at session text) lawful of_form within admitted =
    by_verb Run regions past verb.Sql (session_text at session ++ 32 ∷ text) (event.Sql at session text)
    (rw (sql_read regions at session text lawful within.0 within.1 within.2 within.3) (let_in past at session text admitted))
run_read regions past (event.CrashAfter at epoch) lawful of_form within admitted =
    by_verb Run regions past verb.Crash (decimal at ++ 32 ∷ (codes "after" ++ 32 ∷ decimal epoch)) (event.CrashAfter at epoch)
    (crash_after_read regions at epoch past lawful within.0 within.1 within.2 admitted)
run_read regions past (event.Outcome at session) lawful of_form within admitted = absurd of_form
run_read regions past (event.Seal at) lawful of_form within admitted = absurd of_form
run_read regions past (event.Deliver first last) lawful of_form within admitted = absurd of_form
run_read regions past (event.Fetch from of epoch) lawful of_form within admitted = absurd of_form
run_read regions past (event.Work at worker) lawful of_form within admitted = absurd of_form
run_read regions past (event.Publish at) lawful of_form within admitted = absurd of_form
run_read regions past (event.Show at) lawful of_form within admitted = absurd of_form
run_read regions past (event.Crash at sealing) lawful of_form within admitted = absurd of_form
run_read regions past (event.Restart at) lawful of_form within admitted = absurd of_form

text_read : (form : Form) (regions : ℕ) (past : RunPast) (asked : Event) → IsRegions regions → IsOfForm form asked → IsWithin regions asked → IsAdmitted form past asked →
    event_of form regions past (event_text asked) ≡ Ok asked
text_read Play regions past asked lawful of_form within admitted = play_read regions past asked lawful of_form within
text_read Run regions past asked lawful of_form within admitted = run_read regions past asked lawful of_form within admitted

one_delivered : (form : Form) (regions : ℕ) (past : RunPast) (packet : ℕ) → IsOfForm form (event.Deliver packet packet) → packet ≤ LAST_PACKET →
    event_of form regions past (codes "deliver " ++ decimal packet) ≡ Ok (event.Deliver packet packet)
unfolding form_event play_event
one_delivered Play regions past packet of_form high =
    by_verb Play regions past verb.Deliver (decimal packet) (event.Deliver packet packet)
    (deliver_read (decimal packet) packet packet (one_packet packet high) (omega arith) high (omega arith))
one_delivered Run regions past packet of_form high = absurd of_form

shortened_read : (form : Form) (regions : ℕ) (past : RunPast) (line : List ℕ) (asked : Event) → IsShortened asked line → IsOfForm form asked → IsWithin regions asked →
    event_of form regions past line ≡ Ok asked
shortened_read form regions past line (event.Deliver first last) short of_form within =
    let one = one_delivered form regions past first (subst (λ n. IsOfForm form (event.Deliver first n)) (sym short.0) of_form) (omega arith) in
    ap (event_of form regions past) short.1 ∙ (one ∙ ap (λ n. Ok (event.Deliver first n)) short.0)
shortened_read form regions past line (event.Sql at session text) short of_form within = absurd short
shortened_read form regions past line (event.Outcome at session) short of_form within = absurd short
shortened_read form regions past line (event.Seal at) short of_form within = absurd short
shortened_read form regions past line (event.Fetch from of epoch) short of_form within = absurd short
shortened_read form regions past line (event.Work at worker) short of_form within = absurd short
shortened_read form regions past line (event.Publish at) short of_form within = absurd short
shortened_read form regions past line (event.Show at) short of_form within = absurd short
shortened_read form regions past line (event.Crash at sealing) short of_form within = absurd short
shortened_read form regions past line (event.Restart at) short of_form within = absurd short
shortened_read form regions past line (event.CrashAfter at epoch) short of_form within = absurd short

typed_read : (form : Form) (regions : ℕ) (past : RunPast) (line : List ℕ) (asked : Event) → IsRegions regions → Types line asked → IsOfForm form asked → IsWithin regions asked →
    IsAdmitted form past asked → event_of form regions past line ≡ Ok asked
typed_read form regions past line asked lawful (inl whole) of_form within admitted =
    ap (event_of form regions past) whole ∙ text_read form regions past asked lawful of_form within admitted
typed_read form regions past line asked lawful (inr short) of_form within admitted = shortened_read form regions past line asked short of_form within

pub line_read : (form : Form) (regions : ℕ) → IsRegions regions → (past : RunPast) (line : List ℕ) (asked : Event) → is_utf8 line ≡ true → Types line asked →
    IsOfForm form asked → IsWithin regions asked → IsAdmitted form past asked → event_line form regions past line ≡ Ok asked
unfolding event_line
line_read form regions lawful past line asked utf8 typed of_form within admitted =
    rw utf8 (typed_read form regions past line asked lawful typed of_form within admitted)
