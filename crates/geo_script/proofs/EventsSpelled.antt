-- An event that was read of a line is typed by that line, and its numbers are in their ranges.
use Rattle.std.proofs.Common.{◌≡◌, ℕ, ◌<◌, Bool, true, false, cond, List, ◌∷◌, ◌++◌, length, Some, Ok, Err, nat_lt, nat_le, refl, sym, ap, ◌∙◌, subst, arith, inl, inr, ◌⊎◌}
use Rattle.std.specs.Prelude.{codes}
use Rattle.std.specs.Fmt.{decimal}
use Rattle.std.specs.Option.{ok_or}
use Rattle.std.specs.Str.{bytes_eq, is_utf8}
use Rattle.std.proofs.lemmas.Bool.{ltb-true}
use Rattle.std.proofs.lemmas.Slice.Eq.{bytes_eq-Decides}
use Rattle.geo_base.specs.laws.Results.{bind_ok}
use Rattle.geo_script.specs.declared.event.Event.{Event}
use Rattle.geo_script.specs.declared.event.Event.TheVariants as event
use Rattle.geo_script.specs.declared.fault.ScriptKind.TheVariants.{NotUtf8, BadLine, LongStatement, TooManySessions}
use Rattle.geo_script.specs.declared.limits.TheConstants.{STATEMENT_BYTES, SESSIONS_PER_RUN, LAST_CRASH_EPOCH}
use Rattle.geo_script.specs.declared.script.Form.{Form}
use Rattle.geo_script.specs.declared.script.Form.TheVariants.{Play, Run}
use Rattle.geo_script.specs.declared.verb.Verb.{Verb}
use Rattle.geo_script.specs.declared.verb.Verb.TheVariants as verb
use Rattle.geo_script.specs.inner.EventLines.{OfLine, number_or_bad, region, place, statement_parts, sql, after_words, fresh_region, crash_after, if_admitted, play_event, run_event, form_event, verb_and_rest, event_of, event_line}
use Rattle.geo_script.specs.EventWords.{verb_text}
use Rattle.geo_script.specs.inner.Past.{RunPast, has_crash, has_session}
use Rattle.geo_base.specs.Results.{◌>>=◌}
use Rattle.geo_script.specs.inner.Words.{three_words}
use Rattle.geo_script.proofs.VerbTexts.{verb_parts}
use Rattle.schema_text.specs.laws.Inversions.{or_ok, then_some, if_ok, unless_ok, when_ok, if_some}
use Rattle.geo_script.proofs.PlayLines.{IsRegions, Asks, number_is, region_is, three_are, sql_asks, outcome_asks, seal_asks, publish_asks, show_asks, restart_asks, deliver_asks, fetch_asks, work_asks, crash_asks}

-- ---- runs

-- the event may stand behind those before it
abbrev pub IsAdmitted : Form → RunPast → Event → Type 0
IsAdmitted Play past asked = Unit {0}
IsAdmitted Run past (event.Sql at session text) = (has_session past at session ≡ true) ⊎ (length past.sessions < SESSIONS_PER_RUN)
IsAdmitted Run past (event.CrashAfter at epoch) = has_crash past at ≡ false
IsAdmitted Run past _ = Unit {0}

record IsFreshRegion (past : RunPast) (found : OfLine ℕ) (at : ℕ) : Type 0 where
  is : found ≡ Ok at
  fresh : has_crash past at ≡ false

fresh_is : (past : RunPast) (found : OfLine ℕ) (at : ℕ) → fresh_region past found ≡ Ok at → IsFreshRegion past found at
fresh_is past (Ok region) at is =
    let fresh = unless_ok (has_crash past region) region at BadLine is in
    record { is = ap Ok fresh.1; fresh = subst (λ n. has_crash past n ≡ false) fresh.1 fresh.0 }
fresh_is past (Err kind) at is = cc

record AreAround (rest first second : List ℕ) : Type 0 where
  whole : rest ≡ first ++ 32 ∷ (codes "after" ++ 32 ∷ second)

after_are : (rest : List ℕ) (words : List ℕ × List ℕ) → after_words rest ≡ Some words → AreAround rest words.0 words.1
unfolding after_words
after_are rest words is =
    let three = then_some _ (three_words rest) words is in
    let text = three_are rest three.0 three.1 in
    let kept = if_some (bytes_eq three.0.1 (codes "after")) (three.0.0, three.0.2) words three.2 in
    let same : three.0.1 ≡ codes "after" = (bytes_eq-Decides three.0.1 (codes "after")).0 kept.0 in
    subst (λ (p : List ℕ × List ℕ). AreAround rest p.0 p.1) kept.1 record { whole = text.whole ∙ ap (λ w. three.0.0 ++ 32 ∷ (w ++ 32 ∷ three.0.2)) same }

-- a line of a run that is admitted
pub record AsksNow (form : Form) (regions : ℕ) (past : RunPast) (line : List ℕ) (asked : Event) : Type 0 where
  pub asks : Asks form regions line asked
  pub admitted : IsAdmitted form past asked

pub crash_after_asks : (regions : ℕ) → IsRegions regions → (past : RunPast) (rest : List ℕ) (asked : Event) → crash_after regions past rest ≡ Ok asked →
    AsksNow Run regions past (codes "crash " ++ rest) asked
unfolding crash_after
crash_after_asks regions lawful past rest asked is =
    let words = bind_ok (ok_or (after_words rest) BadLine) _ asked is in
    let text = after_are rest words.0 (or_ok (after_words rest) BadLine words.0 words.1) in
    let at = bind_ok (fresh_region past (region regions words.0.0)) _ asked words.2 in
    let last = bind_ok (number_or_bad 1 LAST_CRASH_EPOCH words.0.1) _ asked at.2 in
    let fresh = fresh_is past (region regions words.0.0) at.0 at.1 in
    let one = region_is regions lawful words.0.0 at.0 fresh.is in
    let epoch = number_is 1 LAST_CRASH_EPOCH words.0.1 last.0 (omega arith) last.1 in
    let same : event.CrashAfter at.0 last.0 ≡ asked = cc in
    subst (AsksNow Run regions past (codes "crash " ++ rest)) same record {
      asks = record {
        of_form = tt;
        typed = inl (ap (λ w. codes "crash " ++ w) (text.whole ∙ (ap (λ w. w ++ 32 ∷ (codes "after" ++ 32 ∷ words.0.1)) one.spelled
            ∙ ap (λ w. decimal at.0 ++ 32 ∷ (codes "after" ++ 32 ∷ w)) epoch.spelled)));
        within = (one.within, epoch.low, epoch.high);
      };
      admitted = fresh.fresh;
    }

pub record IsSql (found : Event) : Type 0 where
  pub at : ℕ
  pub session : ℕ
  pub text : List ℕ
  pub is : event.Sql at session text ≡ found

pub sql_is : (regions : ℕ) (rest : List ℕ) (found : Event) → sql regions rest ≡ Ok found → IsSql found
unfolding sql
sql_is regions rest found is =
    let parts = bind_ok (ok_or (statement_parts rest) BadLine) _ found is in
    let at = bind_ok (place regions parts.0.0) _ found parts.2 in
    let fits = if_ok (nat_le (length parts.0.1) STATEMENT_BYTES) (event.Sql at.0.0 at.0.1 parts.0.1) found LongStatement at.2 in
    record { at = at.0.0; session = at.0.1; text = parts.0.1; is = fits.1 }

-- the event was admitted, and is the one that was read
record IsLetIn (past : RunPast) (found asked : Event) : Type 0 where
  same : found ≡ asked
  admitted : IsAdmitted Run past asked

let_in : (past : RunPast) (at session : ℕ) (text : List ℕ) (asked : Event) → if_admitted past (event.Sql at session text) ≡ Ok asked → IsLetIn past (event.Sql at session text) asked
let_in past at session text asked is = by (has_session past at session) refl (nat_lt (length past.sessions) SESSIONS_PER_RUN) refl is
  where
    by : (known : Bool) → has_session past at session ≡ known → (room : Bool) → nat_lt (length past.sessions) SESSIONS_PER_RUN ≡ room →
        cond known (Ok (event.Sql at session text)) (cond room (Ok (event.Sql at session text)) (Err TooManySessions)) ≡ Ok asked →
        IsLetIn past (event.Sql at session text) asked
    by true known room is found =
        let same : event.Sql at session text ≡ asked = cc in record { same = same; admitted = subst (IsAdmitted Run past) same (inl known) }
    by false known true room found =
        let same : event.Sql at session text ≡ asked = cc in
        record { same = same; admitted = subst (IsAdmitted Run past) same (inr (ltb-true (length past.sessions) SESSIONS_PER_RUN room)) }
    by false known false room found = cc

let_in_found : (past : RunPast) (found asked : Event) → IsSql found → if_admitted past found ≡ Ok asked → IsLetIn past found asked
let_in_found past found asked sql is =
    subst (λ e. IsLetIn past e asked) sql.is (let_in past sql.at sql.session sql.text asked (ap (if_admitted past) sql.is ∙ is))

run_sql_asks : (regions : ℕ) → IsRegions regions → (past : RunPast) (rest : List ℕ) (asked : Event) → (sql regions rest >>= if_admitted past) ≡ Ok asked →
    AsksNow Run regions past (codes "sql " ++ rest) asked
run_sql_asks regions lawful past rest asked is =
    let found = bind_ok (sql regions rest) (if_admitted past) asked is in
    let in' = let_in_found past found.0 asked (sql_is regions rest found.0 found.1) found.2 in
    record { asks = subst (Asks Run regions (codes "sql " ++ rest)) in'.same (sql_asks Run regions lawful rest found.0 found.1); admitted = in'.admitted }

-- ---- whole lines

play_asks : (regions : ℕ) → IsRegions regions → (verb : Verb) (rest : List ℕ) (asked : Event) → play_event regions verb rest ≡ Ok asked →
    Asks Play regions (verb_text verb ++ 32 ∷ rest) asked
unfolding play_event
play_asks regions lawful verb.Sql rest asked is = sql_asks Play regions lawful rest asked is
play_asks regions lawful verb.Outcome rest asked is = outcome_asks regions lawful rest asked is
play_asks regions lawful verb.Seal rest asked is = seal_asks regions lawful rest asked is
play_asks regions lawful verb.Deliver rest asked is = deliver_asks regions rest asked is
play_asks regions lawful verb.Fetch rest asked is = fetch_asks regions lawful rest asked is
play_asks regions lawful verb.Work rest asked is = work_asks regions lawful rest asked is
play_asks regions lawful verb.Publish rest asked is = publish_asks regions lawful rest asked is
play_asks regions lawful verb.Show rest asked is = show_asks regions lawful rest asked is
play_asks regions lawful verb.Crash rest asked is = crash_asks regions lawful rest asked is
play_asks regions lawful verb.Restart rest asked is = restart_asks regions lawful rest asked is

run_asks : (regions : ℕ) → IsRegions regions → (past : RunPast) (verb : Verb) (rest : List ℕ) (asked : Event) → run_event regions past verb rest ≡ Ok asked →
    AsksNow Run regions past (verb_text verb ++ 32 ∷ rest) asked
unfolding run_event
run_asks regions lawful past verb.Sql rest asked is = run_sql_asks regions lawful past rest asked is
run_asks regions lawful past verb.Outcome rest asked is = cc
run_asks regions lawful past verb.Seal rest asked is = cc
run_asks regions lawful past verb.Deliver rest asked is = cc
run_asks regions lawful past verb.Fetch rest asked is = cc
run_asks regions lawful past verb.Work rest asked is = cc
run_asks regions lawful past verb.Publish rest asked is = cc
run_asks regions lawful past verb.Show rest asked is = cc
run_asks regions lawful past verb.Crash rest asked is = crash_after_asks regions lawful past rest asked is
run_asks regions lawful past verb.Restart rest asked is = cc

form_asks : (form : Form) (regions : ℕ) → IsRegions regions → (past : RunPast) (verb : Verb) (rest : List ℕ) (asked : Event) →
    form_event form regions past verb rest ≡ Ok asked → AsksNow form regions past (verb_text verb ++ 32 ∷ rest) asked
unfolding form_event
form_asks Play regions lawful past verb rest asked is = record { asks = play_asks regions lawful verb rest asked is; admitted = tt }
form_asks Run regions lawful past verb rest asked is = run_asks regions lawful past verb rest asked is

-- a line of which an event was read is a text, types that event, and is admitted
pub record IsEventNow (form : Form) (regions : ℕ) (past : RunPast) (line : List ℕ) (asked : Event) : Type 0 where
  pub utf8 : is_utf8 line ≡ true
  pub now : AsksNow form regions past line asked

pub line_asks : (form : Form) (regions : ℕ) → IsRegions regions → (past : RunPast) (line : List ℕ) (asked : Event) → event_line form regions past line ≡ Ok asked →
    IsEventNow form regions past line asked
unfolding event_line event_of
line_asks form regions lawful past line asked is =
    let text = when_ok (is_utf8 line) _ asked NotUtf8 is in
    let parts = bind_ok (ok_or (verb_and_rest line) BadLine) _ asked text.1 in
    let whole = verb_parts line parts.0 (or_ok (verb_and_rest line) BadLine parts.0 parts.1) in
    record { utf8 = text.0; now = subst (λ l. AsksNow form regions past l asked) (sym whole) (form_asks form regions lawful past parts.0.0 parts.0.1 asked parts.2) }
