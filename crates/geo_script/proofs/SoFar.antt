-- What the reader of a run keeps of lawful events says of one event more what the events say themselves.
use Rattle.std.proofs.Common.{◌≡◌, ℕ, ◌<◌, ◌≤◌, Bool, true, false, List, [], ◌∷◌, ◌++◌, length, refl, sym, ap, ◌∙◌, subst, arith, inl, inr, ◌⊎◌}
use Rattle.std.specs.Prelude.{nat_eq, Contains}
use Rattle.std.specs.Cmp.{nat_eq_equiv}
use Rattle.std.specs.List.{IsDistinct, list_any}
use Rattle.std.proofs.lemmas.Bool.{eqb-true, cases_lt, both_ways}
use Rattle.std.proofs.lemmas.List.{append-nil, append_assoc}
use Rattle.std.proofs.lemmas.Map.Keys.{IsDistinct-push}
use Rattle.std.proofs.lemmas.Map.Views.{list_any-from_Contains, Contains-from_any}
use Rattle.geo_script.specs.declared.event.Event.{Event}
use Rattle.geo_script.specs.declared.event.Event.TheVariants as event
use Rattle.geo_script.specs.declared.limits.TheConstants.{SESSIONS_PER_RUN}
use Rattle.geo_script.specs.declared.script.EventAt.{EventAt}
use Rattle.geo_script.specs.declared.script.Form.{Form}
use Rattle.geo_script.specs.declared.script.Form.TheVariants.{Play, Run}
use Rattle.geo_script.specs.inner.Past.{RunPast, nothing_yet, has_crash, has_session, with_event, past_behind}
use Rattle.geo_script.specs.Spelling.{sessions_of, crashed_of, along, AreFewSessions, IsLawful}
use Rattle.geo_script.proofs.EventsSpelled.{IsAdmitted}
use Rattle.geo_script.proofs.Runs.{AreAdmitted, behind_others, lawful_from, admitted_from}

-- ---- one event more

along_last : {A : Type 0} (of : Event → List A) (events : List EventAt) (last : EventAt) → along of (events ++ last ∷ []) ≡ along of events ++ of last.event
along_last of [] last = append-nil (of last.event)
along_last of (first ∷ events) last =
    ap (λ l. of first.event ++ l) (along_last of events last) ∙ sym (append_assoc (of first.event) (along of events) (of last.event))

admitted_last : (past : RunPast) (events : List EventAt) (last : EventAt) → AreAdmitted Run past events → IsAdmitted Run (past_behind Run past events) last.event →
    AreAdmitted Run past (events ++ last ∷ [])
admitted_last past [] last before now = (now, tt)
admitted_last past (first ∷ events) last before now = (before.0, admitted_last (with_event past first.event) events last before.1 now)

last_admitted : (past : RunPast) (events : List EventAt) (last : EventAt) → AreAdmitted Run past (events ++ last ∷ []) → IsAdmitted Run (past_behind Run past events) last.event
last_admitted past [] last are = are.0
last_admitted past (first ∷ events) last are = last_admitted (with_event past first.event) events last are.1

-- the past of the events that are read
abbrev past_of : List EventAt → RunPast
past_of events = past_behind Run nothing_yet events

-- an event, whatever its line is
abbrev at_line : Event → EventAt
at_line asked = record { line = 0; event = asked }

lawful_more : (events : List EventAt) (asked : Event) → IsLawful Run events → IsAdmitted Run (past_of events) asked → IsLawful Run (events ++ at_line asked ∷ [])
lawful_more events asked lawful now =
    lawful_from Run (events ++ at_line asked ∷ []) (admitted_last nothing_yet events (at_line asked) (admitted_from Run events lawful) now)

more_admitted : (events : List EventAt) (asked : Event) → IsLawful Run (events ++ at_line asked ∷ []) → IsAdmitted Run (past_of events) asked
more_admitted events asked lawful = last_admitted nothing_yet events (at_line asked) (admitted_from Run (events ++ at_line asked ∷ []) lawful)

-- ---- crashes

crash_kept : (events : List EventAt) → IsLawful Run events → (at : ℕ) → has_crash (past_of events) at ≡ true → Contains (along crashed_of events) at
crash_kept events lawful at is = by (list_any (nat_eq at) (along crashed_of events)) refl
  where
    asked : Event
    asked = event.CrashAfter at 1

    by : (b : Bool) → list_any (nat_eq at) (along crashed_of events) ≡ b → Contains (along crashed_of events) at
    by true among = Contains-from_any (λ x y same. eqb-true x y same) at (along crashed_of events) among
    by false none =
        let distinct : IsDistinct nat_eq (along crashed_of events ++ at ∷ []) = IsDistinct-push nat_eq_equiv (along crashed_of events) at lawful.0 none in
        let same : along sessions_of events ≡ along sessions_of (events ++ at_line asked ∷ []) = sym (along_last sessions_of events (at_line asked) ∙ append-nil (along sessions_of events)) in
        let more : IsLawful Run (events ++ at_line asked ∷ []) =
        (subst (IsDistinct nat_eq) (sym (along_last crashed_of events (at_line asked))) distinct, subst AreFewSessions same lawful.1) in
        absurd (both_ways (has_crash (past_of events) at) (more_admitted events asked more) is)

crash_found : (events : List EventAt) → IsLawful Run events → (at : ℕ) → Contains (along crashed_of events) at → has_crash (past_of events) at ≡ true
crash_found events lawful at among = by (has_crash (past_of events) at) refl
  where
    asked : Event
    asked = event.CrashAfter at 1

    by : (b : Bool) → has_crash (past_of events) at ≡ b → b ≡ true
    by true is = refl
    by false fresh =
        let more = lawful_more events asked lawful fresh in
        let distinct : IsDistinct nat_eq (along crashed_of events ++ at ∷ []) = subst (IsDistinct nat_eq) (along_last crashed_of events (at_line asked)) more.0 in
        let some = list_any-from_Contains nat_eq_equiv at (along crashed_of events) among in
        absurd (both_ways (list_any (nat_eq at) (along crashed_of events)) (behind_others (along crashed_of events) [] at distinct) some)

-- ---- sessions

session_left : (events : List EventAt) → IsLawful Run events → (at session : ℕ) → has_session (past_of events) at session ≡ false → SESSIONS_PER_RUN ≤ length (past_of events).sessions →
    AreFewSessions (along sessions_of events ++ (at, session) ∷ []) → ⊥
session_left events lawful at session other full few = by (more_admitted events asked more)
  where
    asked : Event
    asked = event.Sql at session []

    more : IsLawful Run (events ++ at_line asked ∷ [])
    more = (
      subst (IsDistinct nat_eq) (sym (along_last crashed_of events (at_line asked) ∙ append-nil (along crashed_of events))) lawful.0,
      subst AreFewSessions (sym (along_last sessions_of events (at_line asked))) few,
    )

    by : (has_session (past_of events) at session ≡ true) ⊎ (length (past_of events).sessions < SESSIONS_PER_RUN) → ⊥
    by (inl known) = both_ways (has_session (past_of events) at session) other known
    by (inr room) = omega (arith, room, full)

session_full : (events : List EventAt) → IsLawful Run events → (at session : ℕ) → (AreFewSessions (along sessions_of events ++ (at, session) ∷ []) → ⊥) →
    (has_session (past_of events) at session ≡ false) × (SESSIONS_PER_RUN ≤ length (past_of events).sessions)
session_full events lawful at session many =
    by (has_session (past_of events) at session) refl (cases_lt (length (past_of events).sessions) SESSIONS_PER_RUN)
  where
    asked : Event
    asked = event.Sql at session []

    none : IsAdmitted Run (past_of events) asked → ⊥
    none now = many (subst AreFewSessions (along_last sessions_of events (at_line asked)) (lawful_more events asked lawful now).1)

    by : (b : Bool) → has_session (past_of events) at session ≡ b → (length (past_of events).sessions < SESSIONS_PER_RUN) ⊎ (SESSIONS_PER_RUN ≤ length (past_of events).sessions) →
        (has_session (past_of events) at session ≡ false) × (SESSIONS_PER_RUN ≤ length (past_of events).sessions)
    by true known room = absurd (none (inl known))
    by false other (inl room) = absurd (none (inr room))
    by false other (inr full) = (other, full)

-- ---- what is kept, and what it says

-- what is kept of a run says the same of one event more as the events
pub record RunSays (past : RunPast) (events : List EventAt) : Type 0 where
  pub crashed : (at : ℕ) → has_crash past at ≡ true → Contains (along crashed_of events) at
  pub again : (at : ℕ) → Contains (along crashed_of events) at → has_crash past at ≡ true
  pub left : (at session : ℕ) → has_session past at session ≡ false → SESSIONS_PER_RUN ≤ length past.sessions → AreFewSessions (along sessions_of events ++ (at, session) ∷ []) → ⊥
  pub full : (at session : ℕ) → (AreFewSessions (along sessions_of events ++ (at, session) ∷ []) → ⊥) → (has_session past at session ≡ false) × (SESSIONS_PER_RUN ≤ length past.sessions)

-- of a play nothing is asked
abbrev pub Says : Form → RunPast → List EventAt → Type 0
Says Play past events = Unit {0}
Says Run past events = RunSays past events

-- events, and what is kept of them
pub record SoFar (form : Form) : Type 0 where
  pub events : List EventAt
  pub past : RunPast
  pub says : Says form past events

pub says_of : (form : Form) (events : List EventAt) → IsLawful form events → Says form (past_behind form nothing_yet events) events
says_of Play events lawful = tt
says_of Run events lawful =
    record { crashed = crash_kept events lawful; again = crash_found events lawful; left = session_left events lawful; full = session_full events lawful }

abbrev pub so_far : (form : Form) (events : List EventAt) → IsLawful form events → SoFar form
so_far form events lawful = record { events = events; past = past_behind form nothing_yet events; says = says_of form events lawful }
