-- Events that may stand one behind another in a run.
use Rattle.std.proofs.Common.{◌≡◌, ℕ, ◌<◌, ◌≤◌, Bool, true, false, cond, List, [], ◌∷◌, ◌++◌, length, refl, sym, ap, ◌∙◌, subst, suc, arith, inl, inr, append_assoc}
use Rattle.std.specs.Prelude.{nat_eq, All, Contains}
use Rattle.std.specs.Cmp.{IsEquivalence, nat_eq_equiv}
use Rattle.std.specs.List.{IsDistinct, list_any, AllByRecursion}
use Rattle.std.proofs.lemmas.Bool.{and_parts, eqb-true, cases_Bool, or_from}
use Rattle.std.proofs.lemmas.List.{append-nil, length_push, length-append, get_or_append_left}
use Rattle.std.proofs.lemmas.List.Elements.{All-contains, Contains-push, All-append, All-contains_itself}
use Rattle.std.proofs.lemmas.Map.Keys.{IsDistinct-push, IsDistinct-head, IsDistinct-tail}
use Rattle.std.proofs.lemmas.Map.Made.{length-le_from_is_member}
use Rattle.std.proofs.lemmas.Map.Views.{list_any-from_Contains, Contains-from_any}
use Rattle.geo_script.specs.declared.event.Event.{Event}
use Rattle.geo_script.specs.declared.event.Event.TheVariants as event
use Rattle.geo_script.specs.declared.limits.TheConstants.{SESSIONS_PER_RUN}
use Rattle.geo_script.specs.declared.script.EventAt.{EventAt}
use Rattle.geo_script.specs.declared.script.Form.{Form}
use Rattle.geo_script.specs.declared.script.Form.TheVariants.{Play, Run}
use Rattle.geo_script.specs.inner.Past.{RunPast, nothing_yet, same_session, has_session, with_session, with_event, next_past}
use Rattle.geo_script.specs.Spelling.{sessions_of, crashed_of, along, IsLawful}
use Rattle.geo_script.proofs.EventsSpelled.{IsAdmitted}

-- each event may stand behind those before it
abbrev pub AreAdmitted : Form → RunPast → List EventAt → Type 0
AreAdmitted form past [] = Unit {0}
AreAdmitted form past (first ∷ events) = IsAdmitted form past first.event × AreAdmitted form (next_past form past first.event) events

-- ---- crashes

-- a number that stands behind others which all differ is none of them
pub behind_others : (xs ys : List ℕ) (y : ℕ) → IsDistinct nat_eq (xs ++ y ∷ ys) → list_any (nat_eq y) xs ≡ false
behind_others [] ys y distinct = refl
behind_others (x ∷ xs) ys y distinct =
    let apart = IsDistinct-head nat_eq x (xs ++ y ∷ ys) distinct in
    let differ : nat_eq x y ≡ false = among xs apart in
    let flipped : nat_eq y x ≡ false = nat_eq_equiv.symm y x ∙ differ in
    or_from (nat_eq y x) (list_any (nat_eq y) xs) flipped (behind_others xs ys y (IsDistinct-tail nat_eq x (xs ++ y ∷ ys) distinct))
  where
    among : (zs : List ℕ) → AllByRecursion (λ z. nat_eq x z ≡ false) (zs ++ y ∷ ys) → nat_eq x y ≡ false
    among [] all = all.0
    among (z ∷ zs) all = among zs all.1

-- the event crashes no region
abbrev IsNoCrash : Event → Type 0
IsNoCrash asked = crashed_of asked ≡ []

crashes_from : (past : RunPast) (events : List EventAt) → AreAdmitted Run past events → IsDistinct nat_eq past.crashed → IsDistinct nat_eq (past.crashed ++ along crashed_of events)
crashes_from past [] admitted distinct = subst (IsDistinct nat_eq) (sym (append-nil past.crashed)) distinct
crashes_from past (first ∷ events) admitted distinct =
    by first.event admitted.0 (crashes_from (with_event past first.event) events admitted.1)
  where
    session : (region number : ℕ) → (with_session past region number).crashed ≡ past.crashed
    session region number = by (has_session past region number)
      where
        by : (b : Bool) → (cond b past (record past { sessions = past.sessions ++ (region, number) ∷ [] })).crashed ≡ past.crashed
        by true = refl
        by false = refl

    by : (asked : Event) → IsAdmitted Run past asked →
        (IsDistinct nat_eq (with_event past asked).crashed → IsDistinct nat_eq ((with_event past asked).crashed ++ along crashed_of events)) →
        IsDistinct nat_eq (past.crashed ++ (crashed_of asked ++ along crashed_of events))
    by (event.CrashAfter region epoch) fresh more =
        subst (IsDistinct nat_eq) (append_assoc past.crashed (region ∷ []) (along crashed_of events)) (more (IsDistinct-push nat_eq_equiv past.crashed region distinct fresh))
    by (event.Sql region number text) admitted more =
        subst (λ crashed. IsDistinct nat_eq (crashed ++ along crashed_of events)) (session region number) (more (subst (IsDistinct nat_eq) (sym (session region number)) distinct))
    by (event.Outcome region number) admitted more = more distinct
    by (event.Seal region) admitted more = more distinct
    by (event.Deliver low high) admitted more = more distinct
    by (event.Fetch region asked epoch) admitted more = more distinct
    by (event.Work region worker) admitted more = more distinct
    by (event.Publish region) admitted more = more distinct
    by (event.Show region) admitted more = more distinct
    by (event.Crash region sealing) admitted more = more distinct
    by (event.Restart region) admitted more = more distinct

-- ---- sessions

same_is : (a b : ℕ × ℕ) → same_session a b ≡ true → a ≡ b
same_is (r, s) (q, t) is =
    let parts = and_parts (nat_eq r q) (nat_eq s t) is in
    let one : r ≡ q = eqb-true r q parts.0 in
    let other : s ≡ t = eqb-true s t parts.1 in
    ap (λ n. (n, s)) one ∙ ap (λ n. (q, n)) other

sessions_alike : IsEquivalence same_session
sessions_alike = record {
  refl = λ a. rw (nat_eq_equiv.refl a.0, nat_eq_equiv.refl a.1) refl;
  symm = λ a b. rw (nat_eq_equiv.symm a.0 b.0, nat_eq_equiv.symm a.1 b.1) refl;
  congr = λ a b c is. ap (λ x. same_session x c) (same_is a b is);
}

-- a few sessions among which all of these are
record AreAmongFew (known : List (ℕ × ℕ)) (events : List EventAt) : Type 0 where
  all : List (ℕ × ℕ)
  few : length all ≤ SESSIONS_PER_RUN
  before : All (Contains all) known
  after : All (Contains all) (along sessions_of events)

all_front : (P : ℕ × ℕ → Type 0) (xs ys : List (ℕ × ℕ)) → All P (xs ++ ys) → All P xs
all_front P xs ys all = λ k d within. subst P (get_or_append_left xs ys d k within) (all k d (omega (arith, length-append xs ys)))

no_one : (P : ℕ × ℕ → Type 0) → All P []
no_one P = λ k d within. absurd (omega arith)

one : (P : ℕ × ℕ → Type 0) (x : ℕ × ℕ) → P x → All P (x ∷ [])
one P x holds = λ k d within. let first : k ≡ 0 = omega arith in rw first holds

-- the same of one event and those behind it
record IsAmongFew (known : List (ℕ × ℕ)) (asked : Event) (events : List EventAt) : Type 0 where
  all : List (ℕ × ℕ)
  few : length all ≤ SESSIONS_PER_RUN
  before : All (Contains all) known
  after : All (Contains all) (sessions_of asked ++ along sessions_of events)

-- the event is no statement
record IsNoStatement (past : RunPast) (asked : Event) : Type 0 where
  same : (with_event past asked).sessions ≡ past.sessions
  none : sessions_of asked ≡ []

without_one : (past : RunPast) (asked : Event) (events : List EventAt) → IsNoStatement past asked → length past.sessions ≤ SESSIONS_PER_RUN →
    (length (with_event past asked).sessions ≤ SESSIONS_PER_RUN → AreAmongFew (with_event past asked).sessions events) → IsAmongFew past.sessions asked events
without_one past asked events other few later =
    let found = later (subst (λ l. length l ≤ SESSIONS_PER_RUN) (sym other.same) few) in
    record {
      all = found.all;
      few = found.few;
      before = subst (All (Contains found.all)) other.same found.before;
      after = subst (λ l. All (Contains found.all) (l ++ along sessions_of events)) (sym other.none) found.after;
    }

known_one : (past : RunPast) (region number : ℕ) (text : List ℕ) (events : List EventAt) → has_session past region number ≡ true → length past.sessions ≤ SESSIONS_PER_RUN →
    (length (with_session past region number).sessions ≤ SESSIONS_PER_RUN → AreAmongFew (with_session past region number).sessions events) →
    IsAmongFew past.sessions (event.Sql region number text) events
known_one past region number text events known few later =
    let same : with_session past region number ≡ past = rw known refl in
    let found = later (subst (λ (p : RunPast). length p.sessions ≤ SESSIONS_PER_RUN) (sym same) few) in
    let before = subst (λ (p : RunPast). All (Contains found.all) p.sessions) same found.before in
    let here : Contains past.sessions (region, number) = Contains-from_any same_is (region, number) past.sessions known in
    record {
      all = found.all;
      few = found.few;
      before = before;
      after = All-append (Contains found.all) ((region, number) ∷ []) (along sessions_of events) (one (Contains found.all) (region, number) (All-contains (Contains found.all) past.sessions (region, number) before here)) found.after;
    }

new_one : (past : RunPast) (region number : ℕ) (text : List ℕ) (events : List EventAt) → has_session past region number ≡ false → length past.sessions < SESSIONS_PER_RUN →
    (length (with_session past region number).sessions ≤ SESSIONS_PER_RUN → AreAmongFew (with_session past region number).sessions events) →
    IsAmongFew past.sessions (event.Sql region number text) events
new_one past region number text events unknown room later =
    let at : ℕ × ℕ = (region, number) in
    let same : (with_session past region number).sessions ≡ past.sessions ++ at ∷ [] = rw unknown refl in
    let found = later (subst (λ l. length l ≤ SESSIONS_PER_RUN) (sym same) (omega (arith, length_push past.sessions at))) in
    let before = subst (All (Contains found.all)) same found.before in
    record {
      all = found.all;
      few = found.few;
      before = all_front (Contains found.all) past.sessions (at ∷ []) before;
      after = All-append (Contains found.all) (at ∷ []) (along sessions_of events)
          (one (Contains found.all) at (All-contains (Contains found.all) (past.sessions ++ at ∷ []) at before (Contains-push past.sessions at))) found.after;
    }

one_among : (past : RunPast) (asked : Event) (events : List EventAt) → IsAdmitted Run past asked → length past.sessions ≤ SESSIONS_PER_RUN →
    (length (with_event past asked).sessions ≤ SESSIONS_PER_RUN → AreAmongFew (with_event past asked).sessions events) → IsAmongFew past.sessions asked events
one_among past (event.Sql region number text) events (inl known) few later = known_one past region number text events known few later
one_among past (event.Sql region number text) events (inr room) few later =
    elim (cases_Bool (has_session past region number)) [
      | inl known ↦ known_one past region number text events known few later
      | inr unknown ↦ new_one past region number text events unknown room later
    ]
one_among past (event.CrashAfter region epoch) events admitted few later = without_one past (event.CrashAfter region epoch) events record { same = refl; none = refl } few later
one_among past (event.Outcome region number) events admitted few later = without_one past (event.Outcome region number) events record { same = refl; none = refl } few later
one_among past (event.Seal region) events admitted few later = without_one past (event.Seal region) events record { same = refl; none = refl } few later
one_among past (event.Deliver low high) events admitted few later = without_one past (event.Deliver low high) events record { same = refl; none = refl } few later
one_among past (event.Fetch region asked epoch) events admitted few later = without_one past (event.Fetch region asked epoch) events record { same = refl; none = refl } few later
one_among past (event.Work region worker) events admitted few later = without_one past (event.Work region worker) events record { same = refl; none = refl } few later
one_among past (event.Publish region) events admitted few later = without_one past (event.Publish region) events record { same = refl; none = refl } few later
one_among past (event.Show region) events admitted few later = without_one past (event.Show region) events record { same = refl; none = refl } few later
one_among past (event.Crash region sealing) events admitted few later = without_one past (event.Crash region sealing) events record { same = refl; none = refl } few later
one_among past (event.Restart region) events admitted few later = without_one past (event.Restart region) events record { same = refl; none = refl } few later

sessions_from : (past : RunPast) (events : List EventAt) → AreAdmitted Run past events → length past.sessions ≤ SESSIONS_PER_RUN → AreAmongFew past.sessions events
sessions_from past [] admitted few = record { all = past.sessions; few = few; before = All-contains_itself past.sessions; after = no_one (Contains past.sessions) }
sessions_from past (first ∷ events) admitted few =
    let found = one_among past first.event events admitted.0 few (sessions_from (with_event past first.event) events admitted.1) in
    record { all = found.all; few = found.few; before = found.before; after = found.after }

-- ---- and back

-- the regions that crash differ, and the sessions are among a few
record IsLawfulAfter (past : RunPast) (all : List (ℕ × ℕ)) (events : List EventAt) : Type 0 where
  crashes : IsDistinct nat_eq (past.crashed ++ along crashed_of events)
  few : length all ≤ SESSIONS_PER_RUN
  sessions : All (Contains all) (along sessions_of events)
  distinct : IsDistinct same_session past.sessions
  before : All (Contains all) past.sessions

fits_in : (all xs : List (ℕ × ℕ)) → IsDistinct same_session xs → All (Contains all) xs → length xs ≤ length all
fits_in all xs distinct among =
    length-le_from_is_member sessions_alike xs all distinct
    (λ q is. list_any-from_Contains sessions_alike q all (All-contains (Contains all) xs q among (Contains-from_any same_is q xs is)))

-- the first event is admitted, and those behind it are lawful then
record IsStep (past : RunPast) (all : List (ℕ × ℕ)) (asked : Event) (events : List EventAt) : Type 0 where
  admitted : IsAdmitted Run past asked
  after : IsLawfulAfter (with_event past asked) all events

all_back : (P : ℕ × ℕ → Type 0) (xs ys : List (ℕ × ℕ)) → All P (xs ++ ys) → All P ys
all_back P [] ys all = all
all_back P (x ∷ xs) ys all = all_back P xs ys (λ k d within. all (suc k) d (omega arith))

first_of : (P : ℕ × ℕ → Type 0) (x : ℕ × ℕ) (xs : List (ℕ × ℕ)) → All P (x ∷ xs) → P x
first_of P x xs all = all 0 x (omega arith)

statement_step : (past : RunPast) (all : List (ℕ × ℕ)) (region number : ℕ) (text : List ℕ) (at : EventAt) (events : List EventAt) → at.event ≡ event.Sql region number text →
    IsLawfulAfter past all (at ∷ events) → IsStep past all (event.Sql region number text) events
statement_step past all region number text at events is lawful =
    let x : ℕ × ℕ = (region, number) in
    let crashes = subst (λ e. IsDistinct nat_eq (past.crashed ++ (crashed_of e ++ along crashed_of events))) is lawful.crashes in
    let sessions = subst (λ e. All (Contains all) (sessions_of e ++ along sessions_of events)) is lawful.sessions in
    let rest = all_back (Contains all) (x ∷ []) (along sessions_of events) sessions in
    let here = first_of (Contains all) x (along sessions_of events) sessions in
    by x crashes rest here (has_session past region number) refl
  where
    by : (x : ℕ × ℕ) → IsDistinct nat_eq (past.crashed ++ along crashed_of events) → All (Contains all) (along sessions_of events) → Contains all (region, number) →
        (b : Bool) → has_session past region number ≡ b → IsStep past all (event.Sql region number text) events
    by x crashes rest here true known =
        let same : with_session past region number ≡ past = rw known refl in
        record {
          admitted = inl known;
          after = subst (λ p. IsLawfulAfter p all events) (sym same) record { crashes = crashes; few = lawful.few; sessions = rest; distinct = lawful.distinct; before = lawful.before };
        }
    by x crashes rest here false unknown =
        let more : List (ℕ × ℕ) = past.sessions ++ (region, number) ∷ [] in
        let same : with_session past region number ≡ record past { sessions = more } = rw unknown refl in
        let distinct : IsDistinct same_session more = IsDistinct-push sessions_alike past.sessions (region, number) lawful.distinct unknown in
        let before : All (Contains all) more = All-append (Contains all) past.sessions ((region, number) ∷ []) lawful.before (one (Contains all) (region, number) here) in
        let fits = fits_in all more distinct before in
        let few = lawful.few in
        record {
          admitted = inr (omega (arith, length_push past.sessions (region, number)));
          after = subst (λ p. IsLawfulAfter p all events) (sym same) record { crashes = crashes; few = lawful.few; sessions = rest; distinct = distinct; before = before };
        }

crash_step : (past : RunPast) (all : List (ℕ × ℕ)) (region epoch : ℕ) (at : EventAt) (events : List EventAt) → at.event ≡ event.CrashAfter region epoch →
    IsLawfulAfter past all (at ∷ events) → IsStep past all (event.CrashAfter region epoch) events
crash_step past all region epoch at events is lawful =
    let crashes = subst (λ e. IsDistinct nat_eq (past.crashed ++ (crashed_of e ++ along crashed_of events))) is lawful.crashes in
    let sessions = subst (λ e. All (Contains all) (sessions_of e ++ along sessions_of events)) is lawful.sessions in
    record {
      admitted = behind_others past.crashed (along crashed_of events) region crashes;
      after = record {
        crashes = subst (IsDistinct nat_eq) (sym (append_assoc past.crashed (region ∷ []) (along crashed_of events))) crashes;
        few = lawful.few;
        sessions = sessions;
        distinct = lawful.distinct;
        before = lawful.before;
      };
    }

-- an event that is neither a statement nor a crash changes nothing
other_step : (past : RunPast) (all : List (ℕ × ℕ)) (asked : Event) (at : EventAt) (events : List EventAt) → at.event ≡ asked → IsAdmitted Run past asked →
    with_event past asked ≡ past → crashed_of asked ≡ [] → sessions_of asked ≡ [] → IsLawfulAfter past all (at ∷ events) → IsStep past all asked events
other_step past all asked at events is admitted same no_crash no_session lawful = record {
  admitted = admitted;
  after = subst (λ p. IsLawfulAfter p all events) (sym same) record {
    crashes = subst (λ l. IsDistinct nat_eq (past.crashed ++ (l ++ along crashed_of events))) (ap crashed_of is ∙ no_crash) lawful.crashes;
    few = lawful.few;
    sessions = subst (λ l. All (Contains all) (l ++ along sessions_of events)) (ap sessions_of is ∙ no_session) lawful.sessions;
    distinct = lawful.distinct;
    before = lawful.before;
  };
}

step : (past : RunPast) (all : List (ℕ × ℕ)) (asked : Event) (at : EventAt) (events : List EventAt) → at.event ≡ asked → IsLawfulAfter past all (at ∷ events) → IsStep past all asked events
step past all (event.Sql region number text) at events is lawful = statement_step past all region number text at events is lawful
step past all (event.CrashAfter region epoch) at events is lawful = crash_step past all region epoch at events is lawful
step past all (event.Outcome region number) at events is lawful = other_step past all (event.Outcome region number) at events is tt refl refl refl lawful
step past all (event.Seal region) at events is lawful = other_step past all (event.Seal region) at events is tt refl refl refl lawful
step past all (event.Deliver low high) at events is lawful = other_step past all (event.Deliver low high) at events is tt refl refl refl lawful
step past all (event.Fetch region asked epoch) at events is lawful = other_step past all (event.Fetch region asked epoch) at events is tt refl refl refl lawful
step past all (event.Work region worker) at events is lawful = other_step past all (event.Work region worker) at events is tt refl refl refl lawful
step past all (event.Publish region) at events is lawful = other_step past all (event.Publish region) at events is tt refl refl refl lawful
step past all (event.Show region) at events is lawful = other_step past all (event.Show region) at events is tt refl refl refl lawful
step past all (event.Crash region sealing) at events is lawful = other_step past all (event.Crash region sealing) at events is tt refl refl refl lawful
step past all (event.Restart region) at events is lawful = other_step past all (event.Restart region) at events is tt refl refl refl lawful

run_admitted : (past : RunPast) (all : List (ℕ × ℕ)) (events : List EventAt) → IsLawfulAfter past all events → AreAdmitted Run past events
run_admitted past all [] lawful = tt
run_admitted past all (first ∷ events) lawful =
    let next = step past all first.event first events refl lawful in
    (next.admitted, run_admitted (with_event past first.event) all events next.after)

play_admitted : (past : RunPast) (events : List EventAt) → AreAdmitted Play past events
play_admitted past [] = tt
play_admitted past (first ∷ events) = (tt, play_admitted past events)

nothing_distinct : {A : Type 0} (same : A → A → Bool) → IsDistinct same []
unfolding IsDistinct
nothing_distinct same = tt

pub lawful_from : (form : Form) (events : List EventAt) → AreAdmitted form nothing_yet events → IsLawful form events
lawful_from Play events admitted = tt
lawful_from Run events admitted =
    let found = sessions_from nothing_yet events admitted (omega arith) in
    (crashes_from nothing_yet events admitted (nothing_distinct nat_eq), record { sessions = found.all; few = found.few; all = found.after })

pub admitted_from : (form : Form) (events : List EventAt) → IsLawful form events → AreAdmitted form nothing_yet events
admitted_from Play events lawful = play_admitted nothing_yet events
admitted_from Run events (crashes, few) =
    run_admitted nothing_yet few.sessions events record {
      crashes = crashes;
      few = few.few;
      sessions = few.all;
      distinct = nothing_distinct same_session;
      before = no_one (Contains few.sessions);
    }
