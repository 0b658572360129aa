-- A text is of one script, or has one fault.
use Rattle.std.proofs.Common.{◌≡◌, ◌≢◌, ◌⊎◌, ℕ, suc, ◌+◌, ◌^◌, ◌<◌, ◌≤◌, List, [], ◌∷◌, ◌++◌, length, get_or, drop, Contains, codes, refl, sym, ap, subst, ◌∙◌, append_assoc, inl, inr, arith}
use Rattle.std.specs.Fmt.{decimal}
use Rattle.std.proofs.lemmas.Fmt.{decimal_injective}
use Rattle.std.proofs.lemmas.List.{append-nil, append_cancel_left}
use Rattle.geo_base.specs.declared.limits.TheConstants.{MAX_REGIONS}
use Rattle.world_script.specs.declared.event.Event.{Event}
use Rattle.world_script.specs.declared.script.Script.{Script}
use Rattle.world_script.specs.declared.script.ScriptFault.{ScriptFault}
use Rattle.world_script.specs.Script.{AreLinesOf, header_lines, text_of_lines, IsScript}
use Rattle.world_script.specs.Fault.{AreGoodLines, BeginsScript, IsOneLine, LacksLine, HasBadLine, IsFirstBad, IsFault}
use Rattle.world_script.proofs.Pieces.{same_cut, Contains-cut}
use Rattle.world_script.proofs.OneEvent.{one_event}
use Rattle.world_script.proofs.OneText.{Meets, one_text, begun_lines, BeginsScript-front}

-- ---- the lines of a script

good_events : (regions place : ℕ) (events : List Event) (lines : List (List ℕ)) → AreLinesOf regions events lines → AreGoodLines regions (suc (suc (suc (suc place)))) lines
good_events regions place [] [] typed = tt
good_events regions place [] (line ∷ lines) typed = absurd typed
good_events regions place (event ∷ events) [] typed = absurd typed
good_events regions place (event ∷ events) (line ∷ lines) typed =
    ((event, typed.0, typed.1), good_events regions (suc place) events lines typed.2)

-- header and events begin a script
pub header_begins : (regions : ℕ) (events : List Event) (lines : List (List ℕ)) → 1 ≤ regions → regions ≤ MAX_REGIONS → AreLinesOf regions events lines → BeginsScript (header_lines regions ++ lines)
header_begins regions events lines some few typed =
    (regions, (refl, ((refl, some, few), (refl, (refl, good_events regions 0 events lines typed)))))

script_begins : (script : Script) (bytes : List ℕ) (is : IsScript script bytes) → BeginsScript (header_lines script.regions ++ is.lines)
script_begins script bytes is = header_begins script.regions script.events is.lines is.some is.few is.typed

-- ---- a fault is where no script goes on

not_empty : (line last : List ℕ) → [] ≢ line ++ (10 ∷ last)
not_empty line last is = let has : Contains {X = ℕ} [] 10 = subst (λ bs. Contains bs 10) (sym is) (Contains-cut 10 line last) in absurd (omega arith)

not_bad_there : (before : List (List ℕ)) (rest line last : List ℕ) (more : List (List ℕ)) → BeginsScript (before ++ (line ∷ more)) → rest ≡ line ++ (10 ∷ last) → IsOneLine line → LacksLine before rest ⊎ HasBadLine before rest → ⊥
not_bad_there before rest line last more begins is one (inl (inl none)) = not_empty line last (sym none.0 ∙ is)
not_bad_there before rest line last more begins is one (inl (inr open_end)) =
    open_end.1 (subst (λ bs. Contains bs 10) (sym is) (Contains-cut 10 line last))
not_bad_there before rest line last more begins is one (inr bad) =
    let same = same_cut 10 line bad.line last bad.more (sym is ∙ bad.cut) one bad.one in
    let good = BeginsScript-front (before ++ line ∷ []) more (subst BeginsScript (sym (append_assoc before (line ∷ []) more)) begins) in
    bad.wrong (subst (λ l. BeginsScript (before ++ l ∷ [])) same.0 good)

no_first_bad : (script : Script) (bytes : List ℕ) (number : ℕ) → IsScript script bytes → IsFirstBad bytes number → ⊥
unfolding Meets
no_first_bad script bytes number is bad =
    let begins = script_begins script bytes is in
    let texts = append-nil (text_of_lines (header_lines script.regions ++ is.lines)) ∙ sym is.text ∙ bad.cut in
    elim (one_text (header_lines script.regions ++ is.lines) [] bad.before bad.rest (begun_lines (header_lines script.regions ++ is.lines) begins) (begun_lines bad.before bad.good) texts) [
      | inl same ↦
          elim bad.bad [
            | inl (inl none) ↦ absurd (omega (arith, ap length same.0, none.1))
            | inl (inr open_end) ↦ open_end.0 (sym same.1)
            | inr line ↦ not_empty line.line line.more (same.1 ∙ line.cut)
          ]
      | inr (inl next) ↦ not_empty next.line next.last next.begins
      | inr (inr next) ↦ not_bad_there bad.before bad.rest next.line next.last next.more (subst BeginsScript next.is begins) next.begins next.one bad.bad
    ]

pub no_fault : (bytes : List ℕ) (script : Script) (fault : ScriptFault) → IsScript script bytes → IsFault bytes fault → ⊥
no_fault bytes script fault is (inl long) = absurd (omega (arith, is.short, long.2))
no_fault bytes script fault is (inr bad) = no_first_bad script bytes fault.line is bad.2

one_first_bad : (bytes : List ℕ) (m n : ℕ) → IsFirstBad bytes m → IsFirstBad bytes n → m ≡ n
unfolding Meets
one_first_bad bytes m n bad bad' =
    elim (one_text bad.before bad.rest bad'.before bad'.rest (begun_lines bad.before bad.good) (begun_lines bad'.before bad'.good) (sym bad.cut ∙ bad'.cut)) [
      | inl same ↦ bad.count ∙ ap (λ ls. length ls + 1) same.0 ∙ sym bad'.count
      | inr (inl next) ↦ absurd (not_bad_there bad.before bad.rest next.line next.last next.more (subst BeginsScript next.is bad'.good) next.begins next.one bad.bad)
      | inr (inr next) ↦ absurd (not_bad_there bad'.before bad'.rest next.line next.last next.more (subst BeginsScript next.is bad.good) next.begins next.one bad'.bad)
    ]

same_fault : (one other : ScriptFault) → one.kind ≡ other.kind → one.line ≡ other.line → one ≡ other
same_fault one other kinds lines =
    let same_kind : one ≡ record one { kind = other.kind } = ap (λ k. record one { kind = k }) kinds in
    same_kind ∙ ap (λ l. record other { line = l }) lines

pub one_fault : (bytes : List ℕ) (one other : ScriptFault) → IsFault bytes one → IsFault bytes other → one ≡ other
one_fault bytes one other (inl long) (inl long') = same_fault one other (long.0 ∙ sym long'.0) (long.1 ∙ sym long'.1)
one_fault bytes one other (inl long) (inr bad) = absurd (omega (arith, long.2, bad.1))
one_fault bytes one other (inr bad) (inl long) = absurd (omega (arith, long.2, bad.1))
one_fault bytes one other (inr bad) (inr bad') =
    same_fault one other (bad.0 ∙ sym bad'.0) (one_first_bad bytes one.line other.line bad.2 bad'.2)

-- ---- a text is of one script

same_events : (regions : ℕ) (events events' : List Event) (lines : List (List ℕ)) → regions < 2 ^ 64 → AreLinesOf regions events lines → AreLinesOf regions events' lines → events ≡ events'
same_events regions [] [] lines few typed typed' = refl
same_events regions [] (event' ∷ events') [] few typed typed' = absurd typed'
same_events regions [] (event' ∷ events') (line ∷ lines) few typed typed' = absurd typed
same_events regions (event ∷ events) [] [] few typed typed' = absurd typed
same_events regions (event ∷ events) [] (line ∷ lines) few typed typed' = absurd typed'
same_events regions (event ∷ events) (event' ∷ events') [] few typed typed' = absurd typed
same_events regions (event ∷ events) (event' ∷ events') (line ∷ lines) few typed typed' =
    let first = one_event regions line event event' few typed.1 typed'.1 typed.0 typed'.0 in
    let more = same_events regions events events' lines few typed.2 typed'.2 in
    cc

same_lines : (bytes : List ℕ) (one other : Script) (is : IsScript one bytes) (is' : IsScript other bytes) → header_lines one.regions ++ is.lines ≡ header_lines other.regions ++ is'.lines
unfolding Meets
same_lines bytes one other is is' =
    let ends = append-nil (text_of_lines (header_lines one.regions ++ is.lines)) in
    let ends' = append-nil (text_of_lines (header_lines other.regions ++ is'.lines)) in
    elim (one_text (header_lines one.regions ++ is.lines) [] (header_lines other.regions ++ is'.lines) [] (begun_lines (header_lines one.regions ++ is.lines) (script_begins one bytes is)) (begun_lines (header_lines other.regions ++ is'.lines) (script_begins other bytes is')) (ends ∙ sym is.text ∙ is'.text ∙ sym ends')) [
      | inl same ↦ same.0
      | inr (inl next) ↦ absurd (not_empty next.line next.last next.begins)
      | inr (inr next) ↦ absurd (not_empty next.line next.last next.begins)
    ]

pub one_script : (bytes : List ℕ) (one other : Script) → IsScript one bytes → IsScript other bytes → (one.regions ≡ other.regions) × (one.events ≡ other.events)
one_script bytes one other is is' =
    let same = same_lines bytes one other is is' in
    let second : codes "regions " ++ decimal one.regions ≡ codes "regions " ++ decimal other.regions = ap (λ ls. get_or ls 1 []) same in
    let regions = decimal_injective one.regions other.regions (omega (arith, is.few)) (omega (arith, is'.few)) (append_cancel_left (codes "regions ") _ _ second) in
    let lines : is.lines ≡ is'.lines = ap (drop 4) same in
    let typed = subst (λ n. AreLinesOf n other.events is'.lines) (sym regions) is'.typed in
    (regions, same_events one.regions one.events other.events is'.lines (omega (arith, is.few)) (subst (AreLinesOf one.regions one.events) lines is.typed) typed)
