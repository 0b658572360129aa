-- The events of a script: their numbers are in range, and they are no more than its bytes.
use Rattle.std.proofs.Common.{◌≡◌, ℕ, suc, ◌+◌, ◌-◌, ◌<◌, ◌≤◌, List, [], ◌∷◌, ◌++◌, length, All, refl, sym, ap, subst, arith, length-append}
use Rattle.std.proofs.lemmas.List.Elements.{All-nil, All-cons, All-head, All-tail}
use Rattle.geo_base.specs.declared.limits.TheConstants.{SCRIPT_BYTES, LAST_EPOCH}
use Rattle.world_script.specs.declared.event.Event.{Event}
use Rattle.world_script.specs.declared.script.Script.{Script}
use Rattle.world_script.specs.Script.{IsScript, IsWithin, AreLinesOf, text_of_lines, header_lines}
use Rattle.geo_world.specs.World.{first_world}
use Rattle.geo_world.specs.Play.{world_after}
use Rattle.geo_world.specs.Plays.{LeadTo}

-- each line ends in a byte of its own
lines-le-text : (lines : List (List ℕ)) → length lines ≤ length (text_of_lines lines)
lines-le-text [] = omega arith
lines-le-text (line ∷ lines) = omega (arith, length-append line (10 ∷ text_of_lines lines), lines-le-text lines)

-- one line an event
events-lines : (regions : ℕ) (events : List Event) (lines : List (List ℕ)) → AreLinesOf regions events lines → length events ≡ length lines
events-lines regions [] [] h = refl
events-lines regions [] (line ∷ lines) h = absurd h
events-lines regions (event ∷ events) [] h = absurd h
events-lines regions (event ∷ events) (line ∷ lines) h = ap suc (events-lines regions events lines h.2)

events-within : (regions : ℕ) (events : List Event) (lines : List (List ℕ)) → AreLinesOf regions events lines → All (IsWithin regions) events
events-within regions [] lines h = All-nil (IsWithin regions)
events-within regions (event ∷ events) [] h = absurd h
events-within regions (event ∷ events) (line ∷ lines) h = All-cons (IsWithin regions) event events h.1 (events-within regions events lines h.2)

All-front : (P : Event → Type 0) (front rest : List Event) → All P (front ++ rest) → All P front
All-front P [] rest h = All-nil P
All-front P (event ∷ front) rest h =
    All-cons P event front (All-head P event (front ++ rest) h) (All-front P front rest (All-tail P event (front ++ rest) h))

few_events : (events lines headed bytes : ℕ) → events ≡ lines → headed ≡ 4 + lines → headed ≤ bytes → bytes ≤ SCRIPT_BYTES → events < LAST_EPOCH - 1
few_events events lines headed bytes a b c d = omega arith

module _ (script : Script) (bytes : List ℕ) (s : IsScript script bytes) where
  pub script-few : length script.events < LAST_EPOCH - 1
  script-few =
      few_events (length script.events) (length s.lines) (length (header_lines script.regions ++ s.lines)) (length bytes)
      (events-lines script.regions script.events s.lines s.typed)
      (length-append (header_lines script.regions) s.lines)
      (subst (λ (text : List ℕ). length (header_lines script.regions ++ s.lines) ≤ length text) (sym s.text)
      (lines-le-text (header_lines script.regions ++ s.lines)))
      s.short

  pub script-within : All (IsWithin script.regions) script.events
  script-within = events-within script.regions script.events s.lines s.typed

  -- the first events of a script are a play
  module _ (before : List Event) (event : Event) (after : List Event) (cut : script.events ≡ before ++ event ∷ after) where
    cut_within : All (IsWithin script.regions) (before ++ event ∷ after)
    cut_within = subst (All (IsWithin script.regions)) cut script-within

    pub script-leads : LeadTo script.regions LAST_EPOCH before (world_after (first_world script.regions LAST_EPOCH) before)
    script-leads = record { some = s.some; few = s.few; within = All-front (IsWithin script.regions) before (event ∷ after) cut_within; after = refl }

    pub front-few : length before < LAST_EPOCH - 1
    front-few = omega (arith, script-few, length-append before (event ∷ after), ap (λ (es : List Event). length es) cut)

    rest_within : (front : List Event) → All (IsWithin script.regions) (front ++ event ∷ after) → IsWithin script.regions event
    rest_within [] h = All-head (IsWithin script.regions) event after h
    rest_within (e ∷ front) h = rest_within front (All-tail (IsWithin script.regions) e (front ++ event ∷ after) h)

    pub event-within : IsWithin script.regions event
    event-within = rest_within before cut_within
