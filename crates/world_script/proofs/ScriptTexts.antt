-- A header and what stands behind it make a script, or a fault.
use Rattle.std.proofs.Common.{◌≡◌, ◌≢◌, ◌⊎◌, ℕ, suc, ◌+◌, ◌≤◌, List, [], ◌∷◌, ◌++◌, length, codes, Result, Ok, Err, MatchResult, refl, sym, ap, subst, ◌∙◌, inl, inr, arith}
use Rattle.std.specs.Fmt.{decimal}
use Rattle.std.proofs.lemmas.Fmt.{decimal_injective}
use Rattle.std.proofs.lemmas.List.{append-nil, append_cancel_left}
use Rattle.geo_base.specs.declared.limits.TheConstants.{MAX_REGIONS, SCRIPT_BYTES}
use Rattle.world_script.specs.declared.event.Event.{Event}
use Rattle.world_script.specs.declared.script.Script.{Script}
use Rattle.world_script.specs.declared.script.ScriptFault.{ScriptFault}
use Rattle.world_script.specs.declared.script.ScriptKind.TheVariants.{NotBuilt}
use Rattle.world_script.specs.declared.script.ReadFault.{ReadFault}
use Rattle.world_script.specs.declared.script.ReadFault.TheVariants as read_fault
use Rattle.world_script.specs.Script.{AreLinesOf, header_lines, text_of_lines, IsScript}
use Rattle.world_script.specs.Fault.{AreGoodLines, BeginsScript, LacksLine, HasBadLine, IsFirstBad, IsFault}
use Rattle.world_script.specs.inner.Reading.{HasHeader, HasEvents, HasOther, LacksWanted, IsEventLine}
use Rattle.world_script.proofs.LineTexts.{text_more}
use Rattle.world_script.proofs.TextLaws.{header_begins}

pub script_of : (bytes text : List ℕ) (script : Script) → length bytes ≤ SCRIPT_BYTES → HasHeader bytes script.regions text → HasEvents script.regions text script.events [] → IsScript script bytes
script_of bytes text script short header read = record {
  lines = read.lines;
  some = header.some;
  few = header.few;
  short = short;
  typed = read.typed;
  text = text_more bytes (header_lines script.regions) read.lines text [] header.cut read.cut ∙ append-nil (text_of_lines (header_lines script.regions ++ read.lines));
}

-- there is one line for each event
length-AreLinesOf : (regions : ℕ) (events : List Event) (lines : List (List ℕ)) → AreLinesOf regions events lines → length events ≡ length lines
length-AreLinesOf regions [] [] typed = refl
length-AreLinesOf regions [] (line ∷ lines) typed = absurd typed
length-AreLinesOf regions (event ∷ events) [] typed = absurd typed
length-AreLinesOf regions (event ∷ events) (line ∷ lines) typed = ap (λ n. suc n) (length-AreLinesOf regions events lines typed.2)

-- the last of good lines behind the header asks for an event
last_event : (regions place : ℕ) (lines : List (List ℕ)) (line : List ℕ) → AreGoodLines regions (suc (suc (suc (suc place)))) (lines ++ line ∷ []) → IsEventLine regions line
last_event regions place [] line good = good.0
last_event regions place (first ∷ lines) line good = last_event regions (suc place) lines line good.1

-- a line that may follow is one for an event
next_event_line : (regions : ℕ) (lines : List (List ℕ)) (line : List ℕ) → regions ≤ MAX_REGIONS → BeginsScript ((header_lines regions ++ lines) ++ line ∷ []) → IsEventLine regions line
next_event_line regions lines line few begins =
    let second = begins.1.1.0 in
    let same = decimal_injective regions begins.0 (omega arith) (omega (arith, second.2)) (append_cancel_left (codes "regions ") (decimal regions) (decimal begins.0) second.0) in
    subst (λ n. IsEventLine n line) (sym same) (last_event begins.0 0 lines line begins.1.1.1.1.1)

bad_event : (regions : ℕ) (lines : List (List ℕ)) (rest : List ℕ) → regions ≤ MAX_REGIONS → rest ≢ [] → LacksWanted (IsEventLine regions) rest → LacksLine (header_lines regions ++ lines) rest ⊎ HasBadLine (header_lines regions ++ lines) rest
bad_event regions lines rest few some (inl one) = inl (inr (some, one))
bad_event regions lines rest few some (inr next) = inr (record {
  line = next.line;
  more = next.more;
  cut = next.cut;
  one = next.one;
  wrong = λ begins. next.other (next_event_line regions lines next.line few begins);
})

event_fault_line : (bytes text : List ℕ) (regions count number : ℕ) → HasHeader bytes regions text → number ≡ count + 5 → HasOther regions text count → IsFirstBad bytes number
event_fault_line bytes text regions count number header is other = record {
  before = header_lines regions ++ other.read.lines;
  rest = other.rest;
  cut = text_more bytes (header_lines regions) other.read.lines text other.rest header.cut other.read.cut;
  good = header_begins regions other.events other.read.lines header.some header.few other.read.typed;
  count = let lines = length-AreLinesOf regions other.events other.read.lines other.read.typed in omega (arith, is, other.counted, lines);
  bad = bad_event regions other.read.lines other.rest header.few other.more other.other;
}

pub event_fault : (bytes text : List ℕ) (regions : ℕ) (fault : ScriptFault) → length bytes ≤ SCRIPT_BYTES → HasHeader bytes regions text → (fault.kind ≡ NotBuilt) × ((count : ℕ) × (fault.line ≡ count + 5) × HasOther regions text count) → IsFault bytes fault
event_fault bytes text regions fault short header bad =
    inr (bad.0, short, event_fault_line bytes text regions bad.1.0 fault.line header bad.1.1 bad.1.2)

-- two scripts with equal fields are one
pub same_script : (one other : Script) → (one.regions ≡ other.regions) × (one.events ≡ other.events) → one ≡ other
same_script one other same =
    let regions : one ≡ record one { regions = other.regions } = ap (λ n. record one { regions = n }) same.0 in
    regions ∙ ap (λ es. record other { events = es }) same.1

-- an error that is no fault of the script is want of memory
pub only_memory : (script : Script) (r : Result Script ReadFault) (e : ReadFault) → r ≡ Err e → ((fault : ScriptFault) → e ≡ read_fault.Script fault → ⊥) → MatchResult r (λ found. found ≡ script) (λ e. e ≡ read_fault.NoMemory)
only_memory script (Ok found) e is none = absurd (cc)
only_memory script (Err read_fault.NoMemory) e is none = refl
only_memory script (Err (read_fault.Script fault)) e is none = absurd (none fault (cc))
