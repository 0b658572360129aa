-- Where the reading of a head and of events stops.
use Rattle.std.proofs.Common.{◌≡◌, ◌≢◌, ℕ, Bool, true, false, cond, List, [], ◌∷◌, ◌++◌, Ok, Err, refl, sym, ap, ◌∙◌, inl, inr, ◌⊎◌}
use Rattle.std.specs.Prelude.{codes}
use Rattle.std.specs.Str.{bytes_eq}
use Rattle.std.proofs.lemmas.Bool.{false_from_ne_true, false≢true}
use Rattle.std.proofs.lemmas.Slice.Eq.{bytes_eq-Decides}
use Rattle.std.proofs.lemmas.Str.{IsUtf8-from_is_utf8, is_utf8-from_IsUtf8}
use Rattle.geo_schema.specs.declared.table.TableDef.{TableDef}
use Rattle.geo_script.specs.declared.event.Event.{Event}
use Rattle.geo_script.specs.declared.fault.ScriptFault.{ScriptFault}
use Rattle.geo_script.specs.declared.fault.ScriptKind.{ScriptKind}
use Rattle.geo_script.specs.declared.fault.ScriptKind.TheVariants.{MissingBegin}
use Rattle.geo_script.specs.declared.script.EventAt.{EventAt}
use Rattle.geo_script.specs.declared.script.Form.{Form}
use Rattle.geo_script.specs.inner.EventLines.{OfLine, event_line}
use Rattle.geo_script.specs.inner.Past.{RunPast, next_past, past_behind}
use Rattle.geo_script.specs.inner.Scripts.{Checked, bad, at, head_of, events_of}
use Rattle.geo_script.specs.Spelling.{AreDeclared, AreEventLines}
use Rattle.geo_script.specs.inner.TableLines.{table_line}
use Rattle.geo_base.specs.Results.{◌>>=◌}
use Rattle.geo_script.proofs.Declarations.{head_line_is, head_line_read}
use Rattle.geo_script.proofs.EventsRead.{line_read}
use Rattle.geo_script.proofs.EventsSpelled.{line_asks}
use Rattle.geo_script.proofs.PlayLines.{IsRegions}
use Rattle.geo_script.proofs.Runs.{AreAdmitted}
use Rattle.geo_script.proofs.ScriptLines.{no_begin as no_begin_line, AreEvents}

-- ---- faults of the head

-- the lines are read up to one that is wrong behind them
pub record StopsInHead (tables : List TableDef) (lines : List (ℕ × List ℕ)) (fault : ScriptFault) : Type 0 where
  pub good : List (ℕ × List ℕ)
  pub all : List TableDef
  pub here : ℕ × List ℕ
  pub rest : List (ℕ × List ℕ)
  pub cut : lines ≡ good ++ here ∷ rest
  pub declared : AreDeclared tables good all
  pub no_begin : here.1 ≢ codes "begin"
  pub wrong : table_line all here.1 ≡ Err fault.kind
  pub line : fault.line ≡ here.0

-- all lines declare, and none ends the head
pub record LacksBegin (after : ℕ) (tables : List TableDef) (lines : List (ℕ × List ℕ)) (fault : ScriptFault) : Type 0 where
  pub all : List TableDef
  pub declared : AreDeclared tables lines all
  pub line : fault.line ≡ after
  pub kind : fault.kind ≡ MissingBegin

pub head_stops : (after : ℕ) (tables : List TableDef) (lines : List (ℕ × List ℕ)) (fault : ScriptFault) → head_of after tables lines ≡ Err fault →
    LacksBegin after tables lines fault ⊎ StopsInHead tables lines fault
head_stops after tables [] fault is =
    let same : record { line = after; kind = MissingBegin } ≡ fault = cc in
    inl record { all = tables; declared = refl; line = ap (λ (f : ScriptFault). f.line) (sym same); kind = ap (λ (f : ScriptFault). f.kind) (sym same) }
head_stops after tables (line ∷ lines) fault is =
    by (bytes_eq line.1 (codes "begin")) refl is (table_line tables line.1) refl (λ more found. head_stops after more lines fault found)
  where
    onto : (more : List TableDef) → table_line tables line.1 ≡ Ok more → (LacksBegin after more lines fault ⊎ StopsInHead more lines fault) →
        LacksBegin after tables (line ∷ lines) fault ⊎ StopsInHead tables (line ∷ lines) fault
    onto more read (inl lacks) =
        let here = head_line_is tables line.1 more read in
        inl record { all = lacks.all; declared = (more, IsUtf8-from_is_utf8 line.1 here.utf8, here.declares, here.schema, lacks.declared); line = lacks.line; kind = lacks.kind }
    onto more read (inr stops) =
        let here = head_line_is tables line.1 more read in
        inr record {
          good = line ∷ stops.good;
          all = stops.all;
          here = stops.here;
          rest = stops.rest;
          cut = ap (λ ls. line ∷ ls) stops.cut;
          declared = (more, IsUtf8-from_is_utf8 line.1 here.utf8, here.declares, here.schema, stops.declared);
          no_begin = stops.no_begin;
          wrong = stops.wrong;
          line = stops.line;
        }

    by : (b : Bool) → bytes_eq line.1 (codes "begin") ≡ b →
        cond b (Ok (tables, lines)) (at line.0 (table_line tables line.1) >>= λ more. head_of after more lines) ≡ Err fault →
        (r : OfLine (List TableDef)) → table_line tables line.1 ≡ r →
        ((more : List TableDef) → head_of after more lines ≡ Err fault → LacksBegin after more lines fault ⊎ StopsInHead more lines fault) →
        LacksBegin after tables (line ∷ lines) fault ⊎ StopsInHead tables (line ∷ lines) fault
    by true begins found r read later = cc
    by false other found (Ok more) read later = onto more read (later more (ap (λ r. at line.0 r >>= λ t. head_of after t lines) (sym read) ∙ found))
    by false other found (Err kind) read later =
        let same : record { line = line.0; kind = kind } ≡ fault = cc (ap (λ r. at line.0 r >>= λ t. head_of after t lines) (sym read) ∙ found) in
        inr record {
          good = [];
          all = tables;
          here = line;
          rest = lines;
          cut = refl;
          declared = refl;
          no_begin = λ begin. false≢true (sym other ∙ (bytes_eq-Decides line.1 (codes "begin")).1 begin);
          wrong = read ∙ ap (λ (f : ScriptFault). Err f.kind) same;
          line = ap (λ (f : ScriptFault). f.line) (sym same);
        }

-- a line that is wrong behind lines that declare is where the head stops
pub head_wrong : (after number : ℕ) (tables all : List TableDef) (good : List (ℕ × List ℕ)) (line : List ℕ) (rest : List (ℕ × List ℕ)) (kind : ScriptKind) → AreDeclared tables good all →
    line ≢ codes "begin" → table_line all line ≡ Err kind → head_of after tables (good ++ (number, line) ∷ rest) ≡ bad number kind
head_wrong after number tables all [] line rest kind declared no_begin wrong =
    let other : bytes_eq line (codes "begin") ≡ false = false_from_ne_true (bytes_eq line (codes "begin")) (λ is. no_begin ((bytes_eq-Decides line (codes "begin")).0 is)) in
    rw other (rw (ap (λ t. table_line t line) (sym declared) ∙ wrong) refl)
head_wrong after number tables all (first ∷ good) line rest kind (more, utf8, declares, schema, later) no_begin wrong =
    rw (no_begin_here, read_here) (head_wrong after number more all good line rest kind later no_begin wrong)
  where
    no_begin_here : bytes_eq first.1 (codes "begin") ≡ false
    no_begin_here = no_begin_line tables more first.1 declares

    read_here : table_line tables first.1 ≡ Ok more
    read_here = head_line_read tables first.1 more record { utf8 = is_utf8-from_IsUtf8 first.1 utf8; declares = declares; schema = schema }

-- ---- faults of events

-- the events of these lines are read, and the next line is wrong behind them
pub record StopsInEvents (form : Form) (regions : ℕ) (past : RunPast) (lines : List (ℕ × List ℕ)) (fault : ScriptFault) : Type 0 where
  pub good : List (ℕ × List ℕ)
  pub events : List EventAt
  pub here : ℕ × List ℕ
  pub rest : List (ℕ × List ℕ)
  pub cut : lines ≡ good ++ here ∷ rest
  pub are : AreEvents form regions past good events
  pub wrong : event_line form regions (past_behind form past events) here.1 ≡ Err fault.kind
  pub line : fault.line ≡ here.0

pub events_stop : (form : Form) (regions : ℕ) → IsRegions regions → (past : RunPast) (lines : List (ℕ × List ℕ)) (fault : ScriptFault) → events_of form regions past lines ≡ Err fault →
    StopsInEvents form regions past lines fault
events_stop form regions lawful past [] fault is = cc
events_stop form regions lawful past (line ∷ lines) fault is =
    by (event_line form regions past line.1) refl is (λ event found. events_stop form regions lawful (next_past form past event) lines fault found)
  where
    onto : (event : Event) → event_line form regions past line.1 ≡ Ok event → StopsInEvents form regions (next_past form past event) lines fault → StopsInEvents form regions past (line ∷ lines) fault
    onto event read stops =
        let here = line_asks form regions lawful past line.1 event read in
        record {
          good = line ∷ stops.good;
          events = record { line = line.0; event = event } ∷ stops.events;
          here = stops.here;
          rest = stops.rest;
          cut = ap (λ ls. line ∷ ls) stops.cut;
          are = record {
            typed = (record { number = refl; utf8 = IsUtf8-from_is_utf8 line.1 here.utf8; typed = here.now.asks.typed; of_form = here.now.asks.of_form; within = here.now.asks.within }, stops.are.typed);
            admitted = (here.now.admitted, stops.are.admitted);
          };
          wrong = stops.wrong;
          line = stops.line;
        }

    later_err : (one : EventAt) (more : Checked (List EventAt)) → (more >>= λ events. Ok (one ∷ events)) ≡ Err fault → more ≡ Err fault
    later_err one (Ok events) found = cc
    later_err one (Err other) found = cc

    by : (r : OfLine Event) → event_line form regions past line.1 ≡ r →
        (at line.0 r >>= λ event. (events_of form regions (next_past form past event) lines >>= λ events. Ok (record { line = line.0; event = event } ∷ events))) ≡ Err fault →
        ((event : Event) → events_of form regions (next_past form past event) lines ≡ Err fault → StopsInEvents form regions (next_past form past event) lines fault) →
        StopsInEvents form regions past (line ∷ lines) fault
    by (Ok event) read found later =
        onto event read (later event (later_err (record { line = line.0; event = event }) (events_of form regions (next_past form past event) lines) found))
    by (Err kind) read found later =
        let same : record { line = line.0; kind = kind } ≡ fault = cc in
        record {
          good = [];
          events = [];
          here = line;
          rest = lines;
          cut = refl;
          are = record { typed = tt; admitted = tt };
          wrong = read ∙ ap (λ (f : ScriptFault). Err f.kind) same;
          line = ap (λ (f : ScriptFault). f.line) (sym same);
        }

-- a line that is wrong behind the lines of events is where they stop
pub events_wrong : (form : Form) (regions : ℕ) → IsRegions regions → (past : RunPast) (good : List (ℕ × List ℕ)) (events : List EventAt) (number : ℕ) (line : List ℕ) (rest : List (ℕ × List ℕ))
    (kind : ScriptKind) → AreEventLines form regions good events → AreAdmitted form past events → event_line form regions (past_behind form past events) line ≡ Err kind →
    events_of form regions past (good ++ (number, line) ∷ rest) ≡ bad number kind
events_wrong form regions lawful past [] [] number line rest kind typed admitted wrong = rw wrong refl
events_wrong form regions lawful past [] (event ∷ events) number line rest kind typed admitted wrong = absurd typed
events_wrong form regions lawful past (first ∷ good) [] number line rest kind typed admitted wrong = absurd typed
events_wrong form regions lawful past (first ∷ good) (event ∷ events) number line rest kind (here, typed) (now, admitted) wrong =
    let read : event_line form regions past first.1 ≡ Ok event.event =
    line_read form regions lawful past first.1 event.event (is_utf8-from_IsUtf8 first.1 here.utf8) here.typed here.of_form here.within now in
    rw read (rw (events_wrong form regions lawful (next_past form past event.event) good events number line rest kind typed admitted wrong) refl)
