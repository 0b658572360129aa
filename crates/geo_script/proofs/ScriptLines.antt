-- A script is read of lines exactly where they are its lines.
use Rattle.std.proofs.Common.{◌≡◌, ℕ, zero, suc, ◌+◌, ◌&&◌, Bool, true, false, cond, List, [], ◌∷◌, ◌++◌, length, Ok, Err, nat_le, refl, sym, ap, ◌∙◌, subst, arith}
use Rattle.std.specs.Prelude.{codes, nat_lt}
use Rattle.std.specs.Fmt.{decimal}
use Rattle.std.specs.List.{list_all}
use Rattle.std.specs.Option.{ok_or}
use Rattle.std.specs.Str.{bytes_eq, is_utf8, IsAscii}
use Rattle.std.proofs.lemmas.Bool.{and_parts, leb-true, ltb-true, le-leb, false_from_ne_true}
use Rattle.std.proofs.lemmas.Slice.Eq.{bytes_eq-Decides}
use Rattle.std.proofs.lemmas.Str.{IsUtf8-from_is_utf8, is_utf8-from_IsUtf8, IsUtf8-from_ascii, IsAscii-append}
use Rattle.std.proofs.lemmas.Fmt.{IsAscii-decimal}
use Rattle.geo_base.specs.declared.limits.TheConstants.{MAX_REGIONS, SCRIPT_BYTES}
use Rattle.geo_base.specs.laws.Results.{bind_ok}
use Rattle.geo_schema.specs.declared.table.TableDef.{TableDef}
use Rattle.geo_schema.specs.Schemas.{shown_only}
use Rattle.geo_script.specs.declared.fault.ScriptKind.TheVariants.{NotUtf8, BadHeader, BadNumber, TooLong}
use Rattle.geo_script.specs.declared.script.EventAt.{EventAt}
use Rattle.geo_script.specs.declared.script.Form.{Form}
use Rattle.geo_script.specs.declared.script.Form.TheVariants.{Play, Run}
use Rattle.geo_script.specs.declared.script.Script.{Script}
use Rattle.geo_script.specs.inner.EventLines.{OfLine, number_or_bad, event_line}
use Rattle.geo_script.specs.Lines.{lines_of, spoken_from}
use Rattle.geo_script.specs.inner.Past.{RunPast, nothing_yet, next_past}
use Rattle.geo_script.specs.inner.Scripts.{bad, at, title_line, regions_word, regions_line, head_of, events_of, body_of, script_of_lines, script_of}
use Rattle.geo_script.specs.Spelling.{title, Declares, AreDeclared, AreEventLines, IsScript, IsScriptText}
use Rattle.geo_script.specs.inner.TableLines.{table_line}
use Rattle.geo_base.specs.Results.{◌>>=◌}
use Rattle.geo_script.specs.inner.Words.{cut}
use Rattle.geo_script.specs.Words.{is_word}
use Rattle.geo_script.proofs.Cuts.{cut_at, cut_parts}
use Rattle.geo_script.proofs.Decimals.{decimal_word, number_read}
use Rattle.geo_script.proofs.Declarations.{head_line_is, head_line_read, begin_declares_nothing}
use Rattle.geo_script.proofs.EventsRead.{line_read}
use Rattle.geo_script.proofs.EventsSpelled.{line_asks}
use Rattle.geo_script.proofs.PlayLines.{IsRegions, number_is}
use Rattle.schema_text.specs.laws.Inversions.{or_ok, if_ok, when_ok}
use Rattle.geo_script.proofs.Runs.{AreAdmitted, lawful_from, admitted_from}

pub at_ok : {A : Type 0} (line : ℕ) (r : OfLine A) (x : A) → at line r ≡ Ok x → r ≡ Ok x
at_ok line (Ok y) x is = cc
at_ok line (Err kind) x is = cc

-- ---- the head

-- the lines are those that make these tables, and then `begin` and more
pub record IsHead (tables : List TableDef) (lines : List (ℕ × List ℕ)) (all : List TableDef) (tails : List (ℕ × List ℕ)) : Type 0 where
  pub heads : List (ℕ × List ℕ)
  pub number : ℕ
  pub whole : lines ≡ heads ++ (number, codes "begin") ∷ tails
  pub declared : AreDeclared tables heads all

same_begin : (line : List ℕ) → bytes_eq line (codes "begin") ≡ true → line ≡ codes "begin"
same_begin line is = (bytes_eq-Decides line (codes "begin")).0 is

pub head_is : (after : ℕ) (tables : List TableDef) (lines : List (ℕ × List ℕ)) (head : List TableDef × List (ℕ × List ℕ)) → head_of after tables lines ≡ Ok head →
    IsHead tables lines head.0 head.1
head_is after tables [] head is = cc
head_is after tables (line ∷ lines) head is =
    by (bytes_eq line.1 (codes "begin")) refl is (λ more found. head_is after more lines head found)
  where
    by : (b : Bool) → bytes_eq line.1 (codes "begin") ≡ b →
        cond b (Ok (tables, lines)) (at line.0 (table_line tables line.1) >>= λ more. head_of after more lines) ≡ Ok head →
        ((more : List TableDef) → head_of after more lines ≡ Ok head → IsHead more lines head.0 head.1) → IsHead tables (line ∷ lines) head.0 head.1
    by true begins found later =
        let same : (tables, lines) ≡ head = cc in
        subst (λ (h : List TableDef × List (ℕ × List ℕ)). IsHead tables (line ∷ lines) h.0 h.1) same record {
          heads = [];
          number = line.0;
          whole = ap (λ l. (line.0, l) ∷ lines) (same_begin line.1 begins);
          declared = refl;
        }
    by false other found later =
        let first = bind_ok (at line.0 (table_line tables line.1)) _ head found in
        let here = head_line_is tables line.1 first.0 (at_ok line.0 (table_line tables line.1) first.0 first.1) in
        let rest = later first.0 first.2 in
        record {
          heads = line ∷ rest.heads;
          number = rest.number;
          whole = ap (λ ls. line ∷ ls) rest.whole;
          declared = (first.0, IsUtf8-from_is_utf8 line.1 here.utf8, here.declares, here.schema, rest.declared);
        }

pub no_begin : (tables more : List TableDef) (line : List ℕ) → Declares tables line more → bytes_eq line (codes "begin") ≡ false
no_begin tables more line declares =
    false_from_ne_true (bytes_eq line (codes "begin")) (λ is. begin_declares_nothing tables more (subst (λ l. Declares tables l more) (same_begin line is) declares))

pub head_read : (after number : ℕ) (tables all : List TableDef) (heads tails : List (ℕ × List ℕ)) → AreDeclared tables heads all →
    head_of after tables (heads ++ (number, codes "begin") ∷ tails) ≡ Ok (all, tails)
head_read after number tables all [] tails declared = ap (λ t. Ok (t, tails)) (sym declared)
head_read after number tables all (line ∷ heads) tails (more, utf8, declares, schema, rest) =
    let here : table_line tables line.1 ≡ Ok more =
    head_line_read tables line.1 more record { utf8 = is_utf8-from_IsUtf8 line.1 utf8; declares = declares; schema = schema } in
    rw (no_begin tables more line.1 declares) (rw here (head_read after number more all heads tails rest))

-- ---- the events

-- the lines are those of the events, each of which is admitted
pub record AreEvents (form : Form) (regions : ℕ) (past : RunPast) (lines : List (ℕ × List ℕ)) (events : List EventAt) : Type 0 where
  pub typed : AreEventLines form regions lines events
  pub admitted : AreAdmitted form past events

pub events_are : (form : Form) (regions : ℕ) → IsRegions regions → (past : RunPast) (lines : List (ℕ × List ℕ)) (events : List EventAt) →
    events_of form regions past lines ≡ Ok events → AreEvents form regions past lines events
events_are form regions lawful past [] [] is = record { typed = tt; admitted = tt }
events_are form regions lawful past [] (event ∷ events) is = cc
events_are form regions lawful past (line ∷ lines) events is =
    let first = bind_ok (at line.0 (event_line form regions past line.1)) _ events is in
    let here = line_asks form regions lawful past line.1 first.0 (at_ok line.0 (event_line form regions past line.1) first.0 first.1) in
    let later = bind_ok (events_of form regions (next_past form past first.0) lines) _ events first.2 in
    let rest = events_are form regions lawful (next_past form past first.0) lines later.0 later.1 in
    let one : EventAt = record { line = line.0; event = first.0 } in
    let same : one ∷ later.0 ≡ events = cc in
    subst (AreEvents form regions past (line ∷ lines)) same record {
      typed = (record { number = refl; utf8 = IsUtf8-from_is_utf8 line.1 here.utf8; typed = here.now.asks.typed; of_form = here.now.asks.of_form; within = here.now.asks.within }, rest.typed);
      admitted = (here.now.admitted, rest.admitted);
    }

pub events_read : (form : Form) (regions : ℕ) → IsRegions regions → (past : RunPast) (lines : List (ℕ × List ℕ)) (events : List EventAt) →
    AreEventLines form regions lines events → AreAdmitted form past events → events_of form regions past lines ≡ Ok events
events_read form regions lawful past [] [] typed admitted = refl
events_read form regions lawful past [] (event ∷ events) typed admitted = absurd typed
events_read form regions lawful past (line ∷ lines) [] typed admitted = absurd typed
events_read form regions lawful past (line ∷ lines) (event ∷ events) (here, rest) admitted =
    let read : event_line form regions past line.1 ≡ Ok event.event =
    line_read form regions lawful past line.1 event.event (is_utf8-from_IsUtf8 line.1 here.utf8) here.typed here.of_form here.within admitted.0 in
    rw read (rw (events_read form regions lawful (next_past form past event.event) lines events rest admitted.1)
    (ap (λ n. Ok (record { line = n; event = event.event } ∷ events)) (sym here.number)))

-- ---- the first two lines

ascii : (bytes : List ℕ) → list_all (λ b. nat_lt b 128) bytes ≡ true → IsAscii bytes
ascii [] all i = omega arith
ascii (b ∷ bytes) all zero = ltb-true b 128 (and_parts (nat_lt b 128) (list_all (λ x. nat_lt x 128) bytes) all).0
ascii (b ∷ bytes) all (suc i) = ascii bytes (and_parts (nat_lt b 128) (list_all (λ x. nat_lt x 128) bytes) all).1 i

title_utf8 : (form : Form) → is_utf8 (title form) ≡ true
title_utf8 Play = is_utf8-from_IsUtf8 (title Play) (IsUtf8-from_ascii (title Play) (ascii (title Play) refl))
title_utf8 Run = is_utf8-from_IsUtf8 (title Run) (IsUtf8-from_ascii (title Run) (ascii (title Run) refl))

pub title_is : (form : Form) (line : List ℕ) (x : Unit {0}) → title_line form line ≡ Ok x → line ≡ title form
unfolding title_line
title_is form line x is =
    let text = when_ok (is_utf8 line) _ x NotUtf8 is in
    let found = if_ok (bytes_eq line (title form)) tt x BadHeader text.1 in
    (bytes_eq-Decides line (title form)).0 found.0

pub title_read : (form : Form) → title_line form (title form) ≡ Ok tt
unfolding title_line
title_read form = rw (title_utf8 form) (rw ((bytes_eq-Decides (title form) (title form)).1 refl) refl)

-- the line says that there are so many regions
pub record IsRegionsLine (line : List ℕ) (regions : ℕ) : Type 0 where
  pub whole : line ≡ codes "regions " ++ decimal regions
  pub lawful : IsRegions regions

pub regions_is : (line : List ℕ) (regions : ℕ) → regions_line line ≡ Ok regions → IsRegionsLine line regions
unfolding regions_line regions_word
regions_is line regions is =
    let text = when_ok (is_utf8 line) _ regions NotUtf8 is in
    let word = bind_ok (ok_or (cut 32 line) BadHeader >>= λ parts. cond (bytes_eq parts.0 (codes "regions") && is_word parts.1) (Ok parts.1) (Err BadHeader)) (number_or_bad 1 MAX_REGIONS) regions text.1 in
    let parts = bind_ok (ok_or (cut 32 line) BadHeader) _ word.0 word.1 in
    let found = cut_parts 32 line parts.0 (or_ok (cut 32 line) BadHeader parts.0 parts.1) in
    let kept = if_ok (bytes_eq parts.0.0 (codes "regions") && is_word parts.0.1) parts.0.1 word.0 BadHeader parts.2 in
    let same : parts.0.0 ≡ codes "regions" = (bytes_eq-Decides parts.0.0 (codes "regions")).0 (and_parts (bytes_eq parts.0.0 (codes "regions")) (is_word parts.0.1) kept.0).0 in
    let number = number_is 1 MAX_REGIONS word.0 regions (omega arith) word.2 in
    record {
      whole = found.whole ∙ (ap (λ w. w ++ 32 ∷ parts.0.1) same ∙ ap (λ w. codes "regions " ++ w) (kept.1 ∙ number.spelled));
      lawful = record { some = number.low; few = number.high };
    }

regions_utf8 : (regions : ℕ) → IsRegions regions → is_utf8 (codes "regions " ++ decimal regions) ≡ true
regions_utf8 regions lawful =
    let line = codes "regions " ++ decimal regions in
    is_utf8-from_IsUtf8 line (IsUtf8-from_ascii line (IsAscii-append (codes "regions ") (decimal regions) (ascii (codes "regions ") refl) (IsAscii-decimal regions (omega (arith, lawful.few)))))

pub regions_read : (regions : ℕ) → IsRegions regions → regions_line (codes "regions " ++ decimal regions) ≡ Ok regions
unfolding regions_line regions_word
regions_read regions lawful =
    rw (regions_utf8 regions lawful) (rw (cut_at 32 (codes "regions") (decimal regions) refl) (rw (decimal_word regions (omega (arith, lawful.few)))
    (ap (λ o. ok_or o BadNumber) (number_read 1 MAX_REGIONS regions (omega arith) lawful.some lawful.few))))

-- ---- whole scripts

body_is : (form : Form) (regions : ℕ) (body : List (List ℕ)) (script : Script) → IsRegions regions → body_of form regions body ≡ Ok script →
    IsScript form (title form ∷ (codes "regions " ++ decimal regions) ∷ body) script
unfolding body_of
body_is form regions body script lawful is =
    let head = bind_ok (head_of (3 + length body) [] (spoken_from 3 body)) _ script is in
    let tables = head_is (3 + length body) [] (spoken_from 3 body) head.0 head.1 in
    let events = bind_ok (events_of form regions nothing_yet head.0.1) _ script head.2 in
    let lines = events_are form regions lawful nothing_yet head.0.1 events.0 events.1 in
    let made : Script = record { regions = regions; schema = shown_only head.0.0; events = events.0 } in
    let same : made ≡ script = cc in
    subst (IsScript form (title form ∷ (codes "regions " ++ decimal regions) ∷ body)) same record {
      body = body;
      heads = tables.heads;
      number = tables.number;
      tails = head.0.1;
      tables = head.0.0;
      cut = refl;
      some = lawful.some;
      few = lawful.few;
      begins = tables.whole;
      declared = tables.declared;
      schema = refl;
      events = lines.typed;
      lawful = lawful_from form events.0 lines.admitted;
    }

pub lines_are : (form : Form) (lines : List (List ℕ)) (script : Script) → script_of_lines form lines ≡ Ok script → IsScript form lines script
unfolding script_of_lines
lines_are form [] script is = cc
lines_are form (first ∷ []) script is = let one = bind_ok (at 1 (title_line form first)) _ script is in cc (one.2)
lines_are form (first ∷ second ∷ body) script is =
    let one = bind_ok (at 1 (title_line form first)) _ script is in
    let title = title_is form first one.0 (at_ok 1 (title_line form first) one.0 one.1) in
    let two = bind_ok (at 2 (regions_line second)) (λ regions. body_of form regions body) script one.2 in
    let regions = regions_is second two.0 (at_ok 2 (regions_line second) two.0 two.1) in
    let whole = body_is form two.0 body script regions.lawful two.2 in
    subst (λ ls. IsScript form ls script) (ap (λ l. l ∷ (codes "regions " ++ decimal two.0) ∷ body) (sym title) ∙ ap (λ l. first ∷ l ∷ body) (sym regions.whole)) whole

pub lines_read : (form : Form) (lines : List (List ℕ)) (script : Script) → IsScript form lines script → script_of_lines form lines ≡ Ok script
unfolding script_of_lines body_of
lines_read form lines script is =
    let lawful : IsRegions script.regions = record { some = is.some; few = is.few } in
    rw is.cut (rw (title_read form) (rw (regions_read script.regions lawful) (rw is.begins (rw (head_read (3 + length is.body) is.number [] is.tables is.heads is.tails is.declared)
    (rw (events_read form script.regions lawful nothing_yet is.tails script.events is.events (admitted_from form script.events is.lawful)) (rw is.schema refl))))))

pub script_is : (form : Form) (bytes : List ℕ) (script : Script) → script_of form bytes ≡ Ok script → IsScriptText form bytes script
unfolding script_of
script_is form bytes script is = by (nat_le (length bytes) SCRIPT_BYTES) refl is
  where
    by : (b : Bool) → nat_le (length bytes) SCRIPT_BYTES ≡ b → cond b (script_of_lines form (lines_of bytes)) (bad 0 TooLong) ≡ Ok script → IsScriptText form bytes script
    by true short found = record { short = leb-true (length bytes) SCRIPT_BYTES short; lines = lines_are form (lines_of bytes) script found }
    by false long found = cc

pub script_read : (form : Form) (bytes : List ℕ) (script : Script) → IsScriptText form bytes script → script_of form bytes ≡ Ok script
unfolding script_of
script_read form bytes script is = rw (le-leb (length bytes) SCRIPT_BYTES is.short) (lines_read form (lines_of bytes) script is.lines)
