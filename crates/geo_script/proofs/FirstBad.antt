-- The first bad line of lines that are no script.
use Rattle.std.proofs.Common.{◌≡◌, ℕ, ◌+◌, Bool, true, false, cond, List, [], ◌∷◌, ◌++◌, length, Ok, Err, nat_le, refl, sym, ap, ◌∙◌, subst, arith, inl, inr, ◌⊎◌}
use Rattle.std.specs.Prelude.{codes}
use Rattle.std.specs.Fmt.{decimal}
use Rattle.std.proofs.lemmas.Bool.{leb-true, leb-false, le-leb, lt-leb}
use Rattle.std.proofs.lemmas.List.{append-nil, append_assoc}
use Rattle.geo_base.specs.declared.limits.TheConstants.{SCRIPT_BYTES}
use Rattle.geo_schema.specs.declared.table.TableDef.{TableDef}
use Rattle.geo_schema.specs.Schemas.{shown_only}
use Rattle.geo_script.specs.declared.fault.ScriptFault.{ScriptFault}
use Rattle.geo_script.specs.declared.fault.ScriptKind.{ScriptKind}
use Rattle.geo_script.specs.declared.fault.ScriptKind.TheVariants.{BadHeader, TooLong}
use Rattle.geo_script.specs.declared.script.EventAt.{EventAt}
use Rattle.geo_script.specs.declared.script.Form.{Form}
use Rattle.geo_script.specs.declared.script.Script.{Script}
use Rattle.geo_script.specs.inner.EventLines.{OfLine}
use Rattle.geo_script.specs.Faults.{BeginsScript, IsWrongHead, IsWrongEvent, IsWrong, lacking, LacksLine, HasBadLine, IsFault}
use Rattle.geo_script.specs.Lines.{lines_of, is_silent, spoken_from}
use Rattle.geo_script.specs.inner.Past.{nothing_yet}
use Rattle.geo_script.specs.inner.Scripts.{Checked, bad, at, title_line, regions_line, head_of, events_of, body_of, script_of_lines, script_of}
use Rattle.geo_script.specs.Spelling.{title, AreDeclared, AreEventLines, IsLawful, IsScript}
use Rattle.geo_base.specs.Results.{◌>>=◌}
use Rattle.geo_script.proofs.PlayLines.{IsRegions}
use Rattle.geo_script.proofs.Runs.{lawful_from, admitted_from}
use Rattle.geo_script.proofs.SoFar.{so_far}
use Rattle.geo_script.proofs.WrongDeclarations.{declaration_wrong, declaration_stops}
use Rattle.geo_script.proofs.WrongHeads.{title_wrong, title_stops, count_wrong, count_stops}
use Rattle.geo_script.proofs.WrongLines.{line_wrong, line_stops}
use Rattle.geo_script.proofs.ScriptLines.{IsHead, head_is, head_read, title_is, title_read, regions_is, regions_read, lines_are, lines_read}
use Rattle.geo_script.proofs.SpokenLines.{spoken_at, spoken_cut}
use Rattle.geo_script.proofs.Stops.{StopsInHead, LacksBegin, head_stops, head_wrong, StopsInEvents, events_stop, events_wrong}

-- ---- lines that begin a script

begin_speaks : is_silent (codes "begin") ≡ false
unfolding is_silent
begin_speaks = refl

nothing_lawful : (form : Form) → IsLawful form []
nothing_lawful form = lawful_from form [] tt

-- lines that declare tables, with a head before them, and `begin` behind them, are a script without events
head_begins : (form : Form) (regions : ℕ) (body : List (List ℕ)) (tables : List TableDef) → IsRegions regions → AreDeclared [] (spoken_from 3 body) tables →
    BeginsScript form (title form ∷ (codes "regions " ++ decimal regions) ∷ body)
head_begins form regions body tables lawful declared =
    let script : Script = record { regions = regions; schema = shown_only tables; events = [] } in (
      codes "begin" ∷ [],
      script,
      record {
        body = body ++ codes "begin" ∷ [];
        heads = spoken_from 3 body;
        number = 3 + length body;
        tails = [];
        tables = tables;
        cut = refl;
        some = lawful.some;
        few = lawful.few;
        begins = spoken_at 3 body (codes "begin") [] begin_speaks;
        declared = declared;
        schema = refl;
        events = tt;
        lawful = nothing_lawful form;
      },
    )

one_region : IsRegions 1
one_region = record { some = omega arith; few = omega arith }

-- what begins a script goes on beginning one with fewer lines
fewer_begin : (form : Form) (front back : List (List ℕ)) → BeginsScript form (front ++ back) → BeginsScript form front
fewer_begin form front back (more, script, is) = (back ++ more, script, subst (λ ls. IsScript form ls script) (append_assoc front back more) is)

nothing_begins : (form : Form) → BeginsScript form []
nothing_begins form = fewer_begin form [] (title form ∷ (codes "regions " ++ decimal 1) ∷ []) (head_begins form 1 [] [] one_region refl)

title_begins : (form : Form) (line : List ℕ) → line ≡ title form → BeginsScript form (line ∷ [])
title_begins form line is =
    subst (λ l. BeginsScript form (l ∷ [])) (sym is)
    (fewer_begin form (title form ∷ []) ((codes "regions " ++ decimal 1) ∷ []) (head_begins form 1 [] [] one_region refl))

-- the lines of a head and of events are a script
events_begin : (form : Form) (regions number : ℕ) (body : List (List ℕ)) (heads tails : List (ℕ × List ℕ)) (tables : List TableDef) (events : List EventAt) → IsRegions regions →
    spoken_from 3 body ≡ heads ++ (number, codes "begin") ∷ tails → AreDeclared [] heads tables → AreEventLines form regions tails events → IsLawful form events →
    BeginsScript form (title form ∷ (codes "regions " ++ decimal regions) ∷ body)
events_begin form regions number body heads tails tables events lawful begins declared typed may =
    let script : Script = record { regions = regions; schema = shown_only tables; events = events } in
    let lines : List (List ℕ) = title form ∷ (codes "regions " ++ decimal regions) ∷ body in
    let is : IsScript form lines script = record {
      body = body;
      heads = heads;
      number = number;
      tails = tails;
      tables = tables;
      cut = refl;
      some = lawful.some;
      few = lawful.few;
      begins = begins;
      declared = declared;
      schema = refl;
      events = typed;
      lawful = may;
    } in
    ([], script, subst (λ ls. IsScript form ls script) (sym (append-nil lines)) is)

-- ---- what is wrong is what is read

-- the first two lines of lines that begin a script
record HasHeader (form : Form) (first second : List ℕ) : Type 0 where
  regions : ℕ
  title : first ≡ title form
  count : second ≡ codes "regions " ++ decimal regions
  lawful : IsRegions regions

header_of : (form : Form) (first second : List ℕ) (body : List (List ℕ)) → BeginsScript form (first ∷ second ∷ body) → HasHeader form first second
header_of form first second body (more, script, is) = record {
  regions = script.regions;
  title = cc (is.cut);
  count = cc (is.cut);
  lawful = record { some = is.some; few = is.few };
}

title_of : (form : Form) (first : List ℕ) → BeginsScript form (first ∷ []) → first ≡ title form
title_of form first (more, script, is) = cc (is.cut)

wrong_head : (form : Form) (first second : List ℕ) (body : List (List ℕ)) (line : List ℕ) (more : List (List ℕ)) (kind : ScriptKind) → HasHeader form first second → IsWrongHead body line kind →
    script_of_lines form (first ∷ second ∷ (body ++ line ∷ more)) ≡ bad (3 + length body) kind
unfolding script_of_lines body_of
wrong_head form first second body line more kind header wrong =
    rw (header.title, header.count) (rw (title_read form) (rw (regions_read header.regions header.lawful) (rw (spoken_at 3 body line more wrong.speaks)
    (rw (head_wrong (3 + length (body ++ line ∷ more)) (3 + length body) [] wrong.tables (spoken_from 3 body) line (spoken_from (3 + length body + 1) more) kind wrong.declared wrong.no_begin
    (declaration_stops wrong.tables line kind wrong.wrong)) refl))))

wrong_event : (form : Form) (first second : List ℕ) (body : List (List ℕ)) (line : List ℕ) (more : List (List ℕ)) (kind : ScriptKind) → first ≡ title form → IsWrongEvent form second body line kind →
    script_of_lines form (first ∷ second ∷ (body ++ line ∷ more)) ≡ bad (3 + length body) kind
unfolding script_of_lines body_of
wrong_event form first second body line more kind title wrong =
    let lawful : IsRegions wrong.regions = record { some = wrong.some; few = wrong.few } in
    let later : List (ℕ × List ℕ) = (3 + length body, line) ∷ spoken_from (3 + length body + 1) more in
    let spoken : spoken_from 3 (body ++ line ∷ more) ≡ wrong.heads ++ (wrong.number, codes "begin") ∷ (wrong.tails ++ later) =
    spoken_at 3 body line more wrong.speaks ∙ (ap (λ ls. ls ++ later) wrong.begins ∙ append_assoc wrong.heads ((wrong.number, codes "begin") ∷ wrong.tails) later) in
    let after = 3 + length (body ++ line ∷ more) in
    rw (title, wrong.count) (rw (title_read form) (rw (regions_read wrong.regions lawful) (rw spoken
    (rw (head_read after wrong.number [] wrong.tables wrong.heads (wrong.tails ++ later) wrong.declared)
    (rw (events_wrong form wrong.regions lawful nothing_yet wrong.tails wrong.events (3 + length body) line (spoken_from (3 + length body + 1) more) kind
    wrong.typed (admitted_from form wrong.events wrong.lawful)
    (line_stops form wrong.regions lawful (so_far form wrong.events wrong.lawful) line kind wrong.wrong)) refl)))))

wrong_title : (form : Form) (line : List ℕ) (more : List (List ℕ)) (kind : ScriptKind) → title_line form line ≡ Err kind → script_of_lines form (line ∷ more) ≡ bad 1 kind
unfolding script_of_lines
wrong_title form line [] kind is = rw is refl
wrong_title form line (second ∷ more) kind is = rw is refl

wrong_count : (form : Form) (first line : List ℕ) (more : List (List ℕ)) (kind : ScriptKind) → first ≡ title form → regions_line line ≡ Err kind →
    script_of_lines form (first ∷ line ∷ more) ≡ bad 2 kind
unfolding script_of_lines
wrong_count form first line more kind title is = rw title (rw (title_read form) (rw is refl))

-- a line that is wrong behind lines that begin a script is where it stops, whatever stands behind it
pub wrong_stops : (form : Form) (before : List (List ℕ)) (line : List ℕ) (more : List (List ℕ)) (kind : ScriptKind) → BeginsScript form before → IsWrong form before line kind →
    script_of_lines form (before ++ line ∷ more) ≡ bad (length before + 1) kind
wrong_stops form [] line more kind begins wrong = wrong_title form line more kind (title_stops form line kind wrong)
wrong_stops form (first ∷ []) line more kind begins wrong = wrong_count form first line more kind (title_of form first begins) (count_stops line kind wrong)
wrong_stops form (first ∷ second ∷ body) line more kind begins (inl wrong) =
    let n : 3 + length body ≡ length (first ∷ second ∷ body) + 1 = omega arith in
    wrong_head form first second body line more kind (header_of form first second body begins) wrong ∙ ap (λ k. bad k kind) n
wrong_stops form (first ∷ second ∷ body) line more kind begins (inr wrong) =
    let n : 3 + length body ≡ length (first ∷ second ∷ body) + 1 = omega arith in
    wrong_event form first second body line more kind (header_of form first second body begins).title wrong ∙ ap (λ k. bad k kind) n

-- with such a line the lines begin no script
ends_there : (form : Form) (before : List (List ℕ)) (line : List ℕ) (kind : ScriptKind) → BeginsScript form before → IsWrong form before line kind → BeginsScript form (before ++ line ∷ []) → ⊥
ends_there form before line kind begins wrong (more, script, is) =
    let read = lines_read form ((before ++ line ∷ []) ++ more) script is in
    let stops = wrong_stops form before line more kind begins wrong in
    cc (ap (script_of_lines form) (append_assoc before (line ∷ []) more))

-- ---- the first bad line of lines that are read as none

bad_line : (form : Form) (lines before : List (List ℕ)) (line : List ℕ) (more : List (List ℕ)) (fault : ScriptFault) → lines ≡ before ++ line ∷ more → BeginsScript form before →
    fault.line ≡ length before + 1 → IsWrong form before line fault.kind → HasBadLine form lines fault
bad_line form lines before line more fault cut begins number wrong = record {
  before = before;
  line = line;
  more = more;
  cut = cut;
  begins = begins;
  ends = ends_there form before line fault.kind begins wrong;
  number = number;
  wrong = wrong;
}

lacks_line : (form : Form) (lines : List (List ℕ)) (fault : ScriptFault) → script_of_lines form lines ≡ Err fault → BeginsScript form lines → fault.line ≡ length lines + 1 →
    fault.kind ≡ lacking lines → LacksLine form lines fault
lacks_line form lines fault is begins number kind = record {
  begins = begins;
  none = λ script are. no_both (lines_read form lines script are);
  line = number;
  kind = kind;
}
  where
    no_both : {script : Script} → script_of_lines form lines ≡ Ok script → ⊥
    no_both read = cc

-- the first bad line, if it is one
abbrev pub IsFirstBad : Form → List (List ℕ) → ScriptFault → Type 0
IsFirstBad form lines fault = LacksLine form lines fault ⊎ HasBadLine form lines fault

with_header : (form : Form) (first second : List ℕ) (body : List (List ℕ)) (regions : ℕ) → first ≡ title form → second ≡ codes "regions " ++ decimal regions →
    BeginsScript form (title form ∷ (codes "regions " ++ decimal regions) ∷ body) → BeginsScript form (first ∷ second ∷ body)
with_header form first second body regions title count begins =
    subst (BeginsScript form) (ap (λ l. l ∷ (codes "regions " ++ decimal regions) ∷ body) (sym title) ∙ ap (λ l. first ∷ l ∷ body) (sym count)) begins

in_head : (form : Form) (first second : List ℕ) (body : List (List ℕ)) (fault : ScriptFault) (regions : ℕ) → first ≡ title form → second ≡ codes "regions " ++ decimal regions → IsRegions regions →
    StopsInHead [] (spoken_from 3 body) fault → HasBadLine form (first ∷ second ∷ body) fault
in_head form first second body fault regions title count lawful stops =
    let here = spoken_cut 3 body stops.good stops.here stops.rest stops.cut in
    let declared : AreDeclared [] (spoken_from 3 here.front) stops.all = subst (λ ls. AreDeclared [] ls stops.all) (sym here.before) stops.declared in
    bad_line form (first ∷ second ∷ body) (first ∷ second ∷ here.front) stops.here.1 here.more fault (ap (λ ls. first ∷ second ∷ ls) here.cut)
    (with_header form first second here.front regions title count (head_begins form regions here.front stops.all lawful declared))
    (stops.line ∙ (here.place ∙ omega arith))
    (inl record { tables = stops.all; declared = declared; speaks = here.speaks; no_begin = stops.no_begin; wrong = declaration_wrong stops.all stops.here.1 fault.kind stops.wrong })

in_events : (form : Form) (first second : List ℕ) (body : List (List ℕ)) (fault : ScriptFault) (regions : ℕ) (tables : List TableDef) (tails : List (ℕ × List ℕ)) → first ≡ title form →
    second ≡ codes "regions " ++ decimal regions → IsRegions regions → IsHead [] (spoken_from 3 body) tables tails → StopsInEvents form regions nothing_yet tails fault →
    HasBadLine form (first ∷ second ∷ body) fault
in_events form first second body fault regions tables tails title count lawful head stops =
    let good : List (ℕ × List ℕ) = head.heads ++ (head.number, codes "begin") ∷ stops.good in
    let cut : spoken_from 3 body ≡ good ++ stops.here ∷ stops.rest =
    head.whole ∙ (ap (λ ls. head.heads ++ (head.number, codes "begin") ∷ ls) stops.cut ∙ sym (append_assoc head.heads ((head.number, codes "begin") ∷ stops.good) (stops.here ∷ stops.rest))) in
    let here = spoken_cut 3 body good stops.here stops.rest cut in
    let may = lawful_from form stops.events stops.are.admitted in
    bad_line form (first ∷ second ∷ body) (first ∷ second ∷ here.front) stops.here.1 here.more fault (ap (λ ls. first ∷ second ∷ ls) here.cut)
    (with_header form first second here.front regions title count
    (events_begin form regions head.number here.front head.heads stops.good tables stops.events lawful here.before head.declared stops.are.typed may))
    (stops.line ∙ (here.place ∙ omega arith))
    (inr record {
      regions = regions;
      heads = head.heads;
      number = head.number;
      tails = stops.good;
      tables = tables;
      events = stops.events;
      count = count;
      some = lawful.some;
      few = lawful.few;
      begins = here.before;
      declared = head.declared;
      typed = stops.are.typed;
      lawful = may;
      speaks = here.speaks;
      wrong = line_wrong form regions lawful (so_far form stops.events may) stops.here.1 fault.kind stops.wrong;
    })

-- the script of a head and events
abbrev script_with : ℕ → List TableDef → List EventAt → Script
script_with regions tables events = record { regions = regions; schema = shown_only tables; events = events }

in_body : (form : Form) (first second : List ℕ) (body : List (List ℕ)) (fault : ScriptFault) (regions : ℕ) → first ≡ title form → second ≡ codes "regions " ++ decimal regions → IsRegions regions →
    script_of_lines form (first ∷ second ∷ body) ≡ Err fault → body_of form regions body ≡ Err fault → IsFirstBad form (first ∷ second ∷ body) fault
unfolding body_of
in_body form first second body fault regions title count lawful whole is =
    by (head_of (3 + length body) [] (spoken_from 3 body)) refl is
  where
    made_err : (head : List TableDef) (more : Checked (List EventAt)) → (more >>= λ events. Ok (script_with regions head events)) ≡ Err fault → more ≡ Err fault
    made_err head (Ok events) found = cc
    made_err head (Err other) found = cc

    stops : (LacksBegin (3 + length body) [] (spoken_from 3 body) fault ⊎ StopsInHead [] (spoken_from 3 body) fault) → IsFirstBad form (first ∷ second ∷ body) fault
    stops (inl lacks) =
        inl (lacks_line form (first ∷ second ∷ body) fault whole
        (with_header form first second body regions title count (head_begins form regions body lacks.all lawful lacks.declared)) (lacks.line ∙ omega arith) lacks.kind)
    stops (inr found) = inr (in_head form first second body fault regions title count lawful found)

    by : (r : Checked (List TableDef × List (ℕ × List ℕ))) → head_of (3 + length body) [] (spoken_from 3 body) ≡ r →
        (r >>= λ head. (events_of form regions nothing_yet head.1 >>= λ events. Ok (script_with regions head.0 events))) ≡ Err fault →
        IsFirstBad form (first ∷ second ∷ body) fault
    by (Ok head) read found =
        inr (in_events form first second body fault regions head.0 head.1 title count lawful (head_is (3 + length body) [] (spoken_from 3 body) head read)
        (events_stop form regions lawful nothing_yet head.1 fault (made_err head.0 (events_of form regions nothing_yet head.1) found)))
    by (Err other) read found = let same : other ≡ fault = cc in stops (head_stops (3 + length body) [] (spoken_from 3 body) fault (read ∙ ap Err same))

first_bad : (form : Form) (lines : List (List ℕ)) (fault : ScriptFault) → script_of_lines form lines ≡ Err fault → IsFirstBad form lines fault
unfolding script_of_lines
first_bad form [] fault is =
    let same : record { line = 1; kind = BadHeader } ≡ fault = cc in
    inl (lacks_line form [] fault is (nothing_begins form) (ap (λ (f : ScriptFault). f.line) (sym same)) (ap (λ (f : ScriptFault). f.kind) (sym same)))
first_bad form (first ∷ []) fault is = by (title_line form first) refl is
  where
    by : (r : OfLine (Unit {0})) → title_line form first ≡ r → (at 1 r >>= λ _. bad {A = Script} 2 BadHeader) ≡ Err fault → IsFirstBad form (first ∷ []) fault
    by (Ok x) read found =
        let same : record { line = 2; kind = BadHeader } ≡ fault = cc in
        inl (lacks_line form (first ∷ []) fault is (title_begins form first (title_is form first x read)) (ap (λ (f : ScriptFault). f.line) (sym same)) (ap (λ (f : ScriptFault). f.kind) (sym same)))
    by (Err kind) read found =
        let same : record { line = 1; kind = kind } ≡ fault = cc in
        inr (bad_line form (first ∷ []) [] first [] fault refl (nothing_begins form) (ap (λ (f : ScriptFault). f.line) (sym same)) (title_wrong form first fault.kind (read ∙ ap (λ (f : ScriptFault). Err f.kind) same)))
first_bad form (first ∷ second ∷ body) fault is = by (title_line form first) refl is
  where
    count : first ≡ title form → (r : OfLine ℕ) → regions_line second ≡ r → (at 2 r >>= λ regions. body_of form regions body) ≡ Err fault → IsFirstBad form (first ∷ second ∷ body) fault
    count title (Ok regions) read found =
        let line = regions_is second regions read in in_body form first second body fault regions title line.whole line.lawful is found
    count title (Err kind) read found =
        let same : record { line = 2; kind = kind } ≡ fault = cc in
        inr (bad_line form (first ∷ second ∷ body) (first ∷ []) second body fault refl (title_begins form first title) (ap (λ (f : ScriptFault). f.line) (sym same))
        (count_wrong second fault.kind (read ∙ ap (λ (f : ScriptFault). Err f.kind) same)))

    by : (r : OfLine (Unit {0})) → title_line form first ≡ r → (at 1 r >>= λ _. (at 2 (regions_line second) >>= λ regions. body_of form regions body)) ≡ Err fault → IsFirstBad form (first ∷ second ∷ body) fault
    by (Ok x) read found = count (title_is form first x read) (regions_line second) refl found
    by (Err kind) read found =
        let same : record { line = 1; kind = kind } ≡ fault = cc in
        inr (bad_line form (first ∷ second ∷ body) [] first (second ∷ body) fault refl (nothing_begins form) (ap (λ (f : ScriptFault). f.line) (sym same))
        (title_wrong form first fault.kind (read ∙ ap (λ (f : ScriptFault). Err f.kind) same)))

-- ---- and back

fault_same : (a b : ScriptFault) → a.line ≡ b.line → a.kind ≡ b.kind → a ≡ b
fault_same a b line kind = ap (λ n. record { line = n; kind = a.kind }) line ∙ ap (λ k. record { line = b.line; kind = k }) kind

lines_lack : (form : Form) (lines : List (List ℕ)) (fault : ScriptFault) → LacksLine form lines fault → script_of_lines form lines ≡ Err fault
lines_lack form lines fault lacks = by (script_of_lines form lines) refl
  where
    same : (other : ScriptFault) → IsFirstBad form lines other → other ≡ fault
    same other (inl also) = fault_same other fault (also.line ∙ sym lacks.line) (also.kind ∙ sym lacks.kind)
    same other (inr wrong) =
        absurd (wrong.ends (fewer_begin form (wrong.before ++ wrong.line ∷ []) wrong.more
        (subst (BeginsScript form) (wrong.cut ∙ sym (append_assoc wrong.before (wrong.line ∷ []) wrong.more)) lacks.begins)))

    by : (r : Checked Script) → script_of_lines form lines ≡ r → r ≡ Err fault
    by (Ok script) read = absurd (lacks.none script (lines_are form lines script read))
    by (Err other) read = ap Err (same other (first_bad form lines other read))

lines_stop : (form : Form) (lines : List (List ℕ)) (fault : ScriptFault) → HasBadLine form lines fault → script_of_lines form lines ≡ Err fault
lines_stop form lines fault bad' =
    ap (script_of_lines form) bad'.cut
    ∙ (wrong_stops form bad'.before bad'.line bad'.more fault.kind bad'.begins bad'.wrong
    ∙ ap Err (fault_same (record { line = length bad'.before + 1; kind = fault.kind }) fault (sym bad'.number) refl))

pub fault_is : (form : Form) (bytes : List ℕ) (fault : ScriptFault) → script_of form bytes ≡ Err fault → IsFault form bytes fault
unfolding script_of
fault_is form bytes fault is = by (nat_le (length bytes) SCRIPT_BYTES) refl is
  where
    by : (b : Bool) → nat_le (length bytes) SCRIPT_BYTES ≡ b → cond b (script_of_lines form (lines_of bytes)) (bad 0 TooLong) ≡ Err fault → IsFault form bytes fault
    by true short found = inr (leb-true (length bytes) SCRIPT_BYTES short, first_bad form (lines_of bytes) fault found)
    by false long found =
        let same : record { line = 0; kind = TooLong } ≡ fault = cc in
        inl (leb-false (length bytes) SCRIPT_BYTES long, ap (λ (f : ScriptFault). f.line) (sym same), ap (λ (f : ScriptFault). f.kind) (sym same))

pub fault_read : (form : Form) (bytes : List ℕ) (fault : ScriptFault) → IsFault form bytes fault → script_of form bytes ≡ Err fault
unfolding script_of
fault_read form bytes fault (inl (long, line, kind)) =
    rw (lt-leb (length bytes) SCRIPT_BYTES long) (ap Err (fault_same (record { line = 0; kind = TooLong }) fault (sym line) (sym kind)))
fault_read form bytes fault (inr (short, inl lacks)) = rw (le-leb (length bytes) SCRIPT_BYTES short) (lines_lack form (lines_of bytes) fault lacks)
fault_read form bytes fault (inr (short, inr stops)) = rw (le-leb (length bytes) SCRIPT_BYTES short) (lines_stop form (lines_of bytes) fault stops)
