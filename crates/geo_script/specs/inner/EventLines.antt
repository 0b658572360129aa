-- Inner: how an event line is read. Its words come first, then its numbers, then the length of its statement,
-- and last, in a run, the number of sessions.
use Rattle.std.specs.Prelude.{ℕ, ◌-◌, ◌&&◌, not, ◌==◌, nat_lt, nat_le, if◌then◌else◌, List, length, codes, Option, Some, None, option_and_then, ok_or, Result, Ok, Err}
use Rattle.std.specs.Str.{bytes_eq, is_utf8}
use Rattle.geo_base.specs.declared.limits.TheConstants.{PACKETS_PER_LINE, SESSIONS_PER_REGION}
use Rattle.geo_script.specs.declared.event.Event.{Event}
use Rattle.geo_script.specs.declared.event.Event.TheVariants as event
use Rattle.geo_script.specs.declared.event.Sealing.{Sealing}
use Rattle.geo_script.specs.declared.event.Sealing.TheVariants.{No, Kept, Lost}
use Rattle.geo_script.specs.declared.fault.ScriptKind.{ScriptKind}
use Rattle.geo_script.specs.declared.fault.ScriptKind.TheVariants.{NotUtf8, BadLine, BadNumber, LongStatement, TooManySessions}
use Rattle.geo_script.specs.declared.limits.TheConstants.{STATEMENT_BYTES, SESSIONS_PER_RUN, SEATS_PER_ROUND, LAST_ASKED_EPOCH, LAST_CRASH_EPOCH, LAST_PACKET}
use Rattle.geo_script.specs.declared.script.Form.{Form}
use Rattle.geo_script.specs.declared.script.Form.TheVariants.{Play, Run}
use Rattle.geo_script.specs.declared.verb.Verb.{Verb}
use Rattle.geo_script.specs.declared.verb.Verb.TheVariants as verb
use Rattle.geo_script.specs.inner.Past.{RunPast, has_crash, has_session}
use Rattle.geo_script.specs.inner.Verbs.{verb_of}
use Rattle.geo_base.specs.Results.{◌>>=◌}
use Rattle.geo_script.specs.inner.Words.{cut, two_words, three_words, number_within}
use Rattle.geo_script.specs.Words.{is_word}

-- what a line or a part of it is, or what is wrong with it
abbrev pub OfLine : Type 0 → Type 0
OfLine A = Result A ScriptKind

-- ---- numbers

-- the number that the word spells, from the least to the most; else it is a bad one
abbrev pub number_or_bad : ℕ → ℕ → List ℕ → OfLine ℕ
number_or_bad least most word = ok_or (number_within least most word) BadNumber

-- a region, below their number
abbrev pub region : ℕ → List ℕ → OfLine ℕ
region regions word = number_or_bad 0 (regions - 1) word

-- a session: its region, a dot, its number
unfoldable pub place : ℕ → List ℕ → OfLine (ℕ × ℕ)
place regions word = do
  parts ← ok_or (cut 46 word) BadNumber
  at ← region regions parts.0
  session ← number_or_bad 0 (SESSIONS_PER_REGION - 1) parts.1
  Ok (at, session)

-- ---- lines, by what stands behind the first word and a space

-- a session's place, a space, and all the rest as a statement
unfoldable pub statement_parts : List ℕ → Option (List ℕ × List ℕ)
statement_parts rest =
    option_and_then (λ parts. if is_word parts.0 && not (length parts.1 == 0) then Some parts else None) (cut 32 rest)

-- a statement of a session, of at most as many bytes as it may have
unfoldable pub sql : ℕ → List ℕ → OfLine Event
sql regions rest = do
  parts ← ok_or (statement_parts rest) BadLine
  at ← place regions parts.0
  if nat_le (length parts.1) STATEMENT_BYTES then Ok (event.Sql at.0 at.1 parts.1) else Err LongStatement

-- a session alone
unfoldable pub outcome : ℕ → List ℕ → OfLine Event
outcome regions rest = if is_word rest then (place regions rest >>= λ at. Ok (event.Outcome at.0 at.1)) else Err BadLine

-- one region alone
unfoldable pub only_region : ℕ → List ℕ → OfLine ℕ
only_region regions rest = if is_word rest then region regions rest else Err BadLine

-- the first packet and the last one, or one that is both
unfoldable pub packet_words : List ℕ → Option (List ℕ × List ℕ)
packet_words rest = if is_word rest then Some (rest, rest) else two_words rest

-- packets that do not fall, and are not too many
unfoldable pub deliver : List ℕ → OfLine Event
deliver rest = do
  words ← ok_or (packet_words rest) BadLine
  first ← number_or_bad 0 LAST_PACKET words.0
  last ← number_or_bad 0 LAST_PACKET words.1
  if nat_le first last && nat_lt (last - first) PACKETS_PER_LINE then Ok (event.Deliver first last) else Err BadNumber

-- two regions, which differ, and an epoch
unfoldable pub fetch : ℕ → List ℕ → OfLine Event
fetch regions rest = do
  words ← ok_or (three_words rest) BadLine
  asking ← region regions words.0
  asked ← region regions words.1
  epoch ← number_or_bad 1 LAST_ASKED_EPOCH words.2
  if asking == asked then Err BadNumber else Ok (event.Fetch asking asked epoch)

-- a region and a seat of its round
unfoldable pub work : ℕ → List ℕ → OfLine Event
work regions rest = do
  words ← ok_or (two_words rest) BadLine
  at ← region regions words.0
  seat ← number_or_bad 0 (SEATS_PER_ROUND - 1) words.1
  Ok (event.Work at seat)

-- what becomes of the open epoch, by the two words behind a region
unfoldable pub sealing_of : List ℕ → List ℕ → Option Sealing
sealing_of sealing fate =
    if bytes_eq sealing (codes "sealing")
    then (if bytes_eq fate (codes "kept") then Some Kept else (if bytes_eq fate (codes "lost") then Some Lost else None))
    else None

-- a region alone, or one and what becomes of its open epoch
unfoldable pub crash_words : List ℕ → Option (List ℕ × Sealing)
crash_words rest =
    if is_word rest then Some (rest, No)
    else option_and_then (λ words. option_and_then (λ sealing. Some (words.0, sealing)) (sealing_of words.1 words.2)) (three_words rest)

-- a region, and what becomes of its open epoch
unfoldable pub crash : ℕ → List ℕ → OfLine Event
crash regions rest = do
  words ← ok_or (crash_words rest) BadLine
  at ← region regions words.0
  Ok (event.Crash at words.1)

-- a region and an epoch, with the word `after` between them
unfoldable pub after_words : List ℕ → Option (List ℕ × List ℕ)
after_words rest =
    option_and_then (λ words. if bytes_eq words.1 (codes "after") then Some (words.0, words.2) else None) (three_words rest)

-- the region, if its number is right and it has no crash line yet
abbrev pub fresh_region : RunPast → OfLine ℕ → OfLine ℕ
fresh_region past (Ok at) = if has_crash past at then Err BadLine else Ok at
fresh_region past (Err kind) = Err kind

-- a second crash of a region is a bad line, whatever its epoch is
unfoldable pub crash_after : ℕ → RunPast → List ℕ → OfLine Event
crash_after regions past rest = do
  words ← ok_or (after_words rest) BadLine
  at ← fresh_region past (region regions words.0)
  epoch ← number_or_bad 1 LAST_CRASH_EPOCH words.1
  Ok (event.CrashAfter at epoch)

-- a statement is of a session that the run has already, or there is room for one more
abbrev pub if_admitted : RunPast → Event → OfLine Event
if_admitted past (event.Sql at session text) =
    if has_session past at session then Ok (event.Sql at session text)
    else (if nat_lt (length past.sessions) SESSIONS_PER_RUN then Ok (event.Sql at session text) else Err TooManySessions)
if_admitted past other = Ok other

-- ---- whole lines

-- an event line of a play, by its first word and what stands behind the next space
unfoldable pub play_event : ℕ → Verb → List ℕ → OfLine Event
play_event regions verb.Sql rest = sql regions rest
play_event regions verb.Outcome rest = outcome regions rest
play_event regions verb.Seal rest = only_region regions rest >>= λ at. Ok (event.Seal at)
play_event regions verb.Deliver rest = deliver rest
play_event regions verb.Fetch rest = fetch regions rest
play_event regions verb.Work rest = work regions rest
play_event regions verb.Publish rest = only_region regions rest >>= λ at. Ok (event.Publish at)
play_event regions verb.Show rest = only_region regions rest >>= λ at. Ok (event.Show at)
play_event regions verb.Crash rest = crash regions rest
play_event regions verb.Restart rest = only_region regions rest >>= λ at. Ok (event.Restart at)

-- an event line of a run, which has statements and crashes alone
unfoldable pub run_event : ℕ → RunPast → Verb → List ℕ → OfLine Event
run_event regions past verb.Sql rest = sql regions rest >>= if_admitted past
run_event regions past verb.Crash rest = crash_after regions past rest
run_event regions past _ rest = Err BadLine

-- an event line of the form
unfoldable pub form_event : Form → ℕ → RunPast → Verb → List ℕ → OfLine Event
form_event Play regions past verb rest = play_event regions verb rest
form_event Run regions past verb rest = run_event regions past verb rest

-- the first word of a text, if it is a verb, and what stands behind the next space
unfoldable pub verb_and_rest : List ℕ → Option (Verb × List ℕ)
verb_and_rest text =
    option_and_then (λ parts. option_and_then (λ verb. Some (verb, parts.1)) (verb_of parts.0)) (cut 32 text)

-- the event that a text asks for
unfoldable pub event_of : Form → ℕ → RunPast → List ℕ → OfLine Event
event_of form regions past text = do
  parts ← ok_or (verb_and_rest text) BadLine
  form_event form regions past parts.0 parts.1

-- the same of a line, which has to be a text
unfoldable pub event_line : Form → ℕ → RunPast → List ℕ → OfLine Event
event_line form regions past line = if is_utf8 line then event_of form regions past line else Err NotUtf8
