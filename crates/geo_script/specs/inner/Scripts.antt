-- Inner: how a text is read, line by line, up to the first bad one.
use Rattle.std.specs.Prelude.{ℕ, ◌+◌, ◌&&◌, nat_le, if◌then◌else◌, List, [], ◌∷◌, ◌++◌, length, codes, ok_or, Result, Ok, Err}
use Rattle.std.specs.Str.{bytes_eq, is_utf8}
use Rattle.geo_base.specs.declared.limits.TheConstants.{MAX_REGIONS, SCRIPT_BYTES}
use Rattle.geo_schema.specs.declared.table.TableDef.{TableDef}
use Rattle.geo_schema.specs.Schemas.{shown_only}
use Rattle.geo_script.specs.declared.fault.ScriptFault.{ScriptFault}
use Rattle.geo_script.specs.declared.fault.ScriptKind.{ScriptKind}
use Rattle.geo_script.specs.declared.fault.ScriptKind.TheVariants.{TooLong, NotUtf8, BadHeader, MissingBegin}
use Rattle.geo_script.specs.declared.script.EventAt.{EventAt}
use Rattle.geo_script.specs.declared.script.Form.{Form}
use Rattle.geo_script.specs.declared.script.Script.{Script}
use Rattle.geo_script.specs.inner.EventLines.{OfLine, number_or_bad, event_line}
use Rattle.geo_script.specs.Lines.{lines_of, spoken_from}
use Rattle.geo_script.specs.Spelling.{title}
use Rattle.geo_script.specs.inner.Past.{RunPast, nothing_yet, next_past}
use Rattle.geo_script.specs.inner.TableLines.{table_line}
use Rattle.geo_base.specs.Results.{◌>>=◌}
use Rattle.geo_script.specs.inner.Words.{cut}
use Rattle.geo_script.specs.Words.{is_word}

-- a part of a script, or its first bad line
abbrev pub Checked : Type 0 → Type 0
Checked A = Result A ScriptFault

-- the line with this number is bad
abbrev pub bad : {A : Type 0} → ℕ → ScriptKind → Checked A
bad line kind = Err (record { line = line; kind = kind })

-- what the line with this number is, or that it is bad
abbrev pub at : {A : Type 0} → ℕ → OfLine A → Checked A
at line (Ok x) = Ok x
at line (Err kind) = bad line kind

-- ---- the first two lines

-- the line that names the form
unfoldable pub title_line : Form → List ℕ → OfLine (Unit {0})
title_line form line =
    if is_utf8 line then (if bytes_eq line (title form) then Ok tt else Err BadHeader) else Err NotUtf8

-- the word behind `regions` and a space
unfoldable pub regions_word : List ℕ → OfLine (List ℕ)
regions_word line = do
  parts ← ok_or (cut 32 line) BadHeader
  if bytes_eq parts.0 (codes "regions") && is_word parts.1 then Ok parts.1 else Err BadHeader

-- the line that says how many regions there are
unfoldable pub regions_line : List ℕ → OfLine ℕ
regions_line line = if is_utf8 line then (regions_word line >>= number_or_bad 1 MAX_REGIONS) else Err NotUtf8

-- ---- the lines behind them

-- The tables, and the lines that say something behind the line `begin`. Each line declares a table or an index beside those above
-- it. Where there is no such line, the one that lacks is the one after the last.
abbrev pub head_of : ℕ → List TableDef → List (ℕ × List ℕ) → Checked (List TableDef × List (ℕ × List ℕ))
head_of after tables [] = bad after MissingBegin
head_of after tables (line ∷ lines) =
    if bytes_eq line.1 (codes "begin") then Ok (tables, lines)
    else (at line.0 (table_line tables line.1) >>= λ more. head_of after more lines)

-- the events, each with its line's number
abbrev pub events_of : Form → ℕ → RunPast → List (ℕ × List ℕ) → Checked (List EventAt)
events_of form regions past [] = Ok []
events_of form regions past (line ∷ lines) =
    at line.0 (event_line form regions past line.1) >>= λ event.
    (events_of form regions (next_past form past event) lines >>= λ events. Ok (record { line = line.0; event = event } ∷ events))

-- what was read, and then what each other line is
abbrev pub behind : List EventAt → Checked (List EventAt) → Checked (List EventAt)
behind read more = more >>= λ events. Ok (read ++ events)

-- ---- the whole

-- the script of the lines behind the first two, for this number of regions
unfoldable pub body_of : Form → ℕ → List (List ℕ) → Checked Script
body_of form regions lines = do
  head ← head_of (3 + length lines) [] (spoken_from 3 lines)
  events ← events_of form regions nothing_yet head.1
  Ok (record { regions = regions; schema = shown_only head.0; events = events })

-- the script of all lines
unfoldable pub script_of_lines : Form → List (List ℕ) → Checked Script
script_of_lines form [] = bad 1 BadHeader
script_of_lines form (first ∷ []) = at 1 (title_line form first) >>= λ _. bad 2 BadHeader
script_of_lines form (first ∷ second ∷ lines) =
    at 1 (title_line form first) >>= λ _. (at 2 (regions_line second) >>= λ regions. body_of form regions lines)

-- the script of a text, which has at most 16,777,216 bytes
unfoldable pub script_of : Form → List ℕ → Checked Script
script_of form bytes = if nat_le (length bytes) SCRIPT_BYTES then script_of_lines form (lines_of bytes) else bad 0 TooLong
