-- Inner: how a line that declares a table or an index is read, beside the tables above it.
use Rattle.std.specs.Prelude.{ℕ, ◌==◌, if◌then◌else◌, is_none, List, [], ◌∷◌, ◌++◌, length, codes, Option, Some, None, ok_or, Ok, Err}
use Rattle.std.specs.Str.{bytes_eq, is_utf8}
use Rattle.geo_schema.specs.declared.table.TableDef.{TableDef}
use Rattle.geo_schema.specs.Schemas.{shown_only}
use Rattle.geo_schema.specs.inner.Schemas.{schema_fault}
use Rattle.schema_text.specs.inner.Texts.{declared_table, index_of}
use Rattle.geo_script.specs.declared.fault.ScriptKind.{ScriptKind}
use Rattle.geo_script.specs.declared.fault.ScriptKind.TheVariants.{NotUtf8, BadTable, BadIndex, BadLine}
use Rattle.geo_script.specs.inner.EventLines.{OfLine}
use Rattle.geo_base.specs.Results.{◌>>=◌}
use Rattle.geo_script.specs.Tables.{add_index}
use Rattle.geo_script.specs.inner.Words.{cut}

-- ---- tables

-- the tables, if they are a schema
abbrev pub if_schema : ScriptKind → List TableDef → OfLine (List TableDef)
if_schema kind tables = if is_none (schema_fault (shown_only tables)) then Ok tables else Err kind

-- the tables with the one that a text declares
unfoldable pub with_table : List TableDef → List ℕ → OfLine (List TableDef)
with_table tables text = do
  table ← ok_or (declared_table text) BadTable
  if_schema BadTable (tables ++ table ∷ [])

-- ---- indexes

-- A word and what stands behind the next space. An empty word is no word of any line.
abbrev pub filled : List ℕ → Option (List ℕ × List ℕ) → OfLine (List ℕ × List ℕ)
filled text None = if length text == 0 then Err BadLine else Err BadIndex
filled text (Some parts) = if length parts.0 == 0 then Err BadLine else Ok parts

-- the first word of a text, and what stands behind the next space
unfoldable pub first_word : List ℕ → OfLine (List ℕ × List ℕ)
first_word text = filled text (cut 32 text)

-- an index's name, and what stands behind a space, `on` and a space
unfoldable pub index_parts : List ℕ → OfLine (List ℕ × List ℕ)
index_parts text = do
  parts ← first_word text
  more ← first_word parts.1
  if bytes_eq more.0 (codes "on") then Ok (parts.0, more.1) else Err BadIndex

-- the tables with the index that a text declares
unfoldable pub with_index : List TableDef → List ℕ → OfLine (List TableDef)
with_index tables text = do
  parts ← index_parts text
  found ← ok_or (index_of tables parts.0 parts.1) BadIndex
  if_schema BadIndex (add_index tables found.0 found.1)

-- ---- whole lines

-- the line, if it has one word alone, which has to begin a longer one
abbrev pub alone : List ℕ → OfLine (List TableDef)
alone line =
    if bytes_eq line (codes "table") then Err BadTable else (if bytes_eq line (codes "index") then Err BadIndex else Err BadLine)

-- the tables with what a line declares, by its first word and what stands behind the next space
abbrev pub declared : List TableDef → List ℕ → List ℕ → OfLine (List TableDef)
declared tables word rest =
    if bytes_eq word (codes "table") then with_table tables rest
    else (if bytes_eq word (codes "index") then with_index tables rest else Err BadLine)

-- the same, where the line may have one word alone
abbrev pub by_word : List TableDef → List ℕ → Option (List ℕ × List ℕ) → OfLine (List TableDef)
by_word tables line None = alone line
by_word tables line (Some parts) = declared tables parts.0 parts.1

-- the tables with what a text declares
unfoldable pub declared_by : List TableDef → List ℕ → OfLine (List TableDef)
declared_by tables text = by_word tables text (cut 32 text)

-- the tables with what a line declares, which has to be a text
unfoldable pub table_line : List TableDef → List ℕ → OfLine (List TableDef)
table_line tables line = if is_utf8 line then declared_by tables line else Err NotUtf8
