-- Inner: how a text that declares a table or an index is read.
use Rattle.std.specs.Prelude.{ℕ, true, false, nat_le, if◌then◌else◌, List, [], ◌∷◌, length, Option, Some, None, option_and_then, ℤ, pos, negsuc}
use Rattle.std.specs.List.{slice_split}
use Rattle.std.specs.Option.{option_map}
use Rattle.std.specs.Str.{bytes_eq}
use Rattle.geo_base.specs.declared.limits.TheConstants.{MAX_TEXT_BYTES, MAX_COLUMNS}
use Rattle.geo_schema.specs.declared.column.Kind.{Kind}
use Rattle.geo_schema.specs.declared.column.Kind.TheVariants as kind
use Rattle.geo_schema.specs.declared.index.IndexDef.{IndexDef}
use Rattle.geo_schema.specs.declared.table.TableDef.{TableDef}
use Rattle.geo_schema.specs.Schemas.{number_of}
use Rattle.geo_schema.specs.Tables.{table_in}
use Rattle.schema_text.specs.declared.column.Column.{Column}
use Rattle.schema_text.specs.declared.column.Typed.{Typed}
use Rattle.schema_text.specs.declared.mark.Mark.{Mark}
use Rattle.schema_text.specs.declared.mark.Mark.TheVariants as mark
use Rattle.schema_text.specs.inner.Marks.{marks_of, is_comma, is_close}
use Rattle.schema_text.specs.Tables.{table_with, column_place}

-- ---- columns

-- a kind, and what may stand behind it: `NOT NULL`, then `KEY`
unfoldable pub typed : Kind → List Mark → Option Typed
typed kind [] = Some (record { kind = kind; not_null = false; is_key = false })
typed kind (mark.Key ∷ []) = Some (record { kind = kind; not_null = false; is_key = true })
typed kind (mark.Not ∷ mark.Null ∷ []) = Some (record { kind = kind; not_null = true; is_key = false })
typed kind (mark.Not ∷ mark.Null ∷ mark.Key ∷ []) = Some (record { kind = kind; not_null = true; is_key = true })
typed kind _ = None

-- a text column of at most so many bytes, if it may take so many
abbrev pub sized : ℤ → List Mark → Option Typed
sized (pos max) marks = if nat_le max MAX_TEXT_BYTES then typed (kind.Text max) marks else None
sized (negsuc _) marks = None

-- behind TEXT: a number of bytes in parentheses, and else the most that there may be
unfoldable pub text_column : List Mark → Option Typed
text_column (mark.Open ∷ mark.Number max ∷ mark.Close ∷ marks) = sized max marks
text_column marks = typed (kind.Text MAX_TEXT_BYTES) marks

-- what stands behind a column's name
unfoldable pub typed_column : List Mark → Option Typed
typed_column (mark.Int ∷ marks) = typed kind.Int marks
typed_column (mark.Text ∷ marks) = text_column marks
typed_column (mark.Bool ∷ marks) = typed kind.Truth marks
typed_column _ = None

-- the column with a name, and with what stands behind it
abbrev pub named_column : List ℕ → Typed → Column
named_column name typed =
    record { def = record { name = name; kind = typed.kind; not_null = typed.not_null }; is_key = typed.is_key }

-- a column: its name, its type, and what may stand behind it
unfoldable pub column_of : List Mark → Option Column
column_of (mark.Name name ∷ marks) = option_map (named_column name) (typed_column marks)
column_of _ = None

-- ---- lists in parentheses, with commas between their items

-- what stands before the last mark, if that closes a parenthesis
abbrev pub before_close : List Mark → Option (List Mark)
before_close [] = None
before_close (last ∷ []) = if is_close last then Some [] else None
before_close (first ∷ next ∷ marks) = option_map (λ before. first ∷ before) (before_close (next ∷ marks))

-- the items of a list in parentheses
unfoldable pub listed : List Mark → Option (List (List Mark))
listed (mark.Open ∷ marks) = option_map (slice_split is_comma) (before_close marks)
listed _ = None

-- every item, if each one is as it has to be
abbrev pub all_read : {A B : Type 0} → (A → Option B) → List A → Option (List B)
all_read of [] = Some []
all_read of (item ∷ items) = option_and_then (λ first. option_map (λ more. first ∷ more) (all_read of items)) (of item)

-- ---- tables

-- the columns, of which there may be at most 32
unfoldable pub columns_of : List (List Mark) → Option (List Column)
columns_of items = if nat_le (length items) MAX_COLUMNS then all_read column_of items else None

-- a table: its name, and its columns in parentheses
unfoldable pub table_of : List Mark → Option TableDef
table_of (mark.Name name ∷ marks) = option_map (table_with name) (option_and_then columns_of (listed marks))
table_of _ = None

-- the table that a text declares
unfoldable pub declared_table : List ℕ → Option TableDef
declared_table text = option_and_then table_of (marks_of text)

-- ---- indexes

-- a name alone
unfoldable pub name_of : List Mark → Option (List ℕ)
name_of (mark.Name name ∷ []) = Some name
name_of _ = None

-- the name that the word is
unfoldable pub index_name : List ℕ → Option (List ℕ)
index_name word = option_and_then (λ name. if bytes_eq name word then Some name else None) (option_and_then name_of (marks_of word))

-- a table's name, and names in parentheses
unfoldable pub named_list : List Mark → Option (List ℕ × List (List ℕ))
named_list (mark.Name name ∷ marks) = option_map (λ names. (name, names)) (option_and_then (all_read name_of) (listed marks))
named_list _ = None

-- the index with a name, of the columns at these places
abbrev pub index_with : List ℕ → List ℕ → IndexDef
index_with name places = record { name = name; columns = places }

-- the index with a name on a table and its columns, which are listed, and the number of that table
abbrev pub index_on : List TableDef → List ℕ → List (List ℕ) → ℕ → Option (ℕ × IndexDef)
index_on tables name names at =
    option_map (λ index. (at, index)) (option_map (index_with name) (all_read (column_place (table_in tables at).columns) names))

-- the index with a name on the table and the columns that a text lists, and the number of that table
unfoldable pub index_at : List TableDef → List ℕ → List ℕ → Option (ℕ × IndexDef)
index_at tables name text =
    option_and_then (λ list. option_and_then (index_on tables name list.1) (number_of tables list.0)) (option_and_then named_list (marks_of text))

-- the index with the name that the word is, and the number of its table
unfoldable pub index_of : List TableDef → List ℕ → List ℕ → Option (ℕ × IndexDef)
index_of tables word text = option_and_then (λ name. index_at tables name text) (index_name word)
