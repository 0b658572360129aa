-- Which texts declare a table or an index.
use Rattle.std.specs.Prelude.{◌≡◌, ◌⊎◌, ℕ, ◌≤◌, Bool, true, false, List, [], ◌∷◌, ◌++◌, map, Some, pos}
use Rattle.geo_base.specs.declared.limits.TheConstants.{MAX_TEXT_BYTES}
use Rattle.geo_schema.specs.declared.column.ColumnDef.{ColumnDef}
use Rattle.geo_schema.specs.declared.column.Kind.{Kind}
use Rattle.geo_schema.specs.declared.column.Kind.TheVariants as kind
use Rattle.geo_schema.specs.declared.index.IndexDef.{IndexDef}
use Rattle.geo_schema.specs.declared.table.TableDef.{TableDef}
use Rattle.geo_schema.specs.Schemas.{number_of}
use Rattle.geo_schema.specs.Tables.{table_in}
use Rattle.sql_lex.specs.declared.token.Token.{Token}
use Rattle.sql_lex.specs.Grammar.{AreTokensOf}
use Rattle.schema_text.specs.declared.column.Column.{Column}
use Rattle.schema_text.specs.declared.mark.Mark.{Mark}
use Rattle.schema_text.specs.declared.mark.Mark.TheVariants as mark
use Rattle.schema_text.specs.Marks.{mark_of}
use Rattle.schema_text.specs.Tables.{column_place, table_with}

-- the marks of a kind: TEXT alone takes as many bytes as a text may have
abbrev pub SpellsKind : Kind → List Mark → Type 0
SpellsKind kind.Int marks = marks ≡ mark.Int ∷ []
SpellsKind kind.Truth marks = marks ≡ mark.Bool ∷ []
SpellsKind (kind.Text max) marks =
    (max ≤ MAX_TEXT_BYTES)
    × (((max ≡ MAX_TEXT_BYTES) × (marks ≡ mark.Text ∷ [])) ⊎ (marks ≡ mark.Text ∷ mark.Open ∷ mark.Number (pos max) ∷ mark.Close ∷ []))

-- what is written where it holds
abbrev pub if_so : Bool → List Mark → List Mark
if_so true marks = marks
if_so false marks = []

-- a name, a kind, and then NOT NULL and KEY where they hold
pub record SpellsColumn (column : Column) (marks : List Mark) : Type 0 where
  pub kind : List Mark
  pub spells : SpellsKind column.def.kind kind
  pub whole : marks ≡ mark.Name column.def.name ∷ (kind ++ (if_so column.def.not_null (mark.Not ∷ mark.Null ∷ []) ++ if_so column.is_key (mark.Key ∷ [])))

-- each item's marks, with a comma between each two
module _ {A : Type 0} (IsItem : A → List Mark → Type 0) where
  abbrev pub AreItems : List A → List Mark → Type 0
  AreItems [] marks = ⊥
  AreItems (item ∷ []) marks = IsItem item marks
  AreItems (item ∷ next ∷ items) marks =
      (first : List Mark) × (more : List Mark) × (marks ≡ first ++ mark.Comma ∷ more) × IsItem item first × AreItems (next ∷ items) more

-- a name, and items in parentheses with commas between them
abbrev pub IsNamedList : {A : Type 0} → (A → List Mark → Type 0) → List ℕ → List A → List Mark → Type 0
IsNamedList IsItem name items marks =
    (inner : List Mark) × (marks ≡ mark.Name name ∷ mark.Open ∷ (inner ++ mark.Close ∷ [])) × AreItems IsItem items inner

-- what the tokens of a text are, and each one is what it is in such a line
abbrev pub HasMarks : List ℕ → List Mark → Type 0
HasMarks text marks = (tokens : List Token) × AreTokensOf tokens text × (marks ≡ map (λ token. mark_of token.kind) tokens)

-- the text has the name and the columns of the table
pub record IsTableText (text : List ℕ) (table : TableDef) : Type 0 where
  pub marks : List Mark
  pub columns : List Column
  pub tokens : HasMarks text marks
  pub spells : IsNamedList SpellsColumn table.name columns marks
  pub is : table ≡ table_with table.name columns

-- the columns of the table with these names stand at these places
abbrev pub AreAtPlaces : List ColumnDef → List (List ℕ) → List ℕ → Type 0
AreAtPlaces columns [] [] = Unit {0}
AreAtPlaces columns [] (place ∷ places) = ⊥
AreAtPlaces columns (name ∷ names) [] = ⊥
AreAtPlaces columns (name ∷ names) (place ∷ places) = (column_place columns name ≡ Some place) × AreAtPlaces columns names places

-- The text has the names of the table with this number and of columns of it, which are those of the index. The name of the index is
-- a token alone.
pub record IsIndexText (tables : List TableDef) (text : List ℕ) (at : ℕ) (index : IndexDef) : Type 0 where
  pub marks : List Mark
  pub table : List ℕ
  pub columns : List (List ℕ)
  pub name : HasMarks index.name (mark.Name index.name ∷ [])
  pub tokens : HasMarks text marks
  pub spells : IsNamedList (λ name marks. marks ≡ mark.Name name ∷ []) table columns marks
  pub found : number_of tables table ≡ Some at
  pub places : AreAtPlaces (table_in tables at).columns columns index.columns
