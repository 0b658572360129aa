-- A table is read of a text exactly where the text spells it.
use Rattle.std.proofs.Common.{◌≡◌, ℕ, ◌<◌, ◌≤◌, true, List, ◌∷◌, length, get_or, Some, nat_le, refl, sym, ap, ◌∙◌, subst, arith}
use Rattle.std.specs.List.{slice_split}
use Rattle.std.specs.Option.{option_and_then}
use Rattle.std.proofs.lemmas.Bool.{le-leb, leb-true}
use Rattle.std.proofs.lemmas.List.{length-map}
use Rattle.geo_base.specs.declared.limits.TheConstants.{MAX_COLUMNS}
use Rattle.geo_schema.specs.declared.table.TableDef.{TableDef}
use Rattle.geo_schema.specs.Schemas.{IsSchema, shown_only}
use Rattle.geo_schema.specs.laws.Rules.{keeps_rules, few_columns}
use Rattle.schema_text.specs.declared.column.Column.{Column}
use Rattle.schema_text.specs.declared.mark.Mark.{Mark}
use Rattle.schema_text.specs.declared.mark.Mark.TheVariants as mark
use Rattle.schema_text.specs.inner.Marks.{marks_of, is_comma}
use Rattle.schema_text.specs.inner.Texts.{column_of, listed, all_read, columns_of, table_of, declared_table}
use Rattle.schema_text.specs.Spelling.{SpellsColumn, IsNamedList, IsTableText}
use Rattle.schema_text.specs.Tables.{table_with}
use Rattle.schema_text.specs.laws.Columns.{column_is, column_read}
use Rattle.schema_text.specs.laws.Inversions.{then_some, map_some, when_some}
use Rattle.schema_text.specs.laws.Listed.{listed_is, listed_read}
use Rattle.schema_text.specs.laws.MarkLists.{column_free, items_are, items_read, items_count}
use Rattle.schema_text.specs.laws.TextMarks.{marks_are, marks_read}

-- each table of a schema has few columns
pub few_columns_at : (tables : List TableDef) (at : ℕ) (table : TableDef) → IsSchema (shown_only tables) → at < length tables → table ≡ get_or tables at table →
    length table.columns ≤ MAX_COLUMNS
few_columns_at tables at table schema within here = few_columns table (keeps_rules (shown_only tables) at table schema within here)

-- the marks are a table's name and its columns
record IsTableOf (marks : List Mark) (table : TableDef) : Type 0 where
  columns : List Column
  spells : IsNamedList SpellsColumn table.name columns marks
  is : table ≡ table_with table.name columns
  few : length table.columns ≤ MAX_COLUMNS

columns_are : (parts : List (List Mark)) (columns : List Column) → columns_of parts ≡ Some columns → (length parts ≤ MAX_COLUMNS) × (all_read column_of parts ≡ Some columns)
unfolding columns_of
columns_are parts columns is =
    let found = when_some (nat_le (length parts) MAX_COLUMNS) (all_read column_of parts) columns is in
    (leb-true (length parts) MAX_COLUMNS found.0, found.1)

few_of : (name : List ℕ) (columns : List Column) (parts : List (List Mark)) → length parts ≤ MAX_COLUMNS → length parts ≡ length columns → length (table_with name columns).columns ≤ MAX_COLUMNS
few_of name columns parts few count = omega (arith, length-map columns (λ (c : Column). c.def))

table_is : (marks : List Mark) (table : TableDef) → table_of marks ≡ Some table → IsTableOf marks table
unfolding table_of
table_is (mark.Name name ∷ marks) table is =
    let found = map_some (table_with name) (option_and_then columns_of (listed marks)) table is in
    let parts = then_some columns_of (listed marks) found.0 found.1 in
    let list = listed_is marks parts.0 parts.1 in
    let columns = columns_are parts.0 found.0 parts.2 in
    let items = items_are column_of SpellsColumn column_is list.inner found.0 (ap (all_read column_of) list.cut ∙ columns.1) in
    let count = sym (ap length list.cut) ∙ items_count column_of SpellsColumn column_free found.0 list.inner items in
    subst (IsTableOf (mark.Name name ∷ marks)) found.2 record {
      columns = found.0;
      spells = (list.inner, ap (λ ms. mark.Name name ∷ ms) list.whole, items);
      is = refl;
      few = few_of name found.0 parts.0 columns.0 count;
    }
table_is _ table is = cc

table_read : (name : List ℕ) (columns : List Column) (marks : List Mark) → IsNamedList SpellsColumn name columns marks → length columns ≤ MAX_COLUMNS →
    table_of marks ≡ Some (table_with name columns)
unfolding table_of columns_of
table_read name columns marks (inner, whole, items) few =
    let count = items_count column_of SpellsColumn column_free columns inner items in
    let fits : nat_le (length (slice_split is_comma inner)) MAX_COLUMNS ≡ true = le-leb (length (slice_split is_comma inner)) MAX_COLUMNS (omega arith) in
    rw whole (rw (listed_read inner) (rw (fits, items_read column_of SpellsColumn column_read column_free columns inner items) refl))

-- ---- texts

-- the table that is read of a text is spelled there
pub table_text_is : (text : List ℕ) (table : TableDef) → declared_table text ≡ Some table → IsTableText text table × (length table.columns ≤ MAX_COLUMNS)
unfolding declared_table
table_text_is text table is =
    let marks = then_some table_of (marks_of text) table is in
    let found = table_is marks.0 table marks.2 in
    (record { marks = marks.0; columns = found.columns; tokens = marks_are text marks.0 marks.1; spells = found.spells; is = found.is }, found.few)

-- a table that a text spells is read of it, if it has few columns
pub table_text_read : (text : List ℕ) (table : TableDef) → IsTableText text table → length table.columns ≤ MAX_COLUMNS → declared_table text ≡ Some table
unfolding declared_table
table_text_read text table is few =
    let count : length table.columns ≡ length is.columns = ap (λ (t : TableDef). length t.columns) is.is ∙ length-map is.columns (λ (c : Column). c.def) in
    rw (marks_read text is.marks is.tokens) (table_read table.name is.columns is.marks is.spells (omega arith) ∙ ap Some (sym is.is))
