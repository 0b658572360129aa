-- What is read of a text, by what was answered.
use Rattle.std.proofs.Common.{◌≡◌, ℕ, ◌≤◌, List, length, Option, Some, None, Result, Ok, Err, refl}
use Rattle.std.specs.Option.{IfSome}
use Rattle.std.specs.Result.{IfOk}
use Rattle.geo_base.specs.declared.duplicate.NoMemory.{NoMemory}
use Rattle.geo_base.specs.declared.limits.TheConstants.{MAX_COLUMNS}
use Rattle.geo_schema.specs.declared.index.IndexDef.{IndexDef}
use Rattle.geo_schema.specs.declared.table.TableDef.{TableDef}
use Rattle.schema_text.specs.inner.Texts.{declared_table, index_of}
use Rattle.schema_text.specs.Spelling.{IsTableText, IsIndexText}
use Rattle.schema_text.specs.laws.Indexes.{index_text_is, index_text_named}
use Rattle.schema_text.specs.laws.Tables.{table_text_is, table_text_read}

-- the table that is answered is the one that the steps read
module _ (text : List ℕ) where
  table_by : (found read : Option TableDef) → declared_table text ≡ read →
      IfSome found (λ table. IsTableText text table × (length table.columns ≤ MAX_COLUMNS)) →
      ((table : TableDef) → IsTableText text table → length table.columns ≤ MAX_COLUMNS → found ≡ Some table) → found ≡ read
  table_by found (Some table) is spelled only = let here = table_text_is text table is in only table here.0 here.1
  table_by None None is spelled only = refl
  table_by (Some table) None is spelled only = let here = table_text_read text table spelled.0 spelled.1 in cc

  pub table_answered : (r : Result (Option TableDef) NoMemory) →
      IfOk r (λ found. IfSome found (λ table. IsTableText text table × (length table.columns ≤ MAX_COLUMNS))) →
      ((table : TableDef) → IsTableText text table → length table.columns ≤ MAX_COLUMNS → IfOk r (λ found. found ≡ Some table)) →
      IfOk r (λ found. found ≡ declared_table text)
  table_answered (Ok found) spelled only = table_by found (declared_table text) refl spelled only
  table_answered (Err e) spelled only = tt

-- the index that is answered is the one that the steps read
module _ (tables : List TableDef) (name text : List ℕ) where
  index_by : (found read : Option (ℕ × IndexDef)) → index_of tables name text ≡ read →
      IfSome found (λ index. (index.1.name ≡ name) × IsIndexText tables text index.0 index.1) →
      ((at : ℕ) (index : IndexDef) → index.name ≡ name → IsIndexText tables text at index → found ≡ Some (at, index)) → found ≡ read
  index_by found (Some (at, index)) is spelled only = let here = index_text_is tables name text at index is in only at index here.0 here.1
  index_by None None is spelled only = refl
  index_by (Some (at, index)) None is spelled only = let here = index_text_named tables name text at index spelled.0 spelled.1 in cc

  pub index_answered : (r : Result (Option (ℕ × IndexDef)) NoMemory) →
      IfOk r (λ found. IfSome found (λ index. (index.1.name ≡ name) × IsIndexText tables text index.0 index.1)) →
      ((at : ℕ) (index : IndexDef) → index.name ≡ name → IsIndexText tables text at index → IfOk r (λ found. found ≡ Some (at, index))) →
      IfOk r (λ found. found ≡ index_of tables name text)
  index_answered (Ok found) spelled only = index_by found (index_of tables name text) refl spelled only
  index_answered (Err e) spelled only = tt
