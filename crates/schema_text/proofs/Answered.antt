-- What an answer says of the texts.
use Rattle.std.proofs.Common.{◌≡◌, ℕ, ◌≤◌, List, length, Option, Some, None, Result, Ok, Err, sym, ◌∙◌}
use Rattle.std.specs.Option.{IfSome}
use Rattle.std.specs.Result.{IfOk}
use Rattle.geo_base.specs.declared.duplicate.NoMemory.{NoMemory}
use Rattle.geo_base.specs.declared.limits.TheConstants.{MAX_COLUMNS}
use Rattle.geo_schema.specs.declared.index.IndexDef.{IndexDef}
use Rattle.geo_schema.specs.declared.table.TableDef.{TableDef}
use Rattle.schema_text.specs.inner.Texts.{declared_table, index_of}
use Rattle.schema_text.specs.Spelling.{IsTableText, IsIndexText}
use Rattle.schema_text.specs.laws.Indexes.{index_text_is, index_text_named}
use Rattle.schema_text.specs.laws.Tables.{table_text_is, table_text_read}

module _ (text : List ℕ) where
  pub table_spelled : (r : Result (Option TableDef) NoMemory) → IfOk r (λ found. found ≡ declared_table text) →
      IfOk r (λ found. IfSome found (λ table. IsTableText text table × (length table.columns ≤ MAX_COLUMNS)))
  table_spelled (Ok None) is = tt
  table_spelled (Ok (Some table)) is = table_text_is text table (sym is)
  table_spelled (Err e) is = tt

  pub table_found : (r : Result (Option TableDef) NoMemory) → IfOk r (λ found. found ≡ declared_table text) →
      (table : TableDef) → IsTableText text table → length table.columns ≤ MAX_COLUMNS → IfOk r (λ found. found ≡ Some table)
  table_found (Ok found) is table spells few = is ∙ table_text_read text table spells few
  table_found (Err e) is table spells few = tt

module _ (tables : List TableDef) (name text : List ℕ) where
  pub index_spelled : (r : Result (Option (ℕ × IndexDef)) NoMemory) → IfOk r (λ found. found ≡ index_of tables name text) →
      IfOk r (λ found. IfSome found (λ index. (index.1.name ≡ name) × IsIndexText tables text index.0 index.1))
  index_spelled (Ok None) is = tt
  index_spelled (Ok (Some (at, index))) is = index_text_is tables name text at index (sym is)
  index_spelled (Err e) is = tt

  pub index_found : (r : Result (Option (ℕ × IndexDef)) NoMemory) → IfOk r (λ found. found ≡ index_of tables name text) →
      (at : ℕ) (index : IndexDef) → index.name ≡ name → IsIndexText tables text at index → IfOk r (λ found. found ≡ Some (at, index))
  index_found (Ok found) is at index named spells = is ∙ index_text_named tables name text at index named spells
  index_found (Err e) is at index named spells = tt
