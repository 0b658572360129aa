-- Lines that declare tables and indexes, and what is read of them.
use Rattle.std.proofs.Common.{◌≡◌, ℕ, ◌<◌, ◌≤◌, ◌==◌, Bool, true, false, cond, List, [], ◌∷◌, ◌++◌, length, Option, Some, None, Ok, Err, nat_le, refl, sym, ap, ◌∙◌, subst, arith, inl, inr}
use Rattle.std.specs.Prelude.{codes, is_none}
use Rattle.std.specs.Option.{option_map, option_and_then, ok_or}
use Rattle.std.specs.Str.{bytes_eq, is_utf8}
use Rattle.std.proofs.lemmas.Bool.{le-leb, ne_eqb}
use Rattle.std.proofs.lemmas.List.{length-map, length-append, get_or_at}
use Rattle.std.proofs.lemmas.Slice.Eq.{bytes_eq-Decides}
use Rattle.geo_base.specs.declared.limits.TheConstants.{MAX_COLUMNS}
use Rattle.geo_base.specs.laws.Results.{bind_ok}
use Rattle.geo_schema.specs.declared.index.IndexDef.{IndexDef}
use Rattle.geo_schema.specs.declared.table.TableDef.{TableDef}
use Rattle.geo_schema.specs.Schemas.{IsSchema, shown_only}
use Rattle.geo_schema.specs.inner.Schemas.{schema_fault}
use Rattle.geo_script.specs.declared.fault.ScriptKind.{ScriptKind}
use Rattle.geo_script.specs.declared.fault.ScriptKind.TheVariants.{NotUtf8, BadLine, BadTable, BadIndex}
use Rattle.schema_text.specs.inner.Texts.{declared_table, index_of}
use Rattle.schema_text.specs.Spelling.{IsIndexText}
use Rattle.schema_text.specs.laws.Indexes.{index_text_is, index_text_read}
use Rattle.schema_text.specs.laws.Inversions.{or_ok, if_ok, unless_ok, when_ok}
use Rattle.schema_text.specs.laws.Names.{name_word}
use Rattle.schema_text.specs.laws.Tables.{few_columns_at, table_text_is, table_text_read}
use Rattle.geo_script.specs.Spelling.{DeclaresTable, DeclaresIndex, Declares}
use Rattle.geo_script.specs.inner.TableLines.{if_schema, with_table, filled, first_word, index_parts, with_index, alone, declared, by_word, declared_by, table_line}
use Rattle.geo_script.specs.Tables.{add_index}
use Rattle.geo_script.specs.inner.Words.{cut}
use Rattle.geo_script.proofs.Cuts.{Lacks, cut_at, cut_parts}
use Rattle.geo_script.proofs.SchemaTables.{faultless_kept, schema_faultless}

-- ---- schemas

record IsKept (tables more : List TableDef) : Type 0 where
  same : tables ≡ more
  schema : IsSchema (shown_only more)

kept_is : (kind : ScriptKind) (tables more : List TableDef) → if_schema kind tables ≡ Ok more → IsKept tables more
kept_is kind tables more is =
    let found = if_ok (is_none (schema_fault (shown_only tables))) tables more kind is in
    record { same = found.1; schema = subst (λ ts. IsSchema (shown_only ts)) found.1 (faultless_kept tables found.0) }

kept_read : (kind : ScriptKind) (tables : List TableDef) → IsSchema (shown_only tables) → if_schema kind tables ≡ Ok tables
kept_read kind tables schema = rw (schema_faultless tables schema) refl

-- ---- lines that declare tables

table_declared : (tables : List TableDef) (text : List ℕ) (more : List TableDef) → with_table tables text ≡ Ok more →
    Declares tables (codes "table " ++ text) more × IsSchema (shown_only more)
unfolding with_table
table_declared tables text more is =
    let found = bind_ok (ok_or (declared_table text) BadTable) _ more is in
    let table = table_text_is text found.0 (or_ok (declared_table text) BadTable found.0 found.1) in
    let kept = kept_is BadTable (tables ++ found.0 ∷ []) more found.2 in
    let declares : DeclaresTable (codes "table " ++ text) found.0 = record { text = text; cut = refl; spells = table.0 } in
    (inl (found.0, declares, sym kept.same), kept.schema)

few_declared : (tables : List TableDef) (table : TableDef) → IsSchema (shown_only (tables ++ table ∷ [])) → length table.columns ≤ MAX_COLUMNS
few_declared tables table schema =
    few_columns_at (tables ++ table ∷ []) (length tables) table schema (omega (arith, length-append tables (table ∷ []))) (sym (get_or_at tables table [] table (length tables) refl))

table_line_read : (tables : List TableDef) (line : List ℕ) (table : TableDef) → DeclaresTable line table → IsSchema (shown_only (tables ++ table ∷ [])) →
    declared_by tables line ≡ Ok (tables ++ table ∷ [])
unfolding declared_by with_table
table_line_read tables line table is schema =
    let read = table_text_read is.text table is.spells (few_declared tables table schema) in
    rw is.cut (rw (cut_at 32 (codes "table") is.text refl) (rw read (kept_read BadTable (tables ++ table ∷ []) schema)))

-- ---- lines that declare indexes

record IsFirstWord (text word rest : List ℕ) : Type 0 where
  whole : text ≡ word ++ 32 ∷ rest

filled_is : (text : List ℕ) (parts : List ℕ × List ℕ) (found : Option (List ℕ × List ℕ)) → cut 32 text ≡ found → filled text found ≡ Ok parts → IsFirstWord text parts.0 parts.1
filled_is text parts None is read = by (length text == 0) read
  where
    by : (b : Bool) → cond b (Err BadLine) (Err BadIndex) ≡ Ok parts → IsFirstWord text parts.0 parts.1
    by true no_parts = cc
    by false no_parts = cc
filled_is text parts (Some found) is read =
    let kept = unless_ok (length found.0 == 0) found parts BadLine read in
    subst (λ (p : List ℕ × List ℕ). IsFirstWord text p.0 p.1) kept.1 record { whole = (cut_parts 32 text found is).whole }

word_is : (text : List ℕ) (parts : List ℕ × List ℕ) → first_word text ≡ Ok parts → IsFirstWord text parts.0 parts.1
unfolding first_word
word_is text parts is = filled_is text parts (cut 32 text) refl is

pub word_read : (word rest : List ℕ) → 0 < length word → Lacks 32 word → first_word (word ++ 32 ∷ rest) ≡ Ok (word, rest)
unfolding first_word
word_read word rest some lacks = rw (cut_at 32 word rest lacks) (rw (ne_eqb (length word) 0 (λ is. omega arith)) refl)

record IsOnLine (text word rest : List ℕ) : Type 0 where
  whole : text ≡ word ++ (codes " on " ++ rest)

parts_are : (text : List ℕ) (parts : List ℕ × List ℕ) → index_parts text ≡ Ok parts → IsOnLine text parts.0 parts.1
unfolding index_parts
parts_are text parts is =
    let first = bind_ok (first_word text) _ parts is in
    let second = bind_ok (first_word first.0.1) _ parts first.2 in
    let kept = if_ok (bytes_eq second.0.0 (codes "on")) (first.0.0, second.0.1) parts BadIndex second.2 in
    let one = word_is text first.0 first.1 in
    let other = word_is first.0.1 second.0 second.1 in
    let on : second.0.0 ≡ codes "on" = (bytes_eq-Decides second.0.0 (codes "on")).0 kept.0 in
    subst (λ (p : List ℕ × List ℕ). IsOnLine text p.0 p.1) kept.1 record {
      whole = one.whole ∙ (ap (λ w. first.0.0 ++ 32 ∷ w) other.whole ∙ ap (λ w. first.0.0 ++ 32 ∷ (w ++ 32 ∷ second.0.1)) on);
    }

parts_read : (word rest : List ℕ) → 0 < length word → Lacks 32 word → index_parts (word ++ (codes " on " ++ rest)) ≡ Ok (word, rest)
unfolding index_parts
parts_read word rest some lacks =
    rw (word_read word (codes "on " ++ rest) some lacks) (rw (word_read (codes "on") rest (omega arith) refl) refl)

-- the index that is read of the parts of a text
index_added : (tables : List TableDef) (text name rest : List ℕ) (found : ℕ × IndexDef) → IsOnLine text name rest → index_of tables name rest ≡ Some found →
    DeclaresIndex tables (codes "index " ++ text) found.0 found.1
index_added tables text name rest found on is =
    let read = index_text_is tables name rest found.0 found.1 is in
    record {
      text = rest;
      cut = ap (λ w. codes "index " ++ w) (on.whole ∙ ap (λ w. w ++ (codes " on " ++ rest)) (sym read.0));
      spells = read.1;
    }

index_declared : (tables : List TableDef) (text : List ℕ) (more : List TableDef) → with_index tables text ≡ Ok more →
    Declares tables (codes "index " ++ text) more × IsSchema (shown_only more)
unfolding with_index
index_declared tables text more is =
    let parts = bind_ok (index_parts text) _ more is in
    let on = parts_are text parts.0 parts.1 in
    let found = bind_ok (ok_or (index_of tables parts.0.0 parts.0.1) BadIndex) _ more parts.2 in
    let declares = index_added tables text parts.0.0 parts.0.1 found.0 on (or_ok (index_of tables parts.0.0 parts.0.1) BadIndex found.0 found.1) in
    let kept = kept_is BadIndex (add_index tables found.0.0 found.0.1) more found.2 in
    (inr (found.0.0, found.0.1, declares, sym kept.same), kept.schema)

index_line_read : (tables : List TableDef) (line : List ℕ) (at : ℕ) (index : IndexDef) → DeclaresIndex tables line at index → IsSchema (shown_only (add_index tables at index)) →
    declared_by tables line ≡ Ok (add_index tables at index)
unfolding declared_by with_index
index_line_read tables line at index is schema =
    let word = name_word index.name is.spells.name in
    rw is.cut (rw (cut_at 32 (codes "index") (index.name ++ (codes " on " ++ is.text)) refl)
    (rw (parts_read index.name is.text word.some word.lacks) (rw (index_text_read tables is.text at index is.spells)
    (kept_read BadIndex (add_index tables at index) schema))))

-- ---- whole lines

declared_is : (tables : List TableDef) (word rest : List ℕ) (more : List TableDef) → declared tables word rest ≡ Ok more →
    Declares tables (word ++ 32 ∷ rest) more × IsSchema (shown_only more)
declared_is tables word rest more is = by (bytes_eq word (codes "table")) refl is
  where
    index : (b : Bool) → bytes_eq word (codes "index") ≡ b → cond b (with_index tables rest) (Err BadLine) ≡ Ok more → Declares tables (word ++ 32 ∷ rest) more × IsSchema (shown_only more)
    index true same found =
        subst (λ w. Declares tables (w ++ 32 ∷ rest) more × IsSchema (shown_only more)) (sym ((bytes_eq-Decides word (codes "index")).0 same)) (index_declared tables rest more found)
    index false other found = cc

    by : (b : Bool) → bytes_eq word (codes "table") ≡ b → cond b (with_table tables rest) (cond (bytes_eq word (codes "index")) (with_index tables rest) (Err BadLine)) ≡ Ok more →
        Declares tables (word ++ 32 ∷ rest) more × IsSchema (shown_only more)
    by true same found =
        subst (λ w. Declares tables (w ++ 32 ∷ rest) more × IsSchema (shown_only more)) (sym ((bytes_eq-Decides word (codes "table")).0 same)) (table_declared tables rest more found)
    by false other found = index (bytes_eq word (codes "index")) refl found

alone_is_bad : (tables : List TableDef) (line : List ℕ) (more : List TableDef) → alone line ≡ Ok more → ⊥
alone_is_bad tables line more is = by (bytes_eq line (codes "table")) (bytes_eq line (codes "index")) is
  where
    by : (a b : Bool) → cond a (Err BadTable) (cond b (Err BadIndex) (Err BadLine)) ≡ Ok more → ⊥
    by true b found = cc
    by false true found = cc
    by false false found = cc

by_word_is : (tables : List TableDef) (text : List ℕ) (more : List TableDef) (found : Option (List ℕ × List ℕ)) → cut 32 text ≡ found → by_word tables text found ≡ Ok more →
    Declares tables text more × IsSchema (shown_only more)
by_word_is tables text more None is read = absurd (alone_is_bad tables text more read)
by_word_is tables text more (Some parts) is read =
    let cut = cut_parts 32 text parts is in
    subst (λ t. Declares tables t more × IsSchema (shown_only more)) (sym cut.whole) (declared_is tables parts.0 parts.1 more read)

-- a line of which tables were read is a text, declares what it adds to them, and leaves a schema
pub record IsHeadLine (tables : List TableDef) (line : List ℕ) (more : List TableDef) : Type 0 where
  pub utf8 : is_utf8 line ≡ true
  pub declares : Declares tables line more
  pub schema : IsSchema (shown_only more)

pub head_line_is : (tables : List TableDef) (line : List ℕ) (more : List TableDef) → table_line tables line ≡ Ok more → IsHeadLine tables line more
unfolding table_line declared_by
head_line_is tables line more is =
    let text = when_ok (is_utf8 line) (declared_by tables line) more NotUtf8 is in
    let found = by_word_is tables line more (cut 32 line) refl text.1 in
    record { utf8 = text.0; declares = found.0; schema = found.1 }

pub head_line_read : (tables : List TableDef) (line : List ℕ) (more : List TableDef) → IsHeadLine tables line more → table_line tables line ≡ Ok more
unfolding table_line
head_line_read tables line more is = rw is.utf8 (by is.declares)
  where
    by : Declares tables line more → declared_by tables line ≡ Ok more
    by (inl (table, declares, same)) =
        table_line_read tables line table declares (subst (λ ts. IsSchema (shown_only ts)) same is.schema) ∙ ap Ok (sym same)
    by (inr (at, index, declares, same)) =
        index_line_read tables line at index declares (subst (λ ts. IsSchema (shown_only ts)) same is.schema) ∙ ap Ok (sym same)

-- the line that ends the head declares nothing
pub begin_declares_nothing : (tables more : List TableDef) → Declares tables (codes "begin") more → ⊥
begin_declares_nothing tables more (inl (table, declares, same)) = cc (declares.cut)
begin_declares_nothing tables more (inr (at, index, declares, same)) = cc (declares.cut)

-- a line that declares leaves a schema
pub line_leaves_schema : (tables : List TableDef) (line : List ℕ) (more : List TableDef) → table_line tables line ≡ Ok more → IsSchema (shown_only more)
line_leaves_schema tables line more is = (head_line_is tables line more is).schema
