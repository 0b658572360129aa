-- An index is read of a name and a text exactly where it has the name and the text spells it.
use Rattle.std.proofs.Common.{◌≡◌, ℕ, List, [], ◌∷◌, Some, refl, sym, ap, ◌∙◌, subst}
use Rattle.std.specs.Option.{option_map, option_and_then}
use Rattle.std.specs.Str.{bytes_eq}
use Rattle.std.proofs.lemmas.Slice.Eq.{bytes_eq-Decides}
use Rattle.geo_schema.specs.declared.column.ColumnDef.{ColumnDef}
use Rattle.geo_schema.specs.declared.index.IndexDef.{IndexDef}
use Rattle.geo_schema.specs.declared.table.TableDef.{TableDef}
use Rattle.geo_schema.specs.Schemas.{number_of}
use Rattle.geo_schema.specs.Tables.{table_in}
use Rattle.schema_text.specs.declared.mark.Mark.{Mark}
use Rattle.schema_text.specs.declared.mark.Mark.TheVariants as mark
use Rattle.schema_text.specs.inner.Marks.{marks_of}
use Rattle.schema_text.specs.inner.Texts.{listed, all_read, name_of, index_name, named_list, index_with, index_at, index_of}
use Rattle.schema_text.specs.Spelling.{IsNamedList, HasMarks, AreAtPlaces, IsIndexText}
use Rattle.schema_text.specs.Tables.{column_place}
use Rattle.schema_text.specs.laws.Inversions.{then_some, map_some, if_some, some_same}
use Rattle.schema_text.specs.laws.Listed.{listed_is, listed_read, name_is, name_read, name_free}
use Rattle.schema_text.specs.laws.MarkLists.{items_are, items_read}
use Rattle.schema_text.specs.laws.TextMarks.{marks_are, marks_read}

index_name_is : (word name : List ℕ) → index_name word ≡ Some name → HasMarks name (mark.Name name ∷ []) × (word ≡ name)
unfolding index_name
index_name_is word name is =
    let found = then_some _ (option_and_then name_of (marks_of word)) name is in
    let kept = if_some (bytes_eq found.0 word) found.0 name found.2 in
    let same : found.0 ≡ word = (bytes_eq-Decides found.0 word).0 kept.0 in
    let marks = then_some name_of (marks_of word) found.0 found.1 in
    let shape = name_is marks.0 found.0 marks.2 in
    let word_is_name : word ≡ name = sym same ∙ kept.1 in
    let has = subst (HasMarks word) (shape ∙ ap (λ n. mark.Name n ∷ []) kept.1) (marks_are word marks.0 marks.1) in
    (subst (λ w. HasMarks w (mark.Name name ∷ [])) word_is_name has, word_is_name)

index_name_read : (name : List ℕ) → HasMarks name (mark.Name name ∷ []) → index_name name ≡ Some name
unfolding index_name name_of
index_name_read name has = rw (marks_read name (mark.Name name ∷ []) has) (rw ((bytes_eq-Decides name name).1 refl) refl)

named_is : (marks : List Mark) (list : List ℕ × List (List ℕ)) → named_list marks ≡ Some list → IsNamedList (λ name m. m ≡ mark.Name name ∷ []) list.0 list.1 marks
unfolding named_list
named_is (mark.Name name ∷ marks) list is =
    let IsItem : List ℕ → List Mark → Type 0 = λ n m. m ≡ mark.Name n ∷ [] in
    let found = map_some (λ names. (name, names)) (option_and_then (all_read name_of) (listed marks)) list is in
    let parts = then_some (all_read name_of) (listed marks) found.0 found.1 in
    let in' = listed_is marks parts.0 parts.1 in
    let items = items_are name_of IsItem name_is in'.inner found.0 (ap (all_read name_of) in'.cut ∙ parts.2) in
    subst (λ (l : List ℕ × List (List ℕ)). IsNamedList IsItem l.0 l.1 (mark.Name name ∷ marks)) found.2 (in'.inner, ap (λ ms. mark.Name name ∷ ms) in'.whole, items)
named_is _ list is = cc

named_read : (name : List ℕ) (names : List (List ℕ)) (marks : List Mark) → IsNamedList (λ n m. m ≡ mark.Name n ∷ []) name names marks → named_list marks ≡ Some (name, names)
unfolding named_list
named_read name names marks (inner, whole, items) =
    rw whole (rw (listed_read inner) (rw (items_read name_of (λ n m. m ≡ mark.Name n ∷ []) name_read name_free names inner items) refl))

places_are : (columns : List ColumnDef) (names : List (List ℕ)) (places : List ℕ) → all_read (column_place columns) names ≡ Some places → AreAtPlaces columns names places
places_are columns [] places is = subst (AreAtPlaces columns []) (some_same is) tt
places_are columns (name ∷ names) places is =
    let first = then_some _ (column_place columns name) places is in
    let more = map_some (λ others. first.0 ∷ others) (all_read (column_place columns) names) places first.2 in
    subst (AreAtPlaces columns (name ∷ names)) more.2 (first.1, places_are columns names more.0 more.1)

places_read : (columns : List ColumnDef) (names : List (List ℕ)) (places : List ℕ) → AreAtPlaces columns names places → all_read (column_place columns) names ≡ Some places
places_read columns [] [] are = refl
places_read columns [] (place ∷ places) are = absurd are
places_read columns (name ∷ names) [] are = absurd are
places_read columns (name ∷ names) (place ∷ places) are = rw are.0 (rw (places_read columns names places are.1) refl)

-- ---- texts

-- the index that is read of a name and a text has the name, and is spelled by the text
record IsRead (tables : List TableDef) (name text : List ℕ) (found : ℕ × IndexDef) : Type 0 where
  named : found.1.name ≡ name
  spells : IsIndexText tables text found.0 found.1

index_read : (tables : List TableDef) (name text : List ℕ) (found : ℕ × IndexDef) → index_of tables name text ≡ Some found → IsRead tables name text found
unfolding index_of index_at
index_read tables word text found is =
    let name = then_some _ (index_name word) found is in
    let named = index_name_is word name.0 name.1 in
    let list = then_some _ (option_and_then named_list (marks_of text)) found name.2 in
    let marks = then_some named_list (marks_of text) list.0 list.1 in
    let at = then_some _ (number_of tables list.0.0) found list.2 in
    let made = map_some (λ index. (at.0, index)) (option_map (index_with name.0) (all_read (column_place (table_in tables at.0).columns) list.0.1)) found at.2 in
    let places = map_some (index_with name.0) (all_read (column_place (table_in tables at.0).columns) list.0.1) made.0 made.1 in
    let spells : IsIndexText tables text at.0 (index_with name.0 places.0) = record {
      marks = marks.0;
      table = list.0.0;
      columns = list.0.1;
      name = named.0;
      tokens = marks_are text marks.0 marks.1;
      spells = named_is marks.0 list.0 marks.2;
      found = at.1;
      places = places_are (table_in tables at.0).columns list.0.1 places.0 places.1;
    } in
    let same : (at.0, index_with name.0 places.0) ≡ found = ap (λ i. (at.0, i)) places.2 ∙ made.2 in
    subst (IsRead tables word text) same record { named = sym named.1; spells = spells }

-- an index that a text spells is read of its name and the text
pub index_text_read : (tables : List TableDef) (text : List ℕ) (at : ℕ) (index : IndexDef) → IsIndexText tables text at index → index_of tables index.name text ≡ Some (at, index)
unfolding index_of index_at
index_text_read tables text at index is =
    rw (index_name_read index.name is.name)
    (rw (marks_read text is.marks is.tokens) (rw (named_read is.table is.columns is.marks is.spells) (rw is.found
    (rw (places_read (table_in tables at).columns is.columns index.columns is.places) refl))))

pub index_text_is : (tables : List TableDef) (name text : List ℕ) (at : ℕ) (index : IndexDef) → index_of tables name text ≡ Some (at, index) →
    (index.name ≡ name) × IsIndexText tables text at index
index_text_is tables name text at index is = let read = index_read tables name text (at, index) is in (read.named, read.spells)

pub index_text_named : (tables : List TableDef) (name text : List ℕ) (at : ℕ) (index : IndexDef) → index.name ≡ name → IsIndexText tables text at index →
    index_of tables name text ≡ Some (at, index)
index_text_named tables name text at index named spells =
    ap (λ n. index_of tables n text) (sym named) ∙ index_text_read tables text at index spells
