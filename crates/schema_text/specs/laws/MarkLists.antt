-- Lists of marks with commas between their items.
use Rattle.std.proofs.Common.{◌≡◌, ◌<◌, Bool, true, false, not, cond, List, [], ◌∷◌, ◌++◌, length, Option, Some, refl, sym, ap, ◌∙◌, subst, arith, inl, inr}
use Rattle.std.specs.List.{slice_split, onto_first, list_all}
use Rattle.std.proofs.lemmas.Bool.{and_parts, not-true}
use Rattle.std.proofs.lemmas.List.Splits.{length-slice_split}
use Rattle.geo_schema.specs.declared.column.Kind.{Kind}
use Rattle.geo_schema.specs.declared.column.Kind.TheVariants as kind
use Rattle.schema_text.specs.declared.column.Column.{Column}
use Rattle.schema_text.specs.declared.mark.Mark.{Mark}
use Rattle.schema_text.specs.declared.mark.Mark.TheVariants as mark
use Rattle.schema_text.specs.inner.Marks.{is_comma}
use Rattle.schema_text.specs.Spelling.{SpellsKind, if_so, SpellsColumn, AreItems}
use Rattle.schema_text.specs.inner.Texts.{sized, all_read}
use Rattle.schema_text.specs.laws.Inversions.{then_some, map_some, some_same}

-- ---- lists

-- no comma is among the marks
abbrev pub IsCommaFree : List Mark → Type 0
IsCommaFree marks = list_all (λ m. not (is_comma m)) marks ≡ true

free_append : (xs ys : List Mark) → IsCommaFree xs → IsCommaFree ys → IsCommaFree (xs ++ ys)
free_append [] ys front back = back
free_append (x ∷ xs) ys front back =
    let parts = and_parts (not (is_comma x)) (list_all (λ m. not (is_comma m)) xs) front in rw (parts.0, free_append xs ys parts.1 back) refl

split_free : (marks : List Mark) → IsCommaFree marks → slice_split is_comma marks ≡ marks ∷ []
split_free [] free = refl
split_free (m ∷ marks) free =
    let parts = and_parts (not (is_comma m)) (list_all (λ x. not (is_comma x)) marks) free in
    rw (not-true (is_comma m) parts.0, split_free marks parts.1) refl

split_comma : (front rest : List Mark) → IsCommaFree front → slice_split is_comma (front ++ mark.Comma ∷ rest) ≡ front ∷ slice_split is_comma rest
split_comma [] rest free = refl
split_comma (m ∷ front) rest free =
    let parts = and_parts (not (is_comma m)) (list_all (λ x. not (is_comma x)) front) free in
    rw (not-true (is_comma m) parts.0, split_comma front rest parts.1) refl

kind_free : (of : Kind) (front : List Mark) → SpellsKind of front → IsCommaFree front
kind_free kind.Int front spells = rw spells refl
kind_free kind.Truth front spells = rw spells refl
kind_free (kind.Text max) front (few, inl alone) = rw (alone.1) refl
kind_free (kind.Text max) front (few, inr sized) = rw sized refl

tail_free : (not_null is_key : Bool) → IsCommaFree (if_so not_null (mark.Not ∷ mark.Null ∷ []) ++ if_so is_key (mark.Key ∷ []))
tail_free false false = refl
tail_free false true = refl
tail_free true false = refl
tail_free true true = refl

pub column_free : (column : Column) (marks : List Mark) → SpellsColumn column marks → IsCommaFree marks
column_free column marks is = rw is.whole (free_append is.kind _ (kind_free column.def.kind is.kind is.spells) (tail_free column.def.not_null column.is_key))

-- the parts with a comma between each two
abbrev joined : List (List Mark) → List Mark
joined [] = []
joined (part ∷ []) = part
joined (part ∷ next ∷ parts) = part ++ mark.Comma ∷ joined (next ∷ parts)

joined_onto : (m : Mark) (parts : List (List Mark)) → joined (onto_first m parts) ≡ m ∷ joined parts
joined_onto m [] = refl
joined_onto m (part ∷ []) = refl
joined_onto m (part ∷ next ∷ parts) = refl

comma_is : (m : Mark) → is_comma m ≡ true → m ≡ mark.Comma
comma_is mark.Comma is = refl
comma_is _ is = cc

some_parts : (marks : List Mark) → 0 < length (slice_split is_comma marks)
some_parts marks = omega (arith, length-slice_split is_comma marks)

joined_nothing : (parts : List (List Mark)) → 0 < length parts → joined ([] ∷ parts) ≡ mark.Comma ∷ joined parts
joined_nothing [] some = absurd (omega arith)
joined_nothing (part ∷ parts) some = refl

split_joined : (marks : List Mark) → joined (slice_split is_comma marks) ≡ marks
split_joined [] = refl
split_joined (m ∷ marks) = by (is_comma m) refl (split_joined marks)
  where
    by : (b : Bool) → is_comma m ≡ b → joined (slice_split is_comma marks) ≡ marks → joined (cond b ([] ∷ slice_split is_comma marks) (onto_first m (slice_split is_comma marks))) ≡ m ∷ marks
    by true is more = joined_nothing (slice_split is_comma marks) (some_parts marks) ∙ (ap (λ x. x ∷ joined (slice_split is_comma marks)) (sym (comma_is m is)) ∙ ap (λ ms. m ∷ ms) more)
    by false is more = joined_onto m (slice_split is_comma marks) ∙ ap (λ ms. m ∷ ms) more

module _ {A : Type 0} (of : List Mark → Option A) (IsItem : A → List Mark → Type 0) where
  -- what is read is what is spelled
  abbrev pub Reads : Type 0
  Reads = (marks : List Mark) (item : A) → of marks ≡ Some item → IsItem item marks

  items_of_parts : Reads → (parts : List (List Mark)) (items : List A) → 0 < length parts → all_read of parts ≡ Some items → AreItems IsItem items (joined parts)
  items_of_parts reads [] items some is = absurd (omega arith)
  items_of_parts reads (part ∷ []) items some is =
      let first = then_some _ (of part) items is in
      let same : first.0 ∷ [] ≡ items = some_same first.2 in
      subst (λ all. AreItems IsItem all part) same (reads part first.0 first.1)
  items_of_parts reads (part ∷ next ∷ parts) items some is =
      let first = then_some _ (of part) items is in
      let more = map_some (λ others. first.0 ∷ others) (all_read of (next ∷ parts)) items first.2 in
      let others = items_of_parts reads (next ∷ parts) more.0 (omega arith) more.1 in
      subst (λ all. AreItems IsItem all (joined (part ∷ next ∷ parts))) more.2
      (onto first.0 more.0 part (joined (next ∷ parts)) (reads part first.0 first.1) others)
    where
      onto : (item : A) (items : List A) (front rest : List Mark) → IsItem item front → AreItems IsItem items rest → AreItems IsItem (item ∷ items) (front ++ mark.Comma ∷ rest)
      onto item [] front rest one others = absurd others
      onto item (other ∷ items) front rest one others = (front, rest, refl, one, others)

  pub items_are : Reads → (marks : List Mark) (items : List A) → all_read of (slice_split is_comma marks) ≡ Some items → AreItems IsItem items marks
  items_are reads marks items is =
      subst (AreItems IsItem items) (split_joined marks) (items_of_parts reads (slice_split is_comma marks) items (some_parts marks) is)

  pub items_read : ((marks : List Mark) (item : A) → IsItem item marks → of marks ≡ Some item) → ((item : A) (marks : List Mark) → IsItem item marks → IsCommaFree marks) →
      (items : List A) (marks : List Mark) → AreItems IsItem items marks → all_read of (slice_split is_comma marks) ≡ Some items
  items_read reads free [] marks are = absurd are
  items_read reads free (item ∷ []) marks are = rw (split_free marks (free item marks are)) (rw (reads marks item are) refl)
  items_read reads free (item ∷ next ∷ items) marks (first, more, whole, one, others) =
      rw whole (rw (split_comma first more (free item first one)) (rw (reads first item one, items_read reads free (next ∷ items) more others) refl))

  pub items_count : ((item : A) (marks : List Mark) → IsItem item marks → IsCommaFree marks) → (items : List A) (marks : List Mark) → AreItems IsItem items marks →
      length (slice_split is_comma marks) ≡ length items
  items_count free [] marks are = absurd are
  items_count free (item ∷ []) marks are = ap length (split_free marks (free item marks are))
  items_count free (item ∷ next ∷ items) marks (first, more, whole, one, others) =
      ap (λ ms. length (slice_split is_comma ms)) whole ∙ (ap length (split_comma first more (free item first one)) ∙ omega (arith, items_count free (next ∷ items) more others))
