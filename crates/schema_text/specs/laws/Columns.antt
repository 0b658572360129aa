-- Marks are read as a column exactly where they spell it.
use Rattle.std.proofs.Common.{◌≡◌, Bool, true, false, List, [], ◌∷◌, ◌++◌, Some, nat_le, refl, sym, ap, subst, arith, inl, inr}
use Rattle.std.specs.Prelude.{ℤ, pos, negsuc}
use Rattle.std.proofs.lemmas.Bool.{leb-true, le-leb}
use Rattle.geo_base.specs.declared.limits.TheConstants.{MAX_TEXT_BYTES}
use Rattle.geo_schema.specs.declared.column.Kind.{Kind}
use Rattle.geo_schema.specs.declared.column.Kind.TheVariants as kind
use Rattle.schema_text.specs.declared.column.Column.{Column}
use Rattle.schema_text.specs.declared.column.Typed.{Typed}
use Rattle.schema_text.specs.declared.mark.Mark.{Mark}
use Rattle.schema_text.specs.declared.mark.Mark.TheVariants as mark
use Rattle.schema_text.specs.Spelling.{SpellsKind, if_so, SpellsColumn}
use Rattle.schema_text.specs.inner.Texts.{typed, sized, text_column, typed_column, named_column, column_of}
use Rattle.schema_text.specs.laws.Inversions.{map_some, when_some, some_same}

-- ---- columns

-- what may stand behind a kind
abbrev tail_marks : Typed → List Mark
tail_marks t = if_so t.not_null (mark.Not ∷ mark.Null ∷ []) ++ if_so t.is_key (mark.Key ∷ [])

record IsTyped (of : Kind) (marks : List Mark) (t : Typed) : Type 0 where
  same : t.kind ≡ of
  whole : marks ≡ tail_marks t

typed_is : (of : Kind) (marks : List Mark) (t : Typed) → typed of marks ≡ Some t → IsTyped of marks t
unfolding typed
typed_is of [] t is = subst (IsTyped of []) (some_same is) record { same = refl; whole = refl }
typed_is of (mark.Key ∷ []) t is = subst (IsTyped of (mark.Key ∷ [])) (some_same is) record { same = refl; whole = refl }
typed_is of (mark.Not ∷ mark.Null ∷ []) t is = subst (IsTyped of (mark.Not ∷ mark.Null ∷ [])) (some_same is) record { same = refl; whole = refl }
typed_is of (mark.Not ∷ mark.Null ∷ mark.Key ∷ []) t is =
    subst (IsTyped of (mark.Not ∷ mark.Null ∷ mark.Key ∷ [])) (some_same is) record { same = refl; whole = refl }
typed_is of _ t is = cc

typed_read : (of : Kind) (not_null is_key : Bool) →
    typed of (if_so not_null (mark.Not ∷ mark.Null ∷ []) ++ if_so is_key (mark.Key ∷ [])) ≡ Some (record { kind = of; not_null = not_null; is_key = is_key })
unfolding typed
typed_read of false false = refl
typed_read of false true = refl
typed_read of true false = refl
typed_read of true true = refl

-- what stands behind a column's name
record IsTypedColumn (marks : List Mark) (t : Typed) : Type 0 where
  kind : List Mark
  spells : SpellsKind t.kind kind
  whole : marks ≡ kind ++ tail_marks t

plain_column : (of : Kind) (word : Mark) (marks : List Mark) (t : Typed) → SpellsKind of (word ∷ []) → IsTyped of marks t → IsTypedColumn (word ∷ marks) t
plain_column of word marks t spells is =
    record { kind = word ∷ []; spells = subst (λ k. SpellsKind k (word ∷ [])) (sym is.same) spells; whole = ap (λ ms. word ∷ ms) is.whole }

sized_is : (max : ℤ) (marks : List Mark) (t : Typed) → sized max marks ≡ Some t → IsTypedColumn (mark.Text ∷ mark.Open ∷ mark.Number max ∷ mark.Close ∷ marks) t
sized_is (pos max) marks t is =
    let fits = when_some (nat_le max MAX_TEXT_BYTES) (typed (kind.Text max) marks) t is in
    let typed = typed_is (kind.Text max) marks t fits.1 in
    let front : List Mark = mark.Text ∷ mark.Open ∷ mark.Number (pos max) ∷ mark.Close ∷ [] in
    let spells : SpellsKind (kind.Text max) front = (leb-true max MAX_TEXT_BYTES fits.0, inr refl) in
    record { kind = front; spells = subst (λ k. SpellsKind k front) (sym typed.same) spells; whole = ap (λ ms. front ++ ms) typed.whole }
sized_is (negsuc max) marks t is = cc

all_bytes : SpellsKind (kind.Text MAX_TEXT_BYTES) (mark.Text ∷ [])
all_bytes = (omega arith, inl (refl, refl))

text_column_is : (marks : List Mark) (t : Typed) → text_column marks ≡ Some t → IsTypedColumn (mark.Text ∷ marks) t
unfolding text_column
text_column_is (mark.Open ∷ mark.Number max ∷ mark.Close ∷ marks) t is = sized_is max marks t is
text_column_is marks t is = plain_column (kind.Text MAX_TEXT_BYTES) mark.Text marks t all_bytes (typed_is (kind.Text MAX_TEXT_BYTES) marks t is)

typed_column_is : (marks : List Mark) (t : Typed) → typed_column marks ≡ Some t → IsTypedColumn marks t
unfolding typed_column
typed_column_is (mark.Int ∷ marks) t is = plain_column kind.Int mark.Int marks t refl (typed_is kind.Int marks t is)
typed_column_is (mark.Text ∷ marks) t is = text_column_is marks t is
typed_column_is (mark.Bool ∷ marks) t is = plain_column kind.Truth mark.Bool marks t refl (typed_is kind.Truth marks t is)
typed_column_is _ t is = cc

pub column_is : (marks : List Mark) (column : Column) → column_of marks ≡ Some column → SpellsColumn column marks
unfolding column_of
column_is (mark.Name name ∷ marks) column is =
    let found = map_some (named_column name) (typed_column marks) column is in
    let typed = typed_column_is marks found.0 found.1 in
    subst (λ (c : Column). SpellsColumn c (mark.Name name ∷ marks)) found.2 record { kind = typed.kind; spells = typed.spells; whole = ap (λ ms. mark.Name name ∷ ms) typed.whole }
column_is _ column is = cc

-- ---- columns that are spelled

typed_column_read : (of : Kind) (not_null is_key : Bool) (front : List Mark) → SpellsKind of front →
    typed_column (front ++ (if_so not_null (mark.Not ∷ mark.Null ∷ []) ++ if_so is_key (mark.Key ∷ []))) ≡ Some (record { kind = of; not_null = not_null; is_key = is_key })
unfolding typed_column text_column
typed_column_read kind.Int not_null is_key front spells = rw spells (typed_read kind.Int not_null is_key)
typed_column_read kind.Truth not_null is_key front spells = rw spells (typed_read kind.Truth not_null is_key)
typed_column_read (kind.Text max) not_null is_key front (few, inr sized) = rw sized (rw (le-leb max MAX_TEXT_BYTES few) (typed_read (kind.Text max) not_null is_key))
typed_column_read (kind.Text max) false false front (few, inl alone) = rw (alone.1, alone.0) (typed_read (kind.Text MAX_TEXT_BYTES) false false)
typed_column_read (kind.Text max) false true front (few, inl alone) = rw (alone.1, alone.0) (typed_read (kind.Text MAX_TEXT_BYTES) false true)
typed_column_read (kind.Text max) true false front (few, inl alone) = rw (alone.1, alone.0) (typed_read (kind.Text MAX_TEXT_BYTES) true false)
typed_column_read (kind.Text max) true true front (few, inl alone) = rw (alone.1, alone.0) (typed_read (kind.Text MAX_TEXT_BYTES) true true)

pub column_read : (marks : List Mark) (column : Column) → SpellsColumn column marks → column_of marks ≡ Some column
unfolding column_of
column_read marks column is =
    rw is.whole (rw (typed_column_read column.def.kind column.def.not_null column.is_key is.kind is.spells) refl)
