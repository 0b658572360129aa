-- Laws: the changes of statements are such as a net takes.
use Rattle.std.proofs.Common.{◌≡◌, ℕ, Bool, true, false, ◌||◌, IsSome, List, get_or, refl, sym, ◌∙◌, subst}
use Rattle.std.specs.List.{IsDistinct}
use Rattle.std.specs.List.Sorted.{IsStrictlySortedBy}
use Rattle.std.specs.Option.{is_some}
use Rattle.std.proofs.lemmas.List.Elements.{All-weaker}
use Rattle.std.proofs.lemmas.Map.Keys.{IsDistinct-from_sorted}
use Rattle.geo_base.specs.Order.{row_cmp, row_eq}
use Rattle.geo_base.specs.declared.row_id.RowId.{RowId}
use Rattle.geo_schema.specs.Schemas.{Tables}
use Rattle.sql_exec.specs.Changes.{AreChangesOfRows, ArePutsOfNewRows, AreTouches, CanBeApplied, IsPut, IsSoundChange, MayChange, rows_named}
use Rattle.sql_exec.specs.laws.KeptRows.{found_in_base}
use Rattle.write_set.specs.declared.change.Change.{Change}
use Rattle.write_set.specs.declared.change.Change.TheVariants.{Put, Remove, Touch}
use Rattle.write_set.specs.declared.row_change.RowChange.{RowChange}
use Rattle.write_set.specs.Overlay.{Table, image_in, overlay}
use Rattle.write_set.specs.Sets.{ChangeOfRow, Rises, has_row}

-- ---- one change

put_may : (held before : Bool) (change : Change) → IsPut change → MayChange held before change
put_may held before (Put image) put = tt
put_may held before Remove put = absurd put
put_may held before Touch put = absurd put

-- rows in rising order are apart
apart : (changes : List RowChange) → IsStrictlySortedBy row_cmp (rows_named changes) → IsDistinct row_eq (rows_named changes)
unfolding row_eq
apart changes rising = IsDistinct-from_sorted row_cmp (rows_named changes) rising

-- a row that is there is in the net or in the base
had : (base : Table) (own : List ChangeOfRow) → Rises base → Rises own → (row : RowId) (before : Bool) → before ≡ is_some (image_in base row) →
    IsSome (image_in (overlay base own) row) → (has_row row own || before) ≡ true
had base own rises own_rises row before is there = by (has_row row own) refl
  where
    by : (b : Bool) → has_row row own ≡ b → (has_row row own || before) ≡ true
    by true has = rw has refl
    by false lacks = rw lacks (is ∙ found_in_base base own rises own_rises row lacks there)

-- ---- those of a statement

module _ (tables : Tables) (number : ℕ) (base : Table) (own : List ChangeOfRow) (changes : List RowChange) where
  abbrev May : RowChange → Type 0
  May c = MayChange (has_row c.row own) c.before c.change

  pub new_rows_applied : ArePutsOfNewRows tables number base own changes → CanBeApplied own changes
  new_rows_applied are = record {
    each = All-weaker (λ (c : RowChange). IsPut c.change) May (λ c put. put_may (has_row c.row own) c.before c.change put) changes are.puts;
    once = are.apart;
  }

  pub puts_applied : AreChangesOfRows IsPut tables number base own changes → CanBeApplied own changes
  puts_applied are = record {
    each = All-weaker (λ (c : RowChange). IsPut c.change) May (λ c put. put_may (has_row c.row own) c.before c.change put) changes are.kind;
    once = apart changes are.rising;
  }

  one_removed : Rises base → Rises own → (c : RowChange) → IsSoundChange tables base c → c.change ≡ Remove → IsSome (image_in (overlay base own) c.row) → May c
  one_removed rises own_rises c sound removes there =
      subst (MayChange (has_row c.row own) c.before) (sym removes) (had base own rises own_rises c.row c.before sound.before there)

  one_touched : (c : RowChange) → c.change ≡ Touch → c.before ≡ true → May c
  one_touched c touches known = subst (MayChange (has_row c.row own) c.before) (sym touches) known

  pub removals_applied : Rises base → Rises own → AreChangesOfRows (λ change. change ≡ Remove) tables number base own changes → CanBeApplied own changes
  removals_applied rises own_rises are = record {
    each = λ k d within. one_removed rises own_rises (get_or changes k d) (are.sound k d within) (are.kind k d within) (are.there k d within);
    once = apart changes are.rising;
  }

  pub touches_applied : AreTouches tables number base own changes → CanBeApplied own changes
  touches_applied are = record {
    each = λ k d within. one_touched (get_or changes k d) (are.rows.kind k d within) (are.known k d within);
    once = apart changes are.rows.rising;
  }
