-- The change of a new row behind those of the rows before it.
use Rattle.std.proofs.Common.{◌≡◌, Bool, true, false, ◌||◌, cond, if◌then◌else◌, Option, Result, Ok, Err, List, [], ◌∷◌, ◌++◌, refl, sym, ap, ◌∙◌}
use Rattle.std.specs.BTreeMap.{is_at}
use Rattle.std.specs.List.{list_any}
use Rattle.std.specs.Option.{is_some}
use Rattle.std.proofs.lemmas.List.Folds.{list_any-append}
use Rattle.geo_base.specs.declared.cell.Cell.{Cell}
use Rattle.geo_base.specs.declared.row_id.RowId.{RowId}
use Rattle.geo_base.specs.declared.row_image.RowImage.{RowImage}
use Rattle.geo_base.specs.Order.{row_cmp, row_eq}
use Rattle.geo_base.specs.Results.{◌>>=◌}
use Rattle.geo_base.specs.laws.Orders.{row_eq_equiv}
use Rattle.geo_schema.specs.Schemas.{Tables, table_at}
use Rattle.row_source.specs.Matches.{value}
use Rattle.row_source.specs.declared.fault.ExecFault.{ExecFault}
use Rattle.row_source.specs.declared.fault.ExecFault.TheVariants as fault
use Rattle.sql_bind.specs.Steps.{each}
use Rattle.sql_bind.specs.declared.bound.BoundInsert.{BoundInsert}
use Rattle.sql_bind.specs.declared.bound.ExprRow.{ExprRow}
use Rattle.sql_exec.specs.Effects.{change_of, fitting, insert_one, inserted_cells, inserted_row}
use Rattle.sql_exec.specs.inner.Inserting.{AreNamesOf, has_name, new_image, new_row}
use Rattle.sql_exec.specs.inner.Naming.{name_in}
use Rattle.write_set.specs.Net.{change_in}
use Rattle.write_set.specs.Overlay.{Table, image_in, overlay}
use Rattle.write_set.specs.Sets.{ChangeOfRow, Rises}
use Rattle.write_set.specs.Snapshot.{image_over}
use Rattle.write_set.specs.declared.change.Change.TheVariants.{Put}
use Rattle.write_set.specs.declared.row_change.RowChange.{RowChange}
use Rattle.write_set.specs.laws.Tables.{image_laid_over}

abbrev Made : Type 0
Made = Result RowChange ExecFault

-- ---- a row that there is

module _ (base : Table) (own : List ChangeOfRow) (row : RowId) (cells : List Cell) (before left : Bool) (rises : Rises base) (net : Rises own)
    (had : before ≡ is_some (image_in base row)) (has : (image : Option RowImage) → is_some image ≡ before → left ≡ is_some (image_over (change_in own row) image)) where
  is_there : is_some (image_in (overlay base own) row) ≡ left
  is_there = ap is_some (image_laid_over base own row rises net) ∙ sym (has (image_in base row) (sym had))

  pub there : left ≡ true → new_row base own row cells ≡ Err (fault.Duplicate row)
  unfolding new_row
  there is = let has_it : is_some (image_in (overlay base own) row) ≡ true = is_there ∙ is in rw has_it refl

  pub absent : left ≡ false → new_row base own row cells ≡ Ok (record { row = row; before = before; change = Put cells })
  unfolding new_row
  absent is =
      let lacks : is_some (image_in (overlay base own) row) ≡ false = is_there ∙ is in
      rw lacks (ap (λ (b : Bool). let m : Made = Ok (record { row = row; before = b; change = Put cells }) in m) (sym had))

-- ---- names

pub noted : (names more : List RowId) (row : RowId) → ((q : RowId) → has_name more q ≡ cond (is_at (row_cmp row) q) true (has_name names q)) →
    (other : RowId) → has_name more other ≡ (has_name names other || row_eq other row)
unfolding row_eq
noted names more row is other =
    is other ∙ turned (row_eq row other) (has_name names other) ∙ ap (λ (b : Bool). has_name names other || b) (row_eq_equiv.symm row other)
  where
    turned : (a h : Bool) → cond a true h ≡ (h || a)
    turned true true = refl
    turned true false = refl
    turned false true = refl
    turned false false = refl

-- ---- a row behind others

module _ (base : Table) (own : List ChangeOfRow) (done : List RowChange) (names : List RowId) (row : RowId) (cells : List Cell) (are : AreNamesOf done names) where
  -- the name isn't noted
  pub not_noted : has_name names row ≡ false → inserted_row base own done row cells ≡ new_row base own row cells
  unfolding AreNamesOf new_row
  not_noted none = let lacks : list_any (λ c. row_eq row c.row) done ≡ false = sym (are row) ∙ none in by (is_some (image_in (overlay base own) row)) lacks
    where
      by : (b : Bool) → list_any (λ c. row_eq row c.row) done ≡ false →
          (let m : Made = if b || list_any (λ c. row_eq row c.row) done then Err (fault.Duplicate row) else Ok (change_of base row (Put cells)) in m)
          ≡ (if b then Err (fault.Duplicate row) else Ok (change_of base row (Put cells)))
      by true lacks = refl
      by false lacks = rw lacks refl

  -- it is
  pub is_noted : has_name names row ≡ true → inserted_row base own done row cells ≡ Err (fault.Duplicate row)
  unfolding AreNamesOf
  is_noted some = let has : list_any (λ c. row_eq row c.row) done ≡ true = sym (are row) ∙ some in by (is_some (image_in (overlay base own) row)) has
    where
      by : (b : Bool) → list_any (λ c. row_eq row c.row) done ≡ true →
          (let m : Made = if b || list_any (λ c. row_eq row c.row) done then Err (fault.Duplicate row) else Ok (change_of base row (Put cells)) in m) ≡ Err (fault.Duplicate row)
      by true has = refl
      by false has = rw has refl

  -- it is noted now
  pub one_more : (more : List RowId) (c : RowChange) → ((other : RowId) → has_name more other ≡ (has_name names other || row_eq other row)) →
      new_row base own row cells ≡ Ok c → AreNamesOf (done ++ c ∷ []) more
  unfolding AreNamesOf new_row
  one_more more c is made = λ other.
      let same : c.row ≡ row = row_of (is_some (image_in (overlay base own) row)) made in
      is other ∙ ap (λ (b : Bool). b || row_eq other row) (are other)
      ∙ ap (λ (r : RowId). list_any (λ x. row_eq other x.row) done || row_eq other r) (sym same)
      ∙ ap (λ (b : Bool). list_any (λ x. row_eq other x.row) done || b) (or_false (row_eq other c.row))
      ∙ sym (list_any-append (λ (x : RowChange). row_eq other x.row) done (c ∷ []))
    where
      or_false : (b : Bool) → b ≡ (b || false)
      or_false true = refl
      or_false false = refl

      row_of : (b : Bool) → (let m : Made = if b then Err (fault.Duplicate row) else Ok (change_of base row (Put cells)) in m) ≡ Ok c → c.row ≡ row
      row_of true e = absurd cc
      row_of false e = let same : change_of base row (Put cells) ≡ c = cc in ap (λ (x : RowChange). x.row) (sym same)

pub none_noted : (names : List RowId) → names ≡ [] → AreNamesOf [] names
unfolding AreNamesOf
none_noted names none = λ row. ap (λ (l : List RowId). has_name l row) none

-- ---- its image first

module _ (tables : Tables) (insert : BoundInsert) (base : Table) (own : List ChangeOfRow) (done : List RowChange) (row : ExprRow) where
  image_first : insert_one tables insert base own done row ≡ (new_image tables insert row >>= λ cells. inserted_row base own done (name_in tables insert.table cells) cells)
  unfolding new_image name_in
  image_first = by (each (value []) row.values)
    where
      made : List Cell → Made
      made cells = inserted_row base own done (name_in tables insert.table cells) cells

      by : (values : Result (List Cell) ExecFault) →
          (values >>= λ v. fitting (table_at tables insert.table) (inserted_cells (table_at tables insert.table) insert.columns v) >>= λ cells.
          inserted_row base own done (name_in tables insert.table cells) cells)
          ≡ ((values >>= λ v. fitting (table_at tables insert.table) (inserted_cells (table_at tables insert.table) insert.columns v)) >>= λ cells.
          inserted_row base own done (name_in tables insert.table cells) cells)
      by (Err e) = refl
      by (Ok v) = refl

  pub image_fault : (e : ExecFault) → new_image tables insert row ≡ Err e → insert_one tables insert base own done row ≡ Err e
  image_fault e is = image_first ∙ ap (λ (r : Result (List Cell) ExecFault). r >>= λ cells. inserted_row base own done (name_in tables insert.table cells) cells) is

  pub image_made : (cells : List Cell) (name : RowId) → new_image tables insert row ≡ Ok cells → name ≡ name_in tables insert.table cells →
      insert_one tables insert base own done row ≡ inserted_row base own done name cells
  image_made cells name is named =
      image_first
      ∙ ap (λ (r : Result (List Cell) ExecFault). r >>= λ x. inserted_row base own done (name_in tables insert.table x) x) is
      ∙ ap (λ (n : RowId). inserted_row base own done n cells) (sym named)
