-- Laws: what reading changes tells.
use Rattle.std.proofs.Common.{◌≡◌, ℕ, ◌+◌, ◌≤◌, cond, Option, Some, None, List, [], ◌∷◌, ◌++◌, length, Ok, Err, refl, sym, ap, subst, ◌⊎◌, inl, inr, arith}
use Rattle.std.specs.Bool.{Decides}
use Rattle.std.specs.List.Sorted.{IsStrictlySortedBy}
use Rattle.std.specs.Ordering.{is_lt}
use Rattle.std.specs.declared.cmp.Ordering.{Ordering}
use Rattle.std.specs.declared.cmp.Ordering.TheVariants as order
use Rattle.std.proofs.lemmas.Bool.Decides.{not_from_Decides}
use Rattle.geo_base.specs.declared.cell.Cell.{Cell}
use Rattle.geo_base.specs.declared.limits.TheConstants.{MAX_SET_ROWS}
use Rattle.geo_base.specs.declared.row_id.RowId.{RowId}
use Rattle.geo_base.specs.Order.{row_cmp}
use Rattle.geo_schema.specs.declared.table.TableDef.{TableDef}
use Rattle.geo_schema.specs.Schemas.{Tables, IsSchema, table_at}
use Rattle.geo_schema.specs.Tables.{TakesRows}
use Rattle.geo_schema.specs.laws.Numbers.{takes_rows}
use Rattle.row_codec.specs.Fields.{ByteStands}
use Rattle.row_codec.specs.Parts.{FirstOrLater}
use Rattle.row_codec.specs.Places.{AreBytes, StandsAt}
use Rattle.row_codec.specs.Spelling.{cells_spelling, AreCells}
use Rattle.row_codec.specs.laws.Places.{stands_together, front_stands, rest_stands, nothing_stands, nothing_between}
use Rattle.row_codec.specs.laws.Tells.{tells_as, tells_done, tells_then, tells_kept}
use Rattle.geo_base.specs.laws.Answers.{Tells}
use Rattle.row_codec.specs.laws.Things.{IsList, IsBehind, things_tell}
use Rattle.write_set.specs.declared.change.Change.{Change}
use Rattle.write_set.specs.declared.change.Change.TheVariants.{Put, Remove, Touch}
use Rattle.write_set.specs.Sets.{ChangeOfRow, Rises, IsWriteSet}
use Rattle.write_set.specs.laws.Rising.{rises_before}
use Rattle.set_codec.specs.declared.fault.CodecFault.{CodecFault}
use Rattle.set_codec.specs.declared.fault.CodecFault.TheVariants.{NotOrdered}
use Rattle.set_codec.specs.declared.format.Format.{Format}
use Rattle.set_codec.specs.declared.kind.Kind.{Kind}
use Rattle.set_codec.specs.declared.kind.Kind.TheVariants as kind
use Rattle.set_codec.specs.Faults.{IsTableFault, IsKindFault, IsKeyFault, IsCellsFault, IsDoneFault, IsChangeFault, IsChangesFault}
use Rattle.set_codec.specs.Fits.{FitsKey, FitsChange, FitsTable, HasCells, HasChange}
use Rattle.set_codec.specs.Rules.{IsAfter}
use Rattle.set_codec.specs.Spelling.{kind_of, kind_byte, cells_behind, change_spelling, changes_spelling}
use Rattle.set_codec.specs.Standing.{TableStands, KindStands, KeyStands, RowStands, AreAfter, row_before, ChangesStand}
use Rattle.set_codec.specs.inner.Reading.{is_after, table_no_at, kind_at, key_at, row_at, done_at, change_at, row_behind, changes_at}
use Rattle.set_codec.specs.laws.Fields.{table_tells, kind_tells}
use Rattle.set_codec.specs.laws.Rows.{key_tells, row_tells, taken_row, row_taken, key_is, key_same}

-- ---- the order of rows

decides_less : (o : Ordering) → Decides (is_lt o) (o ≡ order.Less)
decides_less order.Less = (λ _. refl, λ _. refl)
decides_less order.Equal = (λ e. cc, λ e. cc)
decides_less order.Greater = (λ e. cc, λ e. cc)

decides_after : (last : Option RowId) (row : RowId) → Decides (is_after last row) (IsAfter last row)
decides_after None row = (λ _. tt, λ _. refl)
decides_after (Some last) row = decides_less (row_cmp last row)

-- the rows of a write set are after one another
rows_after : (c : ChangeOfRow) (cs : List ChangeOfRow) → Rises (c ∷ cs) → AreAfter (Some c.0) cs
unfolding IsStrictlySortedBy
rows_after c [] rises = tt
rows_after c (d ∷ cs) rises = (rises.0.0, rows_after d cs rises.1)

pub set_after : (changes : List ChangeOfRow) → Rises changes → AreAfter None changes
set_after [] rises = tt
set_after (c ∷ cs) rises = (tt, rows_after c cs rises)

after_rise : (last : Option RowId) (changes : List ChangeOfRow) → AreAfter last changes → Rises changes
unfolding IsStrictlySortedBy
after_rise last [] after = tt
after_rise last (c ∷ []) after = (tt, tt)
after_rise last (c ∷ d ∷ cs) after = rises_before c d cs after.1.0 (after_rise (Some c.0) (d ∷ cs) after.1)

pub after_set : (changes : List ChangeOfRow) → length changes ≤ MAX_SET_ROWS → AreAfter None changes → IsWriteSet changes
after_set changes few after = record { rising = after_rise None changes after; few = few }

-- a removal and a touch of a row that is read are those of the row that was meant
bare_is : (row of_row : RowId) (change : Change) (at next : ℕ) → row ≡ of_row → at ≡ next → ◌≡◌ {A = ChangeOfRow × ℕ} ((row, change), at) ((of_row, change), next)
bare_is row of_row change at next e f = cc

module _ (bytes : List ℕ) (format : Format) (tables : Tables) (schema : IsSchema tables) where
  -- ---- what is behind the key

  -- the cells that the change has there
  abbrev BehindStands : TableDef → List Cell → Change → ℕ → ℕ → Type 0
  BehindStands table key (Put image) at next = (length image ≡ length table.columns) × RowStands table key 0 bytes at (image, next)
  BehindStands table key Remove at next = at ≡ next
  BehindStands table key Touch at next = at ≡ next

  behind_spelled : (table : TableDef) (key : List Cell) (change : Change) (at next : ℕ) → BehindStands table key change at next → StandsAt (cells_spelling (cells_behind table change)) bytes at next
  behind_spelled table key (Put image) at next s = s.1.stands
  behind_spelled table key Remove at next s = subst (StandsAt [] bytes at) s (nothing_stands bytes at)
  behind_spelled table key Touch at next s = subst (StandsAt [] bytes at) s (nothing_stands bytes at)

  behind_fits : (table : TableDef) (key : List Cell) (change : Change) (at next : ℕ) → TakesRows table → length key ≡ length table.key → BehindStands table key change at next → FitsChange table key change
  behind_fits table key (Put image) at next rules key_len s = (taken_row table image s.0 s.1.taken, key_is table key image rules key_len s.0 s.1.same)
  behind_fits table key Remove at next rules key_len s = tt
  behind_fits table key Touch at next rules key_len s = tt

  behind_has_cells : (table : TableDef) (row : RowId) (change : Change) (at next : ℕ) → AreCells row.key → BehindStands table row.key change at next → HasCells (row, change)
  behind_has_cells table row (Put image) at next are s = (are, s.1.are)
  behind_has_cells table row Remove at next are s = are
  behind_has_cells table row Touch at next are s = are

  key_has_cells : (row : RowId) (change : Change) → HasCells (row, change) → AreCells row.key
  key_has_cells row (Put image) has = has.0
  key_has_cells row Remove has = has
  key_has_cells row Touch has = has

  behind_there : (table : TableDef) (row : RowId) (change : Change) (at next : ℕ) → FitsChange table row.key change → HasCells (row, change) → StandsAt (cells_spelling (cells_behind table change)) bytes at next →
      BehindStands table row.key change at next
  behind_there table row (Put image) at next fits has stands =
      (fits.0.count, record { taken = row_taken table image fits.0; are = has.1; same = key_same table row.key image fits.1; stands = stands })
  behind_there table row Remove at next fits has stands = sym (nothing_between bytes at next stands)
  behind_there table row Touch at next fits has stands = sym (nothing_between bytes at next stands)

  -- what is done to the row, whose key is known, stands there
  abbrev DoneStands : TableDef → RowId → Kind → ℕ → ChangeOfRow × ℕ → Type 0
  DoneStands table row kind at y = (row ≡ y.0.0) × (kind ≡ kind_of y.0.1) × BehindStands table row.key y.0.1 at y.1

  done_tells : (table : TableDef) (row : RowId) (kind : Kind) (at : ℕ) → FitsKey table row.key → AreCells row.key → Tells (AreBytes bytes) (done_at table row kind bytes at) (DoneStands table row kind at) (IsDoneFault table row.key kind bytes at)
  unfolding done_at
  done_tells table row kind.Put at fits are =
      tells_as (AreBytes bytes) (λ y. (x : List Cell × ℕ) × ((length x.0 ≡ length table.columns) × RowStands table row.key 0 bytes at x) × (((row, Put x.0), x.1) ≡ y)) (DoneStands table row kind.Put at)
      (λ e. FirstOrLater (IsCellsFault table row.key bytes at e) (λ x. (length x.0 ≡ length table.columns) × RowStands table row.key 0 bytes at x) (λ _. ⊥)) (IsDoneFault table row.key kind.Put bytes at)
      (tells_then (AreBytes bytes) (row_at table row.key bytes at) (λ image. Ok ((row, Put image.0), image.1)) (λ x. (length x.0 ≡ length table.columns) × RowStands table row.key 0 bytes at x) (IsCellsFault table row.key bytes at)
      (λ x y. ((row, Put x.0), x.1) ≡ y) (λ _ _. ⊥) (row_tells bytes table row.key at fits are) (λ x _. tells_done (AreBytes bytes) ((row, Put x.0), x.1)))
      (λ _ y s. subst (DoneStands table row kind.Put at) s.2 (refl, refl, s.1)) back
      (λ _ e h. elim h [ inl c ↦ c | inr c ↦ absurd c.2 ]) (λ e h. inl h)
    where
      back : (y : ChangeOfRow × ℕ) → DoneStands table row kind.Put at y → (x : List Cell × ℕ) × ((length x.0 ≡ length table.columns) × RowStands table row.key 0 bytes at x) × (((row, Put x.0), x.1) ≡ y)
      back ((of_row, Put image), next) s = ((image, next), s.2, ap (λ (r : RowId). ((r, Put image), next)) s.0)
      back ((of_row, Remove), next) s = absurd (omega (arith, ap kind_byte s.1))
      back ((of_row, Touch), next) s = absurd (omega (arith, ap kind_byte s.1))
  done_tells table row kind.Remove at fits are =
      tells_as (AreBytes bytes) (λ y. ((row, Remove), at) ≡ y) (DoneStands table row kind.Remove at) (λ _. ⊥) (IsDoneFault table row.key kind.Remove bytes at) (tells_done (AreBytes bytes) ((row, Remove), at))
      (λ _ y e. subst (DoneStands table row kind.Remove at) e (refl, refl, refl)) back (λ _ e h. h) (λ e h. h)
    where
      back : (y : ChangeOfRow × ℕ) → DoneStands table row kind.Remove at y → ((row, Remove), at) ≡ y
      back ((of_row, Put image), next) s = absurd (omega (arith, ap kind_byte s.1))
      back ((of_row, Remove), next) s = bare_is row of_row Remove at next s.0 s.2
      back ((of_row, Touch), next) s = absurd (omega (arith, ap kind_byte s.1))
  done_tells table row kind.Touch at fits are =
      tells_as (AreBytes bytes) (λ y. ((row, Touch), at) ≡ y) (DoneStands table row kind.Touch at) (λ _. ⊥) (IsDoneFault table row.key kind.Touch bytes at) (tells_done (AreBytes bytes) ((row, Touch), at))
      (λ _ y e. subst (DoneStands table row kind.Touch at) e (refl, refl, refl)) back (λ _ e h. h) (λ e h. h)
    where
      back : (y : ChangeOfRow × ℕ) → DoneStands table row kind.Touch at y → ((row, Touch), at) ≡ y
      back ((of_row, Put image), next) s = absurd (omega (arith, ap kind_byte s.1))
      back ((of_row, Remove), next) s = absurd (omega (arith, ap kind_byte s.1))
      back ((of_row, Touch), next) s = bare_is row of_row Touch at next s.0 s.2

  -- ---- a change

  abbrev KeyRead : TableDef → ℕ → List Cell × ℕ → Type 0
  KeyRead table at x = (length x.0 ≡ length table.key) × KeyStands table 0 bytes at x

  -- behind the table, the kind and the key
  abbrev RestStands : Option RowId → ℕ → Kind → ℕ → List Cell → ChangeOfRow × ℕ → Type 0
  RestStands last number kind at key y = IsAfter last (record { table = number; key = key }) × DoneStands (table_at tables number) (record { table = number; key = key }) kind at y

  abbrev RestFault : Option RowId → ℕ → ℕ → Kind → ℕ → List Cell → CodecFault → Type 0
  RestFault last at number kind at_row key e =
      ((¬ (IsAfter last (record { table = number; key = key }))) × (e ≡ NotOrdered at)) ⊎ (IsAfter last (record { table = number; key = key }) × IsDoneFault (table_at tables number) key kind bytes at_row e)

  abbrev PartsStand : Option RowId → ℕ → ChangeOfRow × ℕ → Type 0
  PartsStand last at y =
      (table : ℕ × ℕ) × TableStands tables bytes at table × ((kind : Kind × ℕ) × KindStands format bytes table.1 kind × ((key : List Cell × ℕ) × KeyRead (table_at tables table.0) kind.1 key × RestStands last table.0 kind.0 key.1 key.0 y))

  parts_tell : (last : Option RowId) (at : ℕ) → Tells (AreBytes bytes) (change_at format tables last bytes at) (PartsStand last at) (IsChangeFault format tables last bytes at)
  unfolding change_at
  parts_tell last at =
      tells_then (AreBytes bytes) (table_no_at tables bytes at) _ (TableStands tables bytes at) (IsTableFault tables bytes at)
      (λ table y. (kind : Kind × ℕ) × KindStands format bytes table.1 kind × ((key : List Cell × ℕ) × KeyRead (table_at tables table.0) kind.1 key × RestStands last table.0 kind.0 key.1 key.0 y))
      (λ table e. FirstOrLater (IsKindFault format bytes table.1 e) (KindStands format bytes table.1) (λ kind. FirstOrLater (IsKeyFault (table_at tables table.0) bytes kind.1 e) (KeyRead (table_at tables table.0) kind.1) (λ key. RestFault last at table.0 kind.0 key.1 key.0 e)))
      (table_tells bytes tables at) (λ table there.
      tells_then (AreBytes bytes) (kind_at format bytes table.1) _ (KindStands format bytes table.1) (IsKindFault format bytes table.1)
      (λ kind y. (key : List Cell × ℕ) × KeyRead (table_at tables table.0) kind.1 key × RestStands last table.0 kind.0 key.1 key.0 y)
      (λ kind e. FirstOrLater (IsKeyFault (table_at tables table.0) bytes kind.1 e) (KeyRead (table_at tables table.0) kind.1) (λ key. RestFault last at table.0 kind.0 key.1 key.0 e))
      (kind_tells bytes format table.1) (λ kind _.
      tells_then (AreBytes bytes) (key_at (table_at tables table.0) bytes kind.1) _ (KeyRead (table_at tables table.0) kind.1) (IsKeyFault (table_at tables table.0) bytes kind.1)
      (λ key. RestStands last table.0 kind.0 key.1 key.0) (λ key. RestFault last at table.0 kind.0 key.1 key.0)
      (key_tells bytes (table_at tables table.0) kind.1) (λ key read. rest_tells table.0 kind.0 key.1 key.0 (read.0, read.1.taken) read.1.are)))
    where
      rest_tells : (number : ℕ) (kind : Kind) (at_row : ℕ) (key : List Cell) → FitsKey (table_at tables number) key → AreCells key →
          Tells (AreBytes bytes) (cond (is_after last (record { table = number; key = key })) (done_at (table_at tables number) (record { table = number; key = key }) kind bytes at_row) (Err (NotOrdered at)))
          (RestStands last number kind at_row key) (RestFault last at number kind at_row key)
      rest_tells number kind at_row key fits are =
          let row : RowId = record { table = number; key = key } in
          let d = decides_after last row in
          tells_kept (AreBytes bytes) (is_after last row) (IsAfter last row) (NotOrdered at) (done_at (table_at tables number) row kind bytes at_row) (DoneStands (table_at tables number) row kind at_row)
          (IsDoneFault (table_at tables number) key kind bytes at_row) d.0 (not_from_Decides (is_after last row) d) (done_tells (table_at tables number) row kind at_row fits are)

  -- a change that the format has and that fits the tables, of a row after the last one
  pub record ChangeStands (last : Option RowId) (at : ℕ) (x : ChangeOfRow × ℕ) : Type 0 where
    pub fits : FitsTable tables x.0
    pub cells : HasCells x.0
    pub has : HasChange format x.0
    pub after : IsAfter last x.0.0
    pub stands : StandsAt (change_spelling tables x.0) bytes at x.1

  whole : (last : Option RowId) (at at_kind at_key at_row next : ℕ) (row : RowId) (change : Change) → TableStands tables bytes at (row.table, at_kind) → KindStands format bytes at_kind (kind_of change, at_key) →
      KeyRead (table_at tables row.table) at_key (row.key, at_row) → IsAfter last row → BehindStands (table_at tables row.table) row.key change at_row next → ChangeStands last at ((row, change), next)
  unfolding change_spelling
  whole last at at_kind at_key at_row next row change table kind key after behind =
      let def = table_at tables row.table in
      let byte = kind_byte (kind_of change) in
      let keys = cells_spelling row.key in
      let others = cells_spelling (cells_behind def change) in
      let kind_stands : ByteStands bytes at_kind (byte, at_key) = subst (λ (n : ℕ). ByteStands bytes at_kind (n, at_key)) kind.2.0 kind.1 in
      let cells_stand = stands_together keys others bytes at_key at_row next key.1.stands (behind_spelled def row.key change at_row next behind) in
      record {
        fits = record { table = table.1; key = (key.0, key.1.taken); image = behind_fits def row.key change at_row next (takes_rows tables row.table schema table.1) key.0 behind };
        cells = behind_has_cells def row change at_row next key.1.are behind;
        has = kind.2.1;
        after = after;
        stands = stands_together (row.table ∷ []) (byte ∷ (keys ++ others)) bytes at at_kind next table.0 (stands_together (byte ∷ []) (keys ++ others) bytes at_kind at_key next kind_stands cells_stand);
      }

  together : (last : Option RowId) (at : ℕ) (y : ChangeOfRow × ℕ) → PartsStand last at y → ChangeStands last at y
  together last at ((row, change), next) (table, table_there, (kind, kind_there, (key, key_there, (after, done)))) =
      let of : RowId = record { table = table.0; key = key.0 } in
      let kind_is : KindStands format bytes table.1 (kind_of change, kind.1) = subst (λ (k : Kind). KindStands format bytes table.1 (k, kind.1)) done.1 kind_there in
      subst (λ (r : RowId). ChangeStands last at ((r, change), next)) done.0 (whole last at table.1 kind.1 key.1 next of change table_there kind_is key_there after done.2)

  apart : (last : Option RowId) (at : ℕ) (y : ChangeOfRow × ℕ) → ChangeStands last at y → PartsStand last at y
  unfolding change_spelling
  apart last at ((row, change), next) s =
      let def = table_at tables row.table in
      let byte = kind_byte (kind_of change) in
      let keys = cells_spelling row.key in
      let others = cells_spelling (cells_behind def change) in
      let behind = rest_stands (row.table ∷ []) (byte ∷ (keys ++ others)) bytes at next s.stands in
      let cells_stand = rest_stands (byte ∷ []) (keys ++ others) bytes (at + 1) next behind in
      let middle = at + 1 + 1 + length keys in (
        (row.table, at + 1),
        (front_stands (row.table ∷ []) (byte ∷ (keys ++ others)) bytes at next s.stands, s.fits.table),
        (
          (kind_of change, at + 1 + 1),
          (byte, front_stands (byte ∷ []) (keys ++ others) bytes (at + 1) next behind, (refl, s.has)),
          (
            (row.key, middle),
            (s.fits.key.0, record { taken = s.fits.key.1; are = key_has_cells row change s.cells; stands = front_stands keys others bytes (at + 1 + 1) next cells_stand }),
            (s.after, (refl, refl, behind_there def row change middle next s.fits.image s.cells (rest_stands keys others bytes (at + 1 + 1) next cells_stand))),
          ),
        ),
      )

  pub change_tells : (last : Option RowId) (at : ℕ) → Tells (AreBytes bytes) (change_at format tables last bytes at) (ChangeStands last at) (IsChangeFault format tables last bytes at)
  change_tells last at = tells_as (AreBytes bytes) (PartsStand last at) (ChangeStands last at) (IsChangeFault format tables last bytes at) (IsChangeFault format tables last bytes at) (parts_tell last at) (λ _. together last at) (apart last at) (λ _ e h. h) (λ e h. h)

  -- ---- changes

  changes_list : IsList row_behind ChangeStands (λ last. ChangesStand format tables last bytes)
  changes_list = record {
    none = λ last at. record { fits = tt; cells = tt; has = tt; after = tt; stands = nothing_stands bytes at };
    no_more = λ last at next s. nothing_between bytes at next s.stands;
    some = λ last at middle next x xs first others. record {
      fits = (first.fits, others.fits);
      cells = (first.cells, others.cells);
      has = (first.has, others.has);
      after = (first.after, others.after);
      stands = stands_together (change_spelling tables x) (changes_spelling tables xs) bytes at middle next first.stands others.stands;
    };
    parts = λ last at next x xs s. (
      at + length (change_spelling tables x),
      record { fits = s.fits.0; cells = s.cells.0; has = s.has.0; after = s.after.0; stands = front_stands (change_spelling tables x) (changes_spelling tables xs) bytes at next s.stands },
      record { fits = s.fits.1; cells = s.cells.1; has = s.has.1; after = s.after.1; stands = rest_stands (change_spelling tables x) (changes_spelling tables xs) bytes at next s.stands },
    );
  }

  rows_behind : IsBehind row_behind row_before
  rows_behind = record { none = λ last. refl; some = λ last x xs. refl }

  pub changes_tell : (count at : ℕ) → Tells (AreBytes bytes) (changes_at format tables count bytes at) (λ x. (length x.0 ≡ count) × ChangesStand format tables None bytes at x) (IsChangesFault format tables count bytes at)
  unfolding changes_at
  changes_tell count at =
      things_tell (change_at format tables) row_behind row_before bytes (AreBytes bytes) ChangeStands (λ last. IsChangeFault format tables last bytes) (λ last. ChangesStand format tables last bytes) change_tells changes_list rows_behind count None at

-- changes that are read are those of a write set
pub changes_are_set : (format : Format) (tables : Tables) (count : ℕ) (bytes : List ℕ) (at next : ℕ) (changes : List ChangeOfRow) → IsSchema tables → AreBytes bytes → count ≤ MAX_SET_ROWS → changes_at format tables count bytes at ≡ Ok (changes, next) → IsWriteSet changes
changes_are_set format tables count bytes at next changes schema fits few e =
    let s = (changes_tell bytes format tables schema count at).found fits (changes, next) e in
    after_set changes (subst (λ (n : ℕ). n ≤ MAX_SET_ROWS) (sym s.0) few) s.1.after
