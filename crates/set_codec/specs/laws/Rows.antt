-- Laws: what reading the cells of keys and rows tells.
use Rattle.std.proofs.Common.{◌≡◌, ℕ, zero, suc, ◌+◌, ◌<◌, ◌≤◌, Bool, true, false, cond, Option, Some, None, is_none, List, [], ◌∷◌, ◌++◌, length, get_or, map, Result, Ok, Err, refl, sym, ap, subst, ◌∙◌, zero-add, add-zero, arith}
use Rattle.std.specs.Bool.{Decides}
use Rattle.std.proofs.lemmas.Bool.{both_ways}
use Rattle.std.proofs.lemmas.List.{ext_get_or, length-map, get_or-map}
use Rattle.std.proofs.lemmas.List.Elements.{All-from_recursion}
use Rattle.std.proofs.lemmas.Option.{slice_get-get_or, slice_get_within, get_or_from_slice_get}
use Rattle.geo_base.specs.declared.cell.Cell.{Cell}
use Rattle.geo_base.specs.declared.cell.Cell.TheVariants as cell
use Rattle.geo_base.specs.declared.limits.TheConstants.{MAX_COLUMNS}
use Rattle.geo_base.specs.laws.Results.{done, lost, ok_is, fault_is, not_done}
use Rattle.geo_schema.specs.declared.column.ColumnDef.{ColumnDef}
use Rattle.geo_schema.specs.declared.fault.CellFault.{CellFault}
use Rattle.geo_schema.specs.declared.table.TableDef.{TableDef}
use Rattle.geo_schema.specs.Rows.{is_in, Suits, IsCause, IsRow, key_cells}
use Rattle.geo_schema.specs.Tables.{TakesRows, no_column}
use Rattle.geo_schema.specs.inner.Rows.{cell_fault}
use Rattle.geo_schema.specs.laws.Fits.{suits, found_cause}
pub use Rattle.geo_schema.specs.laws.Fits.{suits_faultless}
pub use Rattle.geo_schema.specs.laws.Numbers.{table_is}
use Rattle.row_codec.specs.declared.fault.CellReadFault.{CellReadFault}
use Rattle.row_codec.specs.Places.{AreBytes, StandsAt}
use Rattle.row_codec.specs.Spelling.{cell_spelling, cells_spelling, IsCell, AreCells, CellStands}
use Rattle.row_codec.specs.inner.Reading.{cell_at}
use Rattle.row_codec.specs.laws.Cells.{cell_tells}
use Rattle.row_codec.specs.laws.Places.{stands_together, front_stands, rest_stands, nothing_stands, nothing_between}
use Rattle.row_codec.specs.laws.Tells.{tells_as, tells_rule}
use Rattle.geo_base.specs.laws.Answers.{Tells}
use Rattle.row_codec.specs.laws.Things.{IsList, IsBehind, things_tell}
use Rattle.set_codec.specs.declared.fault.CodecFault.{CodecFault}
use Rattle.set_codec.specs.declared.fault.CodecFault.TheVariants.{BadRow}
use Rattle.set_codec.specs.CellFaults.{fault_of}
use Rattle.set_codec.specs.Faults.{IsCellFault, IsTakenFault, IsKeyFault, IsCellsFault}
use Rattle.set_codec.specs.Fits.{AreTaken, FitsKey}
use Rattle.set_codec.specs.Rules.{IsTaken}
use Rattle.set_codec.specs.Spelling.{other_cells}
use Rattle.set_codec.specs.Standing.{TakenStands, HasKey, KeyStands, RowStands}
use Rattle.set_codec.specs.inner.Reading.{lifted, taken_at, key_at, row_cell_at, next_cell_at, row_at}
use Rattle.set_codec.specs.laws.Fields.{decided}
use Rattle.set_codec.specs.laws.KeyPlaces.{place_in, found, in_key, not_in_key, place_of}

pub columns_are_few : (table : TableDef) → TakesRows table → length table.columns ≤ MAX_COLUMNS
columns_are_few table rules = rules.few

pub columns_are_some : (table : TableDef) → TakesRows table → 1 ≤ length table.columns
columns_are_some table rules = rules.some

-- ---- one cell

-- a cell that has a fault isn't taken
pub cause_faulty : (key : List ℕ) (column : ColumnDef) (place : ℕ) (c : Cell) (why : CellFault) → IsCause key column place c why → is_none (cell_fault key column place c) ≡ false
cause_faulty key column place c why cause = ap is_none (found_cause key column place c why cause)

decides_none : (o : Option CellFault) → Decides (is_none o) (o ≡ None)
decides_none None = (λ _. refl, λ _. refl)
decides_none (Some x) = (λ e. cc, λ e. cc)

decides_taken : (table : TableDef) (place : ℕ) (c : Cell) → Decides (is_none (cell_fault table.key (get_or table.columns place no_column) place c)) (IsTaken table place c)
decides_taken table place c =
    let column = get_or table.columns place no_column in
    let d = decides_none (cell_fault table.key column place c) in
    (λ h. suits table.key column place c (d.0 h), λ h. d.1 (suits_faultless table.key column place c h))

tells_lifted : {A : Type 0} (Sound : Type 0) (r : Result A CellReadFault) (P : A → Type 0) (F : CellReadFault → Type 0) → Tells Sound r P F → Tells Sound (lifted r) P (λ e. (f : CellReadFault) × F f × (e ≡ fault_of f))
tells_lifted Sound (Ok x) P F t = record {
  found = λ sound y e. t.found sound y (ap done (ok_is x y e));
  only = λ y p. ap done (ok_is x y (t.only y p));
  cause = λ sound e h. not_done x e h;
  refused = λ e h. not_done x h.0 (t.refused h.0 h.1);
}
tells_lifted {A} Sound (Err f) P F t = record {
  found = λ sound y e. not_done y (fault_of f) (sym e);
  only = λ y p. not_done y f (sym (t.only y p));
  cause = λ sound e h. (f, t.cause sound f refl, sym (fault_is {A = A} (fault_of f) e h));
  refused = λ e h. ap lost (ap fault_of (fault_is {A = A} f h.0 (t.refused h.0 h.1)) ∙ sym h.2);
}

module _ (bytes : List ℕ) (table : TableDef) where
  pub taken_tells : (place at : ℕ) → Tells (AreBytes bytes) (taken_at table place bytes at) (TakenStands table place bytes at) (IsTakenFault table place bytes at)
  unfolding taken_at
  taken_tells place at =
      tells_rule (AreBytes bytes) (lifted (cell_at bytes at)) (λ x. cond (is_none (cell_fault table.key (get_or table.columns place no_column) place x.0)) (Ok x) (Err (BadRow at))) (CellStands bytes at) (IsCellFault bytes at) (IsTaken table place) (BadRow at)
      (tells_lifted (AreBytes bytes) (cell_at bytes at) (CellStands bytes at) _ (cell_tells bytes at))
      (λ x. decided (AreBytes bytes) x (is_none (cell_fault table.key (get_or table.columns place no_column) place x.0)) (IsTaken table place x.0) (BadRow at) (decides_taken table place x.0))

  -- ---- keys

  index_behind : {A : Type 0} → IsBehind {S = ℕ} {A = A} (λ i _. i + 1) (λ i front. i + length front)
  index_behind = record { none = λ i. add-zero i; some = λ i x xs. omega arith }

  key_list : IsList (λ i _. i + 1) (λ i. TakenStands table (get_or table.key i 0) bytes) (λ i. KeyStands table i bytes)
  key_list = record {
    none = λ i at. record { taken = tt; are = tt; stands = nothing_stands bytes at };
    no_more = λ i at next s. nothing_between bytes at next s.stands;
    some = λ i at middle next x xs first others. record {
      taken = (first.1, others.taken);
      are = (first.0.0, others.are);
      stands = stands_together (cell_spelling x) (cells_spelling xs) bytes at middle next first.0.1 others.stands;
    };
    parts = λ i at next x xs s. (
      at + length (cell_spelling x),
      ((s.are.0, front_stands (cell_spelling x) (cells_spelling xs) bytes at next s.stands), s.taken.0),
      record { taken = s.taken.1; are = s.are.1; stands = rest_stands (cell_spelling x) (cells_spelling xs) bytes at next s.stands },
    );
  }

  pub key_tells : (at : ℕ) → Tells (AreBytes bytes) (key_at table bytes at) (λ x. (length x.0 ≡ length table.key) × KeyStands table 0 bytes at x) (IsKeyFault table bytes at)
  unfolding key_at
  key_tells at =
      tells_as (AreBytes bytes) (λ x. (length x.0 ≡ length table.key) × KeyStands table 0 bytes at x) (λ x. (length x.0 ≡ length table.key) × KeyStands table 0 bytes at x) _ (IsKeyFault table bytes at)
      (things_tell (λ i. taken_at table (get_or table.key i 0)) (λ i _. i + 1) (λ i front. i + length front) bytes (AreBytes bytes) (λ i. TakenStands table (get_or table.key i 0) bytes) (λ i. IsTakenFault table (get_or table.key i 0) bytes)
      (λ i. KeyStands table i bytes) (λ i place. taken_tells (get_or table.key i 0) place) key_list index_behind (length table.key) 0 at)
      (λ _ x s. s) (λ x s. s)
      (λ _ e h. record { front = h.front; place = h.place; few = h.few; stand = h.stand; fault = subst (λ (n : ℕ). IsTakenFault table (get_or table.key n 0) bytes h.place e) (zero-add (length h.front)) h.fault })
      (λ e h. record { front = h.front; place = h.place; few = h.few; stand = h.stand; fault = subst (λ (n : ℕ). IsTakenFault table (get_or table.key n 0) bytes h.place e) (sym (zero-add (length h.front))) h.fault })

  -- ---- a cell of a row

  -- what stands there of the cell of a row at the place
  abbrev spelled_at : ℕ → Cell → List ℕ
  spelled_at i c = cond (is_in table.key i) [] (cell_spelling c)

  -- the cell of a row with that key
  record RowCellStands (key : List Cell) (i at : ℕ) (x : Cell × ℕ) : Type 0 where
    taken : IsTaken table i x.0
    is : IsCell x.0
    same : (j : ℕ) → place_in table.key i ≡ Some j → x.0 ≡ get_or key j cell.Null
    stands : StandsAt (spelled_at i x.0) bytes at x.1

  abbrev RowCellFault : ℕ → ℕ → CodecFault → Type 0
  RowCellFault i at e = (is_in table.key i ≡ false) × IsTakenFault table i bytes at e

  some_is : (i j : ℕ) → Some i ≡ Some j → i ≡ j
  some_is i j e = cc

  pub taken_of : (place : ℕ → ℕ) (i : ℕ) (cells : List Cell) (k : ℕ) → AreTaken table place i cells → k < length cells → IsTaken table (place (i + k)) (get_or cells k cell.Null)
  taken_of place i [] k all lt = absurd (omega arith)
  taken_of place i (c ∷ cells) zero all lt = subst (λ (n : ℕ). IsTaken table (place n) c) (sym (add-zero i)) all.0
  taken_of place i (c ∷ cells) (suc k) all lt =
      let n_is : i + 1 + k ≡ i + suc k = omega arith in
      subst (λ (n : ℕ). IsTaken table (place n) (get_or cells k cell.Null)) n_is (taken_of place (i + 1) cells k all.1 (omega arith))

  all_taken : (place : ℕ → ℕ) (i : ℕ) (cells : List Cell) → ((k : ℕ) → k < length cells → IsTaken table (place (i + k)) (get_or cells k cell.Null)) → AreTaken table place i cells
  all_taken place i [] each = tt
  all_taken place i (c ∷ cells) each = (
    subst (λ (n : ℕ). IsTaken table (place n) c) (add-zero i) (each 0 (omega arith)),
    all_taken place (i + 1) cells (λ k lt. let n_is : i + suc k ≡ i + 1 + k = omega arith in subst (λ (n : ℕ). IsTaken table (place n) (get_or cells k cell.Null)) n_is (each (suc k) (omega arith))),
  )

  row_cell_tells : (key : List Cell) (i at : ℕ) → FitsKey table key → AreCells key → (o : Option ℕ) → place_in table.key i ≡ o → Tells (AreBytes bytes) (row_cell_at table key i o bytes at) (RowCellStands key i at) (RowCellFault i at)
  unfolding row_cell_at
  row_cell_tells key i at fits are (Some j) is =
      let f = found table.key i j is in
      let within : j < length key = omega (arith, f.0, fits.0) in
      let c = get_or key j cell.Null in
      let inside : is_in table.key i ≡ true = in_key table.key i j is in
      let of_key : IsTaken table (get_or table.key j 0) c = subst (λ (n : ℕ). IsTaken table (get_or table.key n 0) c) (zero-add j) (taken_of (λ k. get_or table.key k 0) 0 key j fits.1 within) in
      let taken : IsTaken table i c = subst (λ (n : ℕ). IsTaken table n c) f.1 of_key in
      record {
        found = λ sound x e. subst (RowCellStands key i at) (ok_is (c, at) x e)
            (record { taken = taken; is = All-from_recursion IsCell key are j cell.Null within; same = λ k e_k. ap (λ (n : ℕ). get_or key n cell.Null) (some_is j k (sym is ∙ e_k)); stands = rw inside (nothing_stands bytes at) });
        only = λ x s. known x (s.same j is) (nothing_between bytes at x.1 (nothing_there x inside s.stands));
        cause = λ sound e h. not_done (c, at) e h;
        refused = λ e h. absurd (both_ways (is_in table.key i) h.0 inside);
      }
    where
      known : (x : Cell × ℕ) → x.0 ≡ get_or key j cell.Null → x.1 ≡ at → done {E = CodecFault} (get_or key j cell.Null, at) ≡ done x
      known x same end = rw (sym same, sym end) refl

      nothing_there : (x : Cell × ℕ) → is_in table.key i ≡ true → StandsAt (spelled_at i x.0) bytes at x.1 → StandsAt [] bytes at x.1
      nothing_there x inside stands = rw inside at stands
  row_cell_tells key i at fits are None is =
      let outside : is_in table.key i ≡ false = not_in_key table.key i is in
      tells_as (AreBytes bytes) (TakenStands table i bytes at) (RowCellStands key i at) (IsTakenFault table i bytes at) (RowCellFault i at) (taken_tells i at)
      (λ sound x s. record { taken = s.1; is = s.0.0; same = λ j e. absurd (none_some j (sym is ∙ e)); stands = rw outside s.0.1 })
      (λ x s. ((s.is, read_there x outside s.stands), s.taken))
      (λ sound e h. (outside, h)) (λ e h. h.1)
    where
      none_some : (j : ℕ) → None ≡ Some j → ⊥
      none_some j e = cc

      read_there : (x : Cell × ℕ) → is_in table.key i ≡ false → StandsAt (spelled_at i x.0) bytes at x.1 → StandsAt (cell_spelling x.0) bytes at x.1
      read_there x outside stands = rw outside at stands

  -- ---- rows

  first_has : (key : List Cell) (i : ℕ) (c : Cell) (cs : List Cell) → HasKey table key i (c ∷ cs) → (j : ℕ) → place_in table.key i ≡ Some j → c ≡ get_or key j cell.Null
  first_has key i c cs same j is = same 0 j (omega arith) (subst (λ (n : ℕ). place_in table.key n ≡ Some j) (sym (add-zero i)) is)

  others_have : (key : List Cell) (i : ℕ) (c : Cell) (cs : List Cell) → HasKey table key i (c ∷ cs) → HasKey table key (i + 1) cs
  others_have key i c cs same k j lt is =
      let n_is : i + 1 + k ≡ i + suc k = omega arith in
      same (suc k) j (omega (arith, lt)) (subst (λ (n : ℕ). place_in table.key n ≡ Some j) n_is is)

  has_more : (key : List Cell) (i : ℕ) (c : Cell) (cs : List Cell) → ((j : ℕ) → place_in table.key i ≡ Some j → c ≡ get_or key j cell.Null) → HasKey table key (i + 1) cs → HasKey table key i (c ∷ cs)
  has_more key i c cs first others zero j lt is = first j (subst (λ (n : ℕ). place_in table.key n ≡ Some j) (add-zero i) is)
  has_more key i c cs first others (suc k) j lt is =
      let n_is : i + suc k ≡ i + 1 + k = omega arith in
      others k j (omega (arith, lt)) (subst (λ (n : ℕ). place_in table.key n ≡ Some j) n_is is)

  -- what stands there of the cells of a row is that of the first and that of the others
  spelled_more : (i : ℕ) (c : Cell) (cs : List Cell) → cells_spelling (other_cells table.key i (c ∷ cs)) ≡ spelled_at i c ++ cells_spelling (other_cells table.key (i + 1) cs)
  spelled_more i c cs = by (is_in table.key i)
    where
      by : (b : Bool) → cells_spelling (cond b (other_cells table.key (i + 1) cs) (c ∷ other_cells table.key (i + 1) cs)) ≡ cond b [] (cell_spelling c) ++ cells_spelling (other_cells table.key (i + 1) cs)
      by true = refl
      by false = refl

  row_list : (key : List Cell) → IsList (λ i _. i + 1) (RowCellStands key) (λ i. RowStands table key i bytes)
  row_list key = record {
    none = λ i at. record { taken = tt; are = tt; same = λ k j lt is. absurd (omega (arith, lt)); stands = nothing_stands bytes at };
    no_more = λ i at next s. nothing_between bytes at next s.stands;
    some = λ i at middle next x xs first others. record {
      taken = (first.taken, others.taken);
      are = (first.is, others.are);
      same = has_more key i x xs first.same others.same;
      stands = subst (λ (t : List ℕ). StandsAt t bytes at next) (sym (spelled_more i x xs)) (stands_together (spelled_at i x) (cells_spelling (other_cells table.key (i + 1) xs)) bytes at middle next first.stands others.stands);
    };
    parts = λ i at next x xs s. let both : StandsAt (spelled_at i x ++ cells_spelling (other_cells table.key (i + 1) xs)) bytes at next = subst (λ (t : List ℕ). StandsAt t bytes at next) (spelled_more i x xs) s.stands in (
      at + length (spelled_at i x),
      record { taken = s.taken.0; is = s.are.0; same = first_has key i x xs s.same; stands = front_stands (spelled_at i x) (cells_spelling (other_cells table.key (i + 1) xs)) bytes at next both },
      record { taken = s.taken.1; are = s.are.1; same = others_have key i x xs s.same; stands = rest_stands (spelled_at i x) (cells_spelling (other_cells table.key (i + 1) xs)) bytes at next both },
    );
  }

  pub row_tells : (key : List Cell) (at : ℕ) → FitsKey table key → AreCells key → Tells (AreBytes bytes) (row_at table key bytes at) (λ x. (length x.0 ≡ length table.columns) × RowStands table key 0 bytes at x) (IsCellsFault table key bytes at)
  unfolding row_at
  row_tells key at fits are =
      tells_as (AreBytes bytes) (λ x. (length x.0 ≡ length table.columns) × RowStands table key 0 bytes at x) (λ x. (length x.0 ≡ length table.columns) × RowStands table key 0 bytes at x) _ (IsCellsFault table key bytes at)
      (things_tell (next_cell_at table key) (λ i _. i + 1) (λ i front. i + length front) bytes (AreBytes bytes) (RowCellStands key) RowCellFault (λ i. RowStands table key i bytes)
      (λ i place. row_cell_tells key i place fits are (place_in table.key i) refl) (row_list key) index_behind (length table.columns) 0 at)
      (λ _ x s. s) (λ x s. s)
      (λ _ e h. record { front = h.front; place = h.place; few = h.few; stand = h.stand; fault = subst (λ (n : ℕ). RowCellFault n h.place e) (zero-add (length h.front)) h.fault })
      (λ e h. record { front = h.front; place = h.place; few = h.few; stand = h.stand; fault = subst (λ (n : ℕ). RowCellFault n h.place e) (sym (zero-add (length h.front))) h.fault })

-- ---- rows of a table and their keys

-- cells that are taken by all columns are a row of the table
pub taken_row : (table : TableDef) (cells : List Cell) → length cells ≡ length table.columns → AreTaken table (λ place. place) 0 cells → IsRow table cells
taken_row table cells count taken = record {
  count = count;
  suits = λ place column c has_column has_cell.
      let at_place : IsTaken table place (get_or cells place cell.Null) = subst (λ (n : ℕ). IsTaken table n (get_or cells place cell.Null)) (zero-add place) (taken_of [] table (λ p. p) 0 cells place taken (slice_get_within cells place c has_cell)) in
      suits_as place (get_or table.columns place no_column) column (get_or cells place cell.Null) c (get_or_from_slice_get table.columns place column no_column has_column) (get_or_from_slice_get cells place c cell.Null has_cell) at_place;
}
  where
    suits_as : (place : ℕ) (a b : ColumnDef) (c d : Cell) → a ≡ b → c ≡ d → Suits table.key a place c → Suits table.key b place d
    suits_as place a b c d e f s = subst (λ (y : ColumnDef). Suits table.key y place d) e (subst (λ (y : Cell). Suits table.key a place y) f s)

pub row_taken : (table : TableDef) (cells : List Cell) → IsRow table cells → AreTaken table (λ place. place) 0 cells
row_taken table cells row = all_taken [] table (λ p. p) 0 cells (λ k lt.
    subst (λ (n : ℕ). IsTaken table n (get_or cells k cell.Null)) (sym (zero-add k))
    (row.suits k (get_or table.columns k no_column) (get_or cells k cell.Null) (slice_get-get_or table.columns k no_column (omega (arith, lt, row.count))) (slice_get-get_or cells k cell.Null lt)))

-- a row that has the key's cells at the key's places has that key
pub key_is : (table : TableDef) (key image : List Cell) → TakesRows table → length key ≡ length table.key → length image ≡ length table.columns → HasKey table key 0 image → key_cells table image ≡ key
unfolding key_cells
key_is table key image rules key_len count same =
    let read : ℕ → Cell = λ p. get_or image p cell.Null in
    let len : length (map read table.key) ≡ length table.key = length-map table.key read in
    ext_get_or cell.Null (map read table.key) key (omega (arith, len, key_len)) (λ i lt.
    let within : i < length table.key = omega (arith, lt, len) in
    let inside : get_or table.key i 0 < length table.columns = rules.key.within i 0 within in
    let place : place_in table.key (0 + get_or table.key i 0) ≡ Some i = subst (λ (n : ℕ). place_in table.key n ≡ Some i) (sym (zero-add (get_or table.key i 0))) (place_of table i rules within) in
    get_or-map read table.key i 0 cell.Null within ∙ same (get_or table.key i 0) i (omega (arith, inside, count)) place)

pub key_same : (table : TableDef) (key image : List Cell) → key_cells table image ≡ key → HasKey table key 0 image
unfolding key_cells
key_same table key image e k i lt is =
    let f = found table.key (0 + k) i is in
    let read : ℕ → Cell = λ p. get_or image p cell.Null in
    let place : get_or table.key i 0 ≡ k = f.1 ∙ zero-add k in
    ap read (sym place) ∙ sym (get_or-map read table.key i 0 cell.Null f.0) ∙ ap (λ (cs : List Cell). get_or cs i cell.Null) e
