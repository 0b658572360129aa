-- Values that are written into cells one after another.
use Rattle.std.proofs.Common.{◌≡◌, ◌≢◌, ℕ, zero, suc, ◌+◌, ◌<◌, ◌≤◌, true, false, nat_eq, Option, Some, None, Result, Ok, Err, List, [], ◌∷◌, ◌++◌, drop, get_or, length, map, slice_set, inl, inr, refl, sym, ap, subst, ◌∙◌, arith, append_assoc}
use Rattle.std.specs.List.{position, slice_get}
use Rattle.std.specs.Option.{option_map, unwrap_or}
use Rattle.std.proofs.lemmas.Bool.{cases_eq, eqb-true, eq-eqb}
use Rattle.std.proofs.lemmas.List.{append-nil, drop_all, drop_more, get_or-map, get_or-set_other, get_or-set_same, length-map, length-set}
use Rattle.std.proofs.lemmas.List.FromFn.{fill_by_all}
use Rattle.std.proofs.lemmas.Option.{slice_get-get_or, slice_get_within, get_or_from_slice_get}
use Rattle.geo_base.specs.Cells.{has_type}
use Rattle.geo_base.specs.Results.{◌>>=◌, Fails}
use Rattle.geo_base.specs.declared.cell.Cell.{Cell}
use Rattle.geo_base.specs.declared.cell.Cell.TheVariants as cell
use Rattle.geo_base.specs.declared.cell_type.CellType.{CellType}
use Rattle.geo_base.specs.declared.cell_type.CellType.TheVariants as type
use Rattle.geo_schema.specs.Repeats.{AreApart}
use Rattle.geo_schema.specs.Rows.{type_of}
use Rattle.geo_schema.specs.Tables.{no_column}
use Rattle.geo_schema.specs.declared.column.ColumnDef.{ColumnDef}
use Rattle.geo_schema.specs.declared.table.TableDef.{TableDef}
use Rattle.geo_schema.specs.laws.Places.{found_at, none_passes}
use Rattle.row_source.specs.Handing.{cell_at}
use Rattle.row_source.specs.Matches.{value}
use Rattle.row_source.specs.declared.fault.ExecFault.{ExecFault}
use Rattle.row_source.specs.declared.fault.ExecFault.TheVariants as fault
use Rattle.sql_bind.specs.Steps.{each, each_behind}
use Rattle.sql_bind.specs.declared.bound.SetTo.{SetTo}
use Rattle.sql_exec.specs.Effects.{inserted_cells, named_cell, with_set}
use Rattle.sql_exec.specs.inner.Fitting.{AreTyped, nulls, put_at, written}
use Rattle.sql_expr.specs.declared.expr.Expr.{Expr}

abbrev Answer : Type 0
Answer = Result (List Cell) ExecFault

-- ---- steps

module _ {A B : Type 0} (f : A → Result B ExecFault) where
  -- what is given behind others is given alone, with the others before it
  pub each_from : (done : List B) (items : List A) → each_behind (λ _. f) done items ≡ (each f items >>= λ more. Ok (done ++ more))
  each_from done [] = ap (λ (l : List B). let r : Result (List B) ExecFault = Ok l in r) (sym (append-nil done))
  each_from done (item ∷ items) = by (f item) refl (λ more. each_from more items)
    where
      joined : (v : B) (rest : Result (List B) ExecFault) →
          (rest >>= λ more. Ok ((done ++ v ∷ []) ++ more)) ≡ ((rest >>= λ more. Ok (v ∷ more)) >>= λ more. Ok (done ++ more))
      joined v (Err e) = refl
      joined v (Ok more) = ap (λ (l : List B). let r : Result (List B) ExecFault = Ok l in r) (append_assoc done (v ∷ []) more)

      by : (r : Result B ExecFault) → f item ≡ r → ((more : List B) → each_behind (λ _. f) more items ≡ (each f items >>= λ rest. Ok (more ++ rest))) →
          each_behind (λ _. f) done (item ∷ items) ≡ (each f (item ∷ items) >>= λ more. Ok (done ++ more))
      by (Err e) is rest = rw is refl
      by (Ok v) is rest =
          rw is
          (rest (done ++ v ∷ []) ∙ joined v (each f items)
          ∙ ap (λ (r : Result (List B) ExecFault). r >>= λ more. Ok (done ++ more)) (sym (rest (v ∷ []))))

-- the same step of other items
pub each_map : {A B C : Type 0} (see : A → C) (f : C → Result B ExecFault) (done : List B) (items : List A) →
    each_behind (λ _ item. f (see item)) done items ≡ each_behind (λ _. f) done (map see items)
each_map see f done [] = refl
each_map {A} {B} {C} see f done (item ∷ items) = by (f (see item)) (λ more. each_map see f more items)
  where
    by : (r : Result B ExecFault) → ((more : List B) → each_behind (λ _ item. f (see item)) more items ≡ each_behind (λ _. f) more (map see items)) →
        (r >>= λ next. each_behind (λ _ item. f (see item)) (done ++ next ∷ []) items) ≡ (r >>= λ next. each_behind (λ _. f) (done ++ next ∷ []) (map see items))
    by (Err e) rest = refl
    by (Ok v) rest = rest (done ++ v ∷ [])

-- ---- the loop

module _ (row : List Cell) where
  -- the next value is written
  step : (places : List ℕ) (exprs : List Expr) (cells : List Cell) (place : ℕ) (e : Expr) (v : Cell) (whole : Answer) →
      written row (place ∷ places) (e ∷ exprs) cells ≡ whole → value row e ≡ Ok v → written row places exprs (slice_set cells place v) ≡ whole
  unfolding written
  step places exprs cells place e v whole before gives =
      sym (ap (λ (r : Result Cell ExecFault). r >>= λ x. written row places exprs (slice_set cells place x)) gives) ∙ before

  -- the next value has a fault, or there is no memory for it
  stop : (places : List ℕ) (exprs : List Expr) (cells : List Cell) (place : ℕ) (e : Expr) (f : ExecFault) (whole : Answer) →
      written row (place ∷ places) (e ∷ exprs) cells ≡ whole → Fails fault.NoMemory f (value row e) → Fails fault.NoMemory f whole
  unfolding written
  stop places exprs cells place e f whole before (inl lost) = inl lost
  stop places exprs cells place e f whole before (inr gives) =
      inr (sym before ∙ ap (λ (r : Result Cell ExecFault). r >>= λ x. written row places exprs (slice_set cells place x)) gives)

  -- over places and expressions
  module _ (places : List ℕ) (exprs : List Expr) (cells : List Cell) (i : ℕ) (e d : Expr) (whole : Answer) (within : i < length places) (count : length exprs ≡ length places)
      (is : e ≡ get_or exprs i d) (before : written row (drop i places) (drop i exprs) cells ≡ whole) where
    from_here : written row (get_or places i 0 ∷ drop (i + 1) places) (e ∷ drop (i + 1) exprs) cells ≡ whole
    from_here =
        ap (λ (x : Expr). written row (get_or places i 0 ∷ drop (i + 1) places) (x ∷ drop (i + 1) exprs) cells) is
        ∙ ap (λ (l : List Expr). written row (get_or places i 0 ∷ drop (i + 1) places) l cells) (sym (drop_more exprs i d (omega arith)))
        ∙ ap (λ (l : List ℕ). written row l (drop i exprs) cells) (sym (drop_more places i 0 within)) ∙ before

    pub next_written : (v : Cell) → value row e ≡ Ok v → written row (drop (i + 1) places) (drop (i + 1) exprs) (slice_set cells (get_or places i 0) v) ≡ whole
    next_written v gives = step (drop (i + 1) places) (drop (i + 1) exprs) cells (get_or places i 0) e v whole from_here gives

    pub next_fails : (f : ExecFault) → Fails fault.NoMemory f (value row e) → Fails fault.NoMemory f whole
    next_fails f fails = stop (drop (i + 1) places) (drop (i + 1) exprs) cells (get_or places i 0) e f whole from_here fails

  pub all_written : (places : List ℕ) (exprs : List Expr) (cells : List Cell) (i : ℕ) (whole : Answer) → length places ≤ i → written row (drop i places) (drop i exprs) cells ≡ whole →
      whole ≡ Ok cells
  unfolding written
  all_written places exprs cells i whole past before = sym before ∙ ap (λ (l : List ℕ). written row l (drop i exprs) cells) (drop_all i places past)

  -- over the columns that are set, and their values
  abbrev set_from : List SetTo → List Cell → Answer
  set_from sets cells = written row (map (λ set. set.column) sets) (map (λ set. set.value) sets) cells

  module _ (sets : List SetTo) (cells : List Cell) (i : ℕ) (set d : SetTo) (whole : Answer) (within : i < length sets) (is : set ≡ get_or sets i d) (before : set_from (drop i sets) cells ≡ whole) where
    from_set : set_from (set ∷ drop (i + 1) sets) cells ≡ whole
    from_set =
        ap (λ (x : SetTo). set_from (x ∷ drop (i + 1) sets) cells) is ∙ ap (λ (l : List SetTo). set_from l cells) (sym (drop_more sets i d within)) ∙ before

    pub next_set : (v : Cell) → value row set.value ≡ Ok v → set_from (drop (i + 1) sets) (slice_set cells set.column v) ≡ whole
    next_set v gives = step (map (λ s. s.column) (drop (i + 1) sets)) (map (λ s. s.value) (drop (i + 1) sets)) cells set.column set.value v whole from_set gives

    pub set_fails : (f : ExecFault) → Fails fault.NoMemory f (value row set.value) → Fails fault.NoMemory f whole
    set_fails f fails = stop (map (λ s. s.column) (drop (i + 1) sets)) (map (λ s. s.value) (drop (i + 1) sets)) cells set.column set.value f whole from_set fails

  pub all_set : (sets : List SetTo) (cells : List Cell) (i : ℕ) (whole : Answer) → length sets ≤ i → set_from (drop i sets) cells ≡ whole → whole ≡ Ok cells
  unfolding written
  all_set sets cells i whole past before = sym before ∙ ap (λ (l : List SetTo). set_from l cells) (drop_all i sets past)

  -- ---- the values first, and then the cells

  pub values_first : (places : List ℕ) (exprs : List Expr) (cells : List Cell) → length exprs ≡ length places →
      written row places exprs cells ≡ (each (value row) exprs >>= λ values. Ok (put_at places values cells))
  unfolding written
  values_first [] [] cells count = refl
  values_first [] (e ∷ exprs) cells count = absurd (omega (arith, count))
  values_first (place ∷ places) [] cells count = absurd (omega (arith, count))
  values_first (place ∷ places) (e ∷ exprs) cells count =
      by (value row e) refl (λ v. values_first places exprs (slice_set cells place v) (omega (arith, count)))
    where
      behind : (v : Cell) (rest : Answer) →
          (rest >>= λ values. Ok (put_at places values (slice_set cells place v))) ≡ ((rest >>= λ more. Ok (v ∷ more)) >>= λ values. Ok (put_at (place ∷ places) values cells))
      behind v (Err f) = refl
      behind v (Ok more) = refl

      by : (r : Result Cell ExecFault) → value row e ≡ r →
          ((v : Cell) → written row places exprs (slice_set cells place v) ≡ (each (value row) exprs >>= λ values. Ok (put_at places values (slice_set cells place v)))) →
          written row (place ∷ places) (e ∷ exprs) cells ≡ (each (value row) (e ∷ exprs) >>= λ values. Ok (put_at (place ∷ places) values cells))
      by (Err f) is rest = rw is refl
      by (Ok v) is rest =
          rw is
          (rest v ∙ behind v (each (value row) exprs)
          ∙ ap (λ (r : Answer). r >>= λ values. Ok (put_at (place ∷ places) values cells)) (sym (each_from (value row) (v ∷ []) exprs)))

  -- ---- types

  module _ (columns : List ColumnDef) where
    -- a value of its column's type leaves cells of their columns' types
    put_typed : (cells : List Cell) (place : ℕ) (v : Cell) → AreTyped columns cells →
        ((column : ColumnDef) → slice_get columns place ≡ Some column → has_type (type_of column.kind) v ≡ true) → AreTyped columns (slice_set cells place v)
    put_typed cells place v typed fit =
        record {
          count = length-set cells place v ∙ typed.count;
          types = λ k column x hc hx.
              let within : k < length columns = slice_get_within columns k column hc in
              let count = typed.count in
              let same : get_or (slice_set cells place v) k x ≡ x = get_or_from_slice_get (slice_set cells place v) k x x hx in
              elim (cases_eq k place) [
                | inl here ↦
                    let is : v ≡ x = sym (get_or-set_same cells place v x (omega arith)) ∙ ap (λ (n : ℕ). get_or (slice_set cells place v) n x) (sym here) ∙ same in
                    subst (λ (y : Cell). has_type (type_of column.kind) y ≡ true) is (fit column (subst (λ (n : ℕ). slice_get columns n ≡ Some column) here hc))
                | inr other ↦
                    let is : get_or cells k x ≡ x = sym (get_or-set_other cells place k v x other) ∙ same in
                    typed.types k column x hc (slice_get-get_or cells k x (omega arith) ∙ ap (λ (y : Cell). Some y) is)
              ];
        }

    pub written_typed : (places : List ℕ) (exprs : List Expr) (cells out : List Cell) → written row places exprs cells ≡ Ok out → AreTyped columns cells →
        ((k place : ℕ) (e : Expr) (column : ColumnDef) (v : Cell) → slice_get places k ≡ Some place → slice_get exprs k ≡ Some e → slice_get columns place ≡ Some column →
        value row e ≡ Ok v → has_type (type_of column.kind) v ≡ true) → AreTyped columns out
    unfolding written
    written_typed [] exprs cells out is typed fit = subst (AreTyped columns) (let e : cells ≡ out = cc in e) typed
    written_typed (place ∷ places) [] cells out is typed fit = subst (AreTyped columns) (let e : cells ≡ out = cc in e) typed
    written_typed (place ∷ places) (e ∷ exprs) cells out is typed fit =
        by (value row e) refl is (λ v so given. written_typed places exprs (slice_set cells place v) out so given (λ k p f column x hp hf hc gives. fit (suc k) p f column x hp hf hc gives))
      where
        by : (r : Result Cell ExecFault) → value row e ≡ r → (r >>= λ v. written row places exprs (slice_set cells place v)) ≡ Ok out →
            ((v : Cell) → written row places exprs (slice_set cells place v) ≡ Ok out → AreTyped columns (slice_set cells place v) → AreTyped columns out) → AreTyped columns out
        by (Err f) gives so rest = absurd cc
        by (Ok v) gives so rest = rest v so (put_typed cells place v typed (λ column hc. fit 0 place e column v refl refl hc gives))

-- NULL is of each type
null_typed : (t : CellType) → has_type t cell.Null ≡ true
null_typed type.Int = refl
null_typed type.Text = refl
null_typed type.Truth = refl

pub nulls_typed : (columns : List ColumnDef) → AreTyped columns (nulls columns)
nulls_typed columns =
    record {
      count = length-map columns (λ (_ : ColumnDef). cell.Null);
      types = λ place column c hc hx.
          let within : place < length columns = slice_get_within columns place column hc in
          let is : cell.Null ≡ c = sym (get_or-map (λ (_ : ColumnDef). cell.Null) columns place column c within) ∙ get_or_from_slice_get (nulls columns) place c c hx in
          subst (λ (x : Cell). has_type (type_of column.kind) x ≡ true) is (null_typed (type_of column.kind));
    }

-- ---- values at places

-- a place that isn't among them keeps its cell
kept_at : (places : List ℕ) (values cells : List Cell) (j : ℕ) (d : Cell) → ((k : ℕ) → k < length places → get_or places k 0 ≢ j) → get_or (put_at places values cells) j d ≡ get_or cells j d
kept_at [] values cells j d apart = refl
kept_at (place ∷ places) [] cells j d apart = refl
kept_at (place ∷ places) (v ∷ values) cells j d apart =
    kept_at places values (slice_set cells place v) j d (λ k within. apart (suc k) (omega (arith, within)))
    ∙ get_or-set_other cells place j v d (λ e. apart 0 (omega arith) (sym e))

-- one that is among them has its value
pub put_there : (places : List ℕ) (values cells : List Cell) (k : ℕ) (d : Cell) → AreApart nat_eq places → length values ≡ length places → k < length places → get_or places k 0 < length cells →
    get_or (put_at places values cells) (get_or places k 0) d ≡ get_or values k d
put_there [] values cells k d apart count within inside = absurd (omega (arith, within))
put_there (place ∷ places) [] cells k d apart count within inside = absurd (omega (arith, count))
put_there (place ∷ places) (v ∷ values) cells zero d apart count within inside =
    kept_at places values (slice_set cells place v) place d (λ k in_rest e. absurd (unlike k in_rest e)) ∙ get_or-set_same cells place v d inside
  where
    unlike : (k : ℕ) → k < length places → get_or places k 0 ≡ place → ⊥
    unlike k in_rest e =
        let other : nat_eq place (get_or places k 0) ≡ false = apart 0 (suc k) 0 (omega arith) (omega (arith, in_rest)) in
        let same : nat_eq place (get_or places k 0) ≡ true = eq-eqb place (get_or places k 0) (sym e) in
        absurd cc
put_there (place ∷ places) (v ∷ values) cells (suc k) d apart count within inside =
    put_there places values (slice_set cells place v) k d (λ i j x before in_rest. apart (suc i) (suc j) x (omega (arith, before)) (omega (arith, in_rest))) (omega (arith, count)) (omega (arith, within))
    (let n : length (slice_set cells place v) ≡ length cells = length-set cells place v in omega (arith, inside))

length_put : (places : List ℕ) (values cells : List Cell) → length (put_at places values cells) ≡ length cells
length_put [] values cells = refl
length_put (place ∷ places) [] cells = refl
length_put (place ∷ places) (v ∷ values) cells = length_put places values (slice_set cells place v) ∙ length-set cells place v

-- values in the columns that are named, and NULL in the others
pub nulls_put : (table : TableDef) (places : List ℕ) (values : List Cell) → AreApart nat_eq places → length values ≡ length places →
    ((k : ℕ) → k < length places → get_or places k 0 < length table.columns) → put_at places values (nulls table.columns) ≡ inserted_cells table places values
nulls_put table places values apart count within =
    fill_by_all (named_cell places values) (put_at places values (nulls table.columns)) (length table.columns) cell.Null
    (length_put places values (nulls table.columns) ∙ length-map table.columns (λ (_ : ColumnDef). cell.Null))
    (λ j inside. by j inside (position (nat_eq j) places) refl)
  where
    by : (j : ℕ) → j < length table.columns → (o : Option ℕ) → position (nat_eq j) places ≡ o →
        get_or (put_at places values (nulls table.columns)) j cell.Null ≡ unwrap_or (option_map (cell_at values) (position (nat_eq j) places)) cell.Null
    by j inside None is =
        rw is
        (kept_at places values (nulls table.columns) j cell.Null (λ k lt e. unlike j k lt e is)
        ∙ nothing j inside)
      where
        nothing : (j : ℕ) → j < length table.columns → get_or (nulls table.columns) j cell.Null ≡ cell.Null
        nothing j inside = get_or-map (λ (_ : ColumnDef). cell.Null) table.columns j no_column cell.Null inside

        unlike : (j k : ℕ) → k < length places → get_or places k 0 ≡ j → position (nat_eq j) places ≡ None → ⊥
        unlike j k lt e is =
            let other : nat_eq j (get_or places k 0) ≡ false = none_passes (nat_eq j) places k 0 is lt in
            let same : nat_eq j (get_or places k 0) ≡ true = eq-eqb j (get_or places k 0) (sym e) in
            absurd cc
    by j inside (Some k) is =
        let found = found_at (nat_eq j) places k is in
        let here : j ≡ get_or places k 0 = eqb-true j (get_or places k 0) (found.1 0) in
        rw is
        (ap (λ (n : ℕ). get_or (put_at places values (nulls table.columns)) n cell.Null) here
        ∙ put_there places values (nulls table.columns) k cell.Null apart count found.0
        (let n : length (nulls table.columns) ≡ length table.columns = length-map table.columns (λ (_ : ColumnDef). cell.Null) in
        let low : get_or places k 0 < length table.columns = within k found.0 in omega arith))

-- ---- SET

pub sets_put : (sets : List SetTo) (values cells : List Cell) → with_set sets values cells ≡ put_at (map (λ set. set.column) sets) values cells
sets_put [] values cells = refl
sets_put (set ∷ sets) [] cells = refl
sets_put (set ∷ sets) (v ∷ values) cells = sets_put sets values (slice_set cells set.column v)
