-- The changes of an UPDATE: row by row over the rows that the plan hands out, and over all rows of the table.
use Rattle.std.proofs.Common.{◌≡◌, inl, inr, ℕ, ◌+◌, ◌<◌, ◌≤◌, Bool, true, false, if◌then◌else◌, nat_eq, Result, Ok, Err, List, [], ◌∷◌, ◌++◌, drop, get_or, length, map, refl, sym, ap, subst, ◌∙◌, append_assoc}
use Rattle.std.specs.List.{All, Contains, filter}
use Rattle.std.specs.Option.{is_some}
use Rattle.std.proofs.lemmas.Bool.{both_ways}
use Rattle.std.proofs.lemmas.List.{append-nil, drop_all, drop_more}
use Rattle.std.proofs.lemmas.List.Elements.{All-head, All-tail, All-weaker}
use Rattle.geo_base.specs.declared.cell.Cell.{Cell}
use Rattle.geo_base.specs.declared.row_id.RowId.{RowId}
use Rattle.geo_base.specs.Results.{◌>>=◌, Fails}
use Rattle.geo_schema.specs.Schemas.{Tables, table_at}
use Rattle.row_source.specs.Handing.{LeavesOut, reaches}
use Rattle.row_source.specs.Matches.{in_statement, value}
use Rattle.row_source.specs.Sources.{AreRowsOf, Entry, images, of_table}
use Rattle.row_source.specs.declared.fault.ExecFault.{ExecFault}
use Rattle.row_source.specs.declared.fault.ExecFault.TheVariants as fault
use Rattle.row_source.specs.declared.plan.Plan.{Plan}
use Rattle.sql_bind.specs.Steps.{each}
use Rattle.sql_bind.specs.declared.bound.BoundUpdate.{BoundUpdate}
use Rattle.sql_exec.proofs.Entries.{IsNamed, all_named}
use Rattle.sql_exec.proofs.Planned.{behind, head, left_out, of_its_table}
use Rattle.sql_exec.specs.Effects.{change_of, fitting, update_changes, update_one, updates_of, with_set}
use Rattle.sql_exec.specs.inner.Naming.{name_in}
use Rattle.sql_exec.specs.inner.Updating.{row_updates, set_image, update_row, updates_behind}
use Rattle.sql_expr.specs.Conditions.{kept}
use Rattle.sql_expr.specs.declared.expr.Expr.{Expr}
use Rattle.write_set.specs.declared.change.Change.TheVariants.{Put}
use Rattle.write_set.specs.declared.row_change.RowChange.{RowChange}
use Rattle.write_set.specs.Overlay.{Table, image_in, overlay}
use Rattle.write_set.specs.Sets.{ChangeOfRow}

abbrev Changes : Type 0
Changes = Result (List RowChange) ExecFault

abbrev Rows : Type 0
Rows = List (List Cell)

-- ---- one row

module _ (tables : Tables) (update : BoundUpdate) (base : Table) where
  -- the image first, for any name
  image_first : (entry : Entry) → update_one tables update base entry ≡ (set_image tables update entry.1 >>= λ cells. Ok (change_of base entry.0 (Put cells)))
  unfolding set_image
  image_first entry = by (each (λ set. value entry.1 set.value) update.sets)
    where
      by : (values : Result (List Cell) ExecFault) →
          (values >>= λ v. fitting (table_at tables update.table) (with_set update.sets v entry.1) >>= λ cells. let r : Result RowChange ExecFault = Ok (change_of base entry.0 (Put cells)) in r)
          ≡ ((values >>= λ v. fitting (table_at tables update.table) (with_set update.sets v entry.1)) >>= λ cells. Ok (change_of base entry.0 (Put cells)))
      by (Err e) = refl
      by (Ok v) = refl

  pub image_fault : (row : List Cell) (e : ExecFault) → set_image tables update row ≡ Err e → update_row tables update base row ≡ Err e
  unfolding update_row
  image_fault row e is =
      let entry : Entry = (name_in tables update.table row, row) in
      image_first entry ∙ ap (λ (r : Result (List Cell) ExecFault). r >>= λ cells. let m : Result RowChange ExecFault = Ok (change_of base entry.0 (Put cells)) in m) is

  pub image_made : (row cells : List Cell) (name : RowId) (before : Bool) → set_image tables update row ≡ Ok cells → name ≡ name_in tables update.table row →
      before ≡ is_some (image_in base name) → update_row tables update base row ≡ Ok (record { row = name; before = before; change = Put cells })
  unfolding update_row
  image_made row cells name before is named had =
      let entry : Entry = (name_in tables update.table row, row) in
      image_first entry
      ∙ ap (λ (r : Result (List Cell) ExecFault). r >>= λ x. let m : Result RowChange ExecFault = Ok (change_of base entry.0 (Put x)) in m) is
      ∙ ap (λ (n : RowId). let m : Result RowChange ExecFault = Ok (change_of base n (Put cells)) in m) (sym named)
      ∙ ap (λ (b : Bool). let m : Result RowChange ExecFault = Ok (record { row = name; before = b; change = Put cells }) in m) (sym had)

-- ---- the loop

module _ {A : Type 0} (cells : A → List Cell) (tests : List Expr) (make : List Cell → Result RowChange ExecFault) where
  -- the rows are done up to a place
  abbrev pub IsDoneTo : List A → List RowChange → ℕ → Type 0
  IsDoneTo rows done i = updates_behind tests make done (map cells (drop i rows)) ≡ updates_behind tests make [] (map cells rows)

  next_row : (rows : List A) (i : ℕ) (row d : A) → i < length rows → row ≡ get_or rows i d → map cells (drop i rows) ≡ cells row ∷ map cells (drop (i + 1) rows)
  next_row rows i row d within at =
      ap (map cells) (drop_more rows i d within) ∙ ap (λ (r : A). cells r ∷ map cells (drop (i + 1) rows)) (sym at)

  from_row : (rows : List A) (done : List RowChange) (i : ℕ) (row d : A) → i < length rows → row ≡ get_or rows i d → IsDoneTo rows done i →
      (row_updates tests make (cells row) >>= λ made. updates_behind tests make (done ++ made) (map cells (drop (i + 1) rows))) ≡ updates_behind tests make [] (map cells rows)
  unfolding updates_behind
  from_row rows done i row d within at before = ap (updates_behind tests make done) (sym (next_row rows i row d within at)) ∙ before

  -- from a row's changes on
  with_made : (rows : List A) (done : List RowChange) (i : ℕ) (row d : A) (made : Changes) → i < length rows → row ≡ get_or rows i d → IsDoneTo rows done i →
      row_updates tests make (cells row) ≡ made →
      (made >>= λ some. updates_behind tests make (done ++ some) (map cells (drop (i + 1) rows))) ≡ updates_behind tests make [] (map cells rows)
  with_made rows done i row d made within at before is =
      ap (λ (m : Changes). m >>= λ some. updates_behind tests make (done ++ some) (map cells (drop (i + 1) rows))) (sym is) ∙ from_row rows done i row d within at before

  -- a row that is kept
  kept_made : (row seen : List Cell) (b : Bool) (c : Result RowChange ExecFault) → seen ≡ row → in_statement (kept seen tests) ≡ Ok b → b ≡ true → make row ≡ c →
      row_updates tests make row ≡ (c >>= λ x. Ok (x ∷ []))
  kept_made row seen b c shown test passes gives =
      let kept_on : in_statement (kept row tests) ≡ Ok true =
      subst (λ (r : List Cell). in_statement (kept r tests) ≡ Ok true) shown (subst (λ (x : Bool). in_statement (kept seen tests) ≡ Ok x) passes test) in
      rw (kept_on, gives) refl

  pub one_changed : (rows : List A) (done more : List RowChange) (i : ℕ) (row d : A) (seen : List Cell) (b : Bool) (c : RowChange) → i < length rows → row ≡ get_or rows i d →
      IsDoneTo rows done i → seen ≡ cells row → in_statement (kept seen tests) ≡ Ok b → b ≡ true → make (cells row) ≡ Ok c → more ≡ done ++ c ∷ [] → IsDoneTo rows more (i + 1)
  one_changed rows done more i row d seen b c within at before shown test passes gives pushed =
      rw pushed (with_made rows done i row d (Ok (c ∷ [])) within at before (kept_made (cells row) seen b (Ok c) shown test passes gives))

  pub one_unchanged : (rows : List A) (done more : List RowChange) (i : ℕ) (row d : A) (seen : List Cell) (b : Bool) → i < length rows → row ≡ get_or rows i d →
      IsDoneTo rows done i → seen ≡ cells row → in_statement (kept seen tests) ≡ Ok b → b ≡ false → more ≡ done → IsDoneTo rows more (i + 1)
  one_unchanged rows done more i row d seen b within at before shown test fails same =
      let dropped : in_statement (kept (cells row) tests) ≡ Ok false =
      subst (λ (r : List Cell). in_statement (kept r tests) ≡ Ok false) shown (subst (λ (x : Bool). in_statement (kept seen tests) ≡ Ok x) fails test) in
      let none : row_updates tests make (cells row) ≡ Ok [] = rw dropped refl in
      rw same
      (ap (λ (l : List RowChange). updates_behind tests make l (map cells (drop (i + 1) rows))) (sym (append-nil done))
      ∙ with_made rows done i row d (Ok []) within at before none)

  pub test_fault : (rows : List A) (done : List RowChange) (i : ℕ) (row d : A) (seen : List Cell) (e : ExecFault) → i < length rows → row ≡ get_or rows i d →
      IsDoneTo rows done i → seen ≡ cells row → in_statement (kept seen tests) ≡ Err e → updates_behind tests make [] (map cells rows) ≡ Err e
  test_fault rows done i row d seen e within at before shown test =
      let fault : in_statement (kept (cells row) tests) ≡ Err e = subst (λ (r : List Cell). in_statement (kept r tests) ≡ Err e) shown test in
      let stops : row_updates tests make (cells row) ≡ Err e = rw fault refl in
      sym (with_made rows done i row d (Err e) within at before stops)

  -- its change has a fault, or there is no memory for it
  pub change_fails : (rows : List A) (done : List RowChange) (i : ℕ) (row d : A) (seen : List Cell) (b : Bool) (e : ExecFault) → i < length rows → row ≡ get_or rows i d →
      IsDoneTo rows done i → seen ≡ cells row → in_statement (kept seen tests) ≡ Ok b → b ≡ true → Fails fault.NoMemory e (make (cells row)) →
      Fails fault.NoMemory e (updates_behind tests make [] (map cells rows))
  change_fails rows done i row d seen b e within at before shown test passes (inl lost) = inl lost
  change_fails rows done i row d seen b e within at before shown test passes (inr gives) =
      inr (sym (with_made rows done i row d (Err e) within at before (kept_made (cells row) seen b (Err e) shown test passes gives)))

  pub all_changed : (rows : List A) (done : List RowChange) (i : ℕ) → length rows ≤ i → IsDoneTo rows done i → updates_behind tests make [] (map cells rows) ≡ Ok done
  unfolding updates_behind
  all_changed rows done i past before = sym before ∙ ap (λ (l : List A). updates_behind tests make done (map cells l)) (drop_all i rows past)

-- ---- over the rows with their names

module _ (tests : List Expr) (make : Entry → Result RowChange ExecFault) where
  -- the changes of one row of all
  abbrev one_of : Entry → Changes
  one_of entry = in_statement (kept entry.1 tests) >>= λ passes. if passes then (make entry >>= λ c. Ok (c ∷ [])) else Ok []

  abbrev in_front : Entry → Changes → Changes
  in_front entry rest = one_of entry >>= λ made. rest >>= λ more. Ok (made ++ more)

  -- a row in front of the others
  split : (entry : Entry) (rows : Table) → updates_of tests make (entry ∷ rows) ≡ in_front entry (updates_of tests make rows)
  split entry rows = by (in_statement (kept entry.1 tests))
    where
      by : (test : Result Bool ExecFault) →
          (test >>= λ passes. (if passes then (make entry >>= λ c. Ok (c ∷ [])) else Ok []) >>= λ made. updates_of tests make rows >>= λ rest. let r : Changes = Ok (made ++ rest) in r)
          ≡ ((test >>= λ passes. (let m : Changes = if passes then (make entry >>= λ c. Ok (c ∷ [])) else Ok [] in m)) >>= λ made. updates_of tests make rows >>= λ rest. Ok (made ++ rest))
      by (Err e) = refl
      by (Ok b) = refl

  -- rows that are left out change nothing
  pub same_updates : (p q : Entry → Bool) (rows : Table) → ((a : Entry) → Contains rows a → p a ≡ true → q a ≡ true) →
      ((a : Entry) → Contains rows a → q a ≡ true → p a ≡ false → kept a.1 tests ≡ Ok false) → updates_of tests make (filter p rows) ≡ updates_of tests make (filter q rows)
  same_updates p q [] within drops = refl
  same_updates p q (a ∷ rows) within drops =
      by (p a) refl (q a) refl (same_updates p q rows (λ b there. within b (behind a rows b there)) (λ b there. drops b (behind a rows b there)))
    where
      again : (rest : Changes) → (rest >>= λ more. let r : Changes = Ok more in r) ≡ rest
      again (Ok more) = refl
      again (Err e) = refl

      by : (b : Bool) → p a ≡ b → (c : Bool) → q a ≡ c → updates_of tests make (filter p rows) ≡ updates_of tests make (filter q rows) →
          updates_of tests make (filter p (a ∷ rows)) ≡ updates_of tests make (filter q (a ∷ rows))
      by true is true has rest = rw (is, has) (split a (filter p rows) ∙ ap (in_front a) rest ∙ sym (split a (filter q rows)))
      by true is false has rest = absurd (both_ways (q a) has (within a (head a rows) is))
      by false is true has rest =
          let out : kept a.1 tests ≡ Ok false = drops a (head a rows) has is in
          rw (is, has, out) (rest ∙ sym (again (updates_of tests make (filter q rows))))
      by false is false has rest = rw (is, has) rest

-- by their cells, and behind changes that were made before
by_cells : (tests : List Expr) (make : Entry → Result RowChange ExecFault) (make_row : List Cell → Result RowChange ExecFault) (done : List RowChange) (rows : Table) → All (λ entry. make_row entry.1 ≡ make entry) rows →
    updates_behind tests make_row done (images rows) ≡ (updates_of tests make rows >>= λ more. Ok (done ++ more))
unfolding updates_behind
by_cells tests make make_row done [] same = ap (λ (l : List RowChange). let r : Changes = Ok l in r) (sym (append-nil done))
by_cells tests make make_row done (entry ∷ rows) same =
    let here : make_row entry.1 ≡ make entry = All-head (λ (x : Entry). make_row x.1 ≡ make x) entry rows same in
    ap (λ (c : Result RowChange ExecFault).
    (in_statement (kept entry.1 tests) >>= λ passes. (let m : Changes = if passes then (c >>= λ x. Ok (x ∷ [])) else Ok [] in m)) >>= λ made. updates_behind tests make_row (done ++ made) (images rows)) here
    ∙ by (one_of tests make entry) (λ made. by_cells tests make make_row (done ++ made) rows (All-tail (λ (x : Entry). make_row x.1 ≡ make x) entry rows same))
    ∙ ap (λ (r : Changes). r >>= λ more. Ok (done ++ more)) (sym (split tests make entry rows))
  where
    joined : (made : List RowChange) (rest : Changes) → (rest >>= λ more. let r : Changes = Ok ((done ++ made) ++ more) in r) ≡ ((rest >>= λ more. Ok (made ++ more)) >>= λ more. Ok (done ++ more))
    joined made (Err e) = refl
    joined made (Ok more) = ap (λ (l : List RowChange). let r : Changes = Ok l in r) (append_assoc done made more)

    by : (made : Changes) → ((some : List RowChange) → updates_behind tests make_row (done ++ some) (images rows) ≡ (updates_of tests make rows >>= λ more. Ok ((done ++ some) ++ more))) →
        (made >>= λ some. updates_behind tests make_row (done ++ some) (images rows)) ≡ ((made >>= λ some. updates_of tests make rows >>= λ more. Ok (some ++ more)) >>= λ more. Ok (done ++ more))
    by (Err e) rest = refl
    by (Ok some) rest = rest some ∙ joined some (updates_of tests make rows)

-- ---- the rows that the plan hands out

-- by its cells and by its name
same_row : (tables : Tables) (update : BoundUpdate) (base : Table) (e : Entry) → IsNamed tables update.table e → update_row tables update base e.1 ≡ update_one tables update base e
unfolding update_row name_in
same_row tables update base e named = ap (λ (n : RowId). update_one tables update base (n, e.1)) (sym named.name)

pub by_plan : (tables : Tables) (update : BoundUpdate) (base : Table) (plan : Plan) (rows : Table) (handed found : Rows) → AreRowsOf tables rows →
    LeavesOut tables (update.table ∷ []) plan rows (λ cells. kept cells update.tests ≡ Ok false) → handed ≡ found → found ≡ images (filter (reaches tables update.table plan.first) rows) →
    updates_behind update.tests (update_row tables update base) [] handed ≡ updates_of update.tests (update_one tables update base) (of_table update.table rows)
by_plan tables update base plan rows handed found are leaves same is =
    let reached : Entry → Bool = reaches tables update.table plan.first in
    ap (updates_behind update.tests (update_row tables update base) []) (same ∙ is)
    ∙ by_cells update.tests (update_one tables update base) (update_row tables update base) [] (filter reached rows)
    (All-weaker (IsNamed tables update.table) (λ e. update_row tables update base e.1 ≡ update_one tables update base e) (λ e named. same_row tables update base e named) (filter reached rows)
    (all_named tables update.table reached rows (λ e there. of_its_table tables update.table plan.first e there) are.fit))
    ∙ alone (updates_of update.tests (update_one tables update base) (filter reached rows))
    ∙ same_updates update.tests (update_one tables update base) reached (λ e. nat_eq e.0.table update.table) rows
    (λ a there reaches_it. of_its_table tables update.table plan.first a reaches_it)
    (left_out tables (update.table ∷ []) update.table plan rows update.tests refl leaves)
  where
    alone : (r : Changes) → (r >>= λ more. let m : Changes = Ok ([] ++ more) in m) ≡ r
    alone (Err e) = refl
    alone (Ok more) = refl

-- what an UPDATE makes of all rows
pub over_all : (tables : Tables) (update : BoundUpdate) (base : Table) (own : List ChangeOfRow) (rows : Table) (made : Changes) → rows ≡ overlay base own →
    updates_of update.tests (update_one tables update base) (of_table update.table rows) ≡ made → update_changes tables update base own ≡ made
unfolding update_changes
over_all tables update base own rows made laid is =
    ap (λ (t : Table). updates_of update.tests (update_one tables update base) (of_table update.table t)) (sym laid) ∙ is

pub over_fails : (tables : Tables) (update : BoundUpdate) (base : Table) (own : List ChangeOfRow) (rows : Table) (e : ExecFault) → rows ≡ overlay base own →
    Fails fault.NoMemory e (updates_of update.tests (update_one tables update base) (of_table update.table rows)) → Fails fault.NoMemory e (update_changes tables update base own)
over_fails tables update base own rows e laid (inl lost) = inl lost
over_fails tables update base own rows e laid (inr is) = inr (over_all tables update base own rows (Err e) laid is)
