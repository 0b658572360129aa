-- What a query of one table answers that isn't grouped or sorted: the lines of the rows that its tests keep.
use Rattle.std.proofs.Common.{◌≡◌, ℕ, Bool, true, false, if◌then◌else◌, Option, None, Some, Result, Ok, Err, List, [], ◌∷◌, ◌++◌, map, refl, sym, ap, subst, ◌∙◌}
use Rattle.std.proofs.lemmas.List.{append-nil, length-map, map-append, take-map}
use Rattle.geo_base.specs.Results.{◌>>=◌}
use Rattle.geo_base.specs.declared.cell.Cell.{Cell}
use Rattle.group_exec.specs.Results.{LineOfRow, cut, result_of, ordered, plain_cell, put_in, row_line, within_limit}
use Rattle.row_source.specs.Matches.{alone, in_statement, kept_of, matches_of, pair_cells}
use Rattle.row_source.specs.Sources.{images, of_table}
use Rattle.row_source.specs.declared.fault.ExecFault.{ExecFault}
use Rattle.row_source.specs.declared.pair.Pair.{Pair}
use Rattle.sql_bind.specs.Steps.{each, each_behind}
use Rattle.sql_bind.specs.declared.bound.BoundSelect.{BoundSelect}
use Rattle.sql_bind.specs.declared.bound.Item.{Item}
use Rattle.sql_exec.proofs.Binding.{both_behind, same_behind}
use Rattle.sql_exec.specs.Answers.{answer_of}
use Rattle.sql_exec.specs.inner.Plain.{kept_rows, limited_lines, line_over, lines_over, unless_too_long}
use Rattle.sql_expr.specs.Conditions.{kept}
use Rattle.sql_expr.specs.declared.expr.Expr.{Expr}
use Rattle.write_set.specs.Overlay.{Table}

abbrev Rows : Type 0
Rows = List (List Cell)

abbrev Answer : Type 0
Answer = Result Rows ExecFault

-- ---- a pair of one row is kept as the row is

-- the pairs' cells
abbrev cells_of : Result (List Pair) ExecFault → Answer
cells_of pairs = pairs >>= λ some. Ok (map pair_cells some)

-- one more row
one_more : (test : Result Bool ExecFault) (pairs : Result (List Pair) ExecFault) (rows : Answer) (p : Pair) (row : List Cell) → pair_cells p ≡ row →
    cells_of pairs ≡ rows →
    cells_of (test >>= λ passes. pairs >>= λ rest. Ok (if passes then p ∷ rest else rest)) ≡ (test >>= λ passes. rows >>= λ rest. Ok (if passes then row ∷ rest else rest))
one_more (Err e) pairs rows p row same rest = refl
one_more (Ok b) (Err e) rows p row same rest =
    subst (λ (r : Answer). (let a : Answer = Err e in a) ≡ (r >>= λ more. Ok (if b then row ∷ more else more))) rest refl
one_more (Ok true) (Ok some) rows p row same rest =
    subst (λ (r : Answer). (let a : Answer = Ok (pair_cells p ∷ map pair_cells some) in a) ≡ (r >>= λ more. Ok (row ∷ more))) rest
    (ap (λ (c : List Cell). let a : Answer = Ok (c ∷ map pair_cells some) in a) same)
one_more (Ok false) (Ok some) rows p row same rest =
    subst (λ (r : Answer). (let a : Answer = Ok (map pair_cells some) in a) ≡ (r >>= λ more. Ok more)) rest refl

kept_alone : (tests : List Expr) (rows : Rows) → cells_of (kept_of pair_cells tests (map alone rows)) ≡ kept_of (λ r. r) tests rows
kept_alone tests [] = refl
kept_alone tests (row ∷ rows) =
    one_more (in_statement (kept (row ++ []) tests)) (kept_of pair_cells tests (map alone rows)) (kept_of (λ r. r) tests rows) (alone row) row (append-nil row) (kept_alone tests rows)
    ∙ ap (λ (r : List Cell). in_statement (kept r tests) >>= λ passes. kept_of (λ r. r) tests rows >>= λ rest. Ok (if passes then row ∷ rest else rest)) (append-nil row)

-- ---- lines

-- the lines alone
abbrev lines_in : Result (List LineOfRow) ExecFault → Answer
lines_in lines = lines >>= λ some. Ok (map (λ l. l.line) some)

module _ (items : List Item) where
  same_lines : (rows : Rows) (done : List LineOfRow) →
      lines_in (each_behind (λ _. row_line items) done rows) ≡ each_behind (λ _. line_over items) (map (λ l. l.line) done) rows
  unfolding line_over
  same_lines [] done = refl
  same_lines (row ∷ rows) done = by (each (plain_cell row) items) refl (same_lines rows)
    where
      by : (r : Result (List Cell) ExecFault) → each (plain_cell row) items ≡ r →
          ((more : List LineOfRow) → lines_in (each_behind (λ _. row_line items) more rows) ≡ each_behind (λ _. line_over items) (map (λ l. l.line) more) rows) →
          lines_in (each_behind (λ _. row_line items) done (row ∷ rows)) ≡ each_behind (λ _. line_over items) (map (λ l. l.line) done) (row ∷ rows)
      by (Err e) is rest = rw is refl
      by (Ok line) is rest =
          let made : LineOfRow = record { line = line; row = row } in
          let more : lines_in (each_behind (λ _. row_line items) (done ++ made ∷ []) rows) ≡ each_behind (λ _. line_over items) (map (λ l. l.line) done ++ line ∷ []) rows =
          subst (λ (front : Rows). lines_in (each_behind (λ _. row_line items) (done ++ made ∷ []) rows) ≡ each_behind (λ _. line_over items) front rows)
          (map-append (λ (l : LineOfRow). l.line) done (made ∷ [])) (rest (done ++ made ∷ [])) in
          rw is more

-- without ORDER BY the lines stay as they are
stays : (l : LineOfRow) (lines : List LineOfRow) → put_in [] l lines ≡ l ∷ lines
stays l [] = refl
stays l (m ∷ lines) = refl

unordered : (lines : List LineOfRow) → ordered [] lines ≡ lines
unordered [] = refl
unordered (l ∷ lines) = ap (put_in [] l) (unordered lines) ∙ stays l lines

-- LIMIT leaves the first lines, whatever is known besides of each
first_lines : {A B : Type 0} (f : A → B) (limit : Option ℕ) (lines : List A) → map f (cut limit lines) ≡ cut limit (map f lines)
first_lines f None lines = refl
first_lines f (Some limit) lines = sym (take-map f limit lines)

short_enough : (limit : Option ℕ) (lines : List LineOfRow) → within_limit (cut limit (ordered [] lines)) ≡ unless_too_long (cut limit (map (λ l. l.line) lines))
short_enough limit lines =
    rw (unordered lines, sym (first_lines (λ (l : LineOfRow). l.line) limit lines), length-map (cut limit lines) (λ (l : LineOfRow). l.line)) refl

-- ---- the whole

pub plain_lines : (query : BoundSelect) (rows : Rows) → query.grouped ≡ false → query.order ≡ [] → result_of query rows ≡ limited_lines query.items query.limit rows
unfolding result_of limited_lines lines_over
plain_lines query rows ungrouped no_order =
    rw (ungrouped, no_order)
    (same_behind (each (row_line query.items) rows) (λ lines. within_limit (cut query.limit (ordered [] lines)))
    (λ lines. unless_too_long (cut query.limit (map (λ l. l.line) lines))) (short_enough query.limit)
    ∙ both_behind (each (row_line query.items) rows) (map (λ l. l.line)) (λ lines. unless_too_long (cut query.limit lines))
    ∙ ap (λ (lines : Answer). lines >>= λ some. unless_too_long (cut query.limit some)) (same_lines query.items rows []))

-- the pairs of one table are made to lines as its rows are
pub alone_same : (query : BoundSelect) (number : ℕ) (rows : Table) → query.tables ≡ number ∷ [] →
    answer_of query rows ≡ (kept_rows query.tests (images (of_table number rows)) >>= result_of query)
unfolding answer_of matches_of kept_rows result_of
alone_same query number rows is =
    rw is
    (both_behind (kept_of pair_cells query.tests (map alone (images (of_table number rows)))) (map pair_cells) (result_of query)
    ∙ ap (λ (r : Answer). r >>= result_of query) (kept_alone query.tests (images (of_table number rows))))
