-- The runs of sorted rows are their groups.
use Rattle.std.proofs.Common.{◌≡◌, ℕ, ◌≤◌, Bool, true, false, cond, List, [], ◌∷◌, filter, length, map, refl, sym, ap, subst, ◌∙◌, arith}
use Rattle.std.specs.BTreeSet.{insert_key}
use Rattle.std.specs.Cmp.{IsTotalOrder}
use Rattle.std.specs.Ordering.{is_eq, match_ordering, ordering_reverse, ordering_then}
use Rattle.std.specs.declared.cmp.Ordering.{Ordering}
use Rattle.std.specs.declared.cmp.Ordering.TheVariants.{Less, Equal, Greater}
use Rattle.geo_base.specs.Order.{cell_cmp, cells_cmp}
use Rattle.geo_base.specs.declared.cell.Cell.{Cell}
use Rattle.geo_base.specs.laws.Orders.{cells_cmp_total, same_cells}
use Rattle.row_source.specs.Handing.{cell_at}
use Rattle.sql_bind.specs.declared.bound.Sort.{Sort}
use Rattle.group_exec.specs.Groups.{RowWithArguments, distinct_cells, group_cells, group_of, groups_of}
use Rattle.group_exec.specs.Results.{LineOfRow, by_all, ordered, put_in}
use Rattle.group_exec.specs.inner.Runs.{as_row, joined, rising_by, runs}
use Rattle.group_exec.specs.laws.Orders.{by_all_total}

abbrev Lines : Type 0
Lines = List LineOfRow

eq_back : (o : Ordering) → is_eq (ordering_reverse o) ≡ is_eq o
eq_back Less = refl
eq_back Equal = refl
eq_back Greater = refl

less_or_equal : Less ≡ Equal → ⊥
less_or_equal e = cc

less_or_greater : Less ≡ Greater → ⊥
less_or_greater e = cc

is_equal : (o : Ordering) → is_eq o ≡ true → o ≡ Equal
is_equal Less e = cc
is_equal Equal e = refl
is_equal Greater e = cc

-- ---- one more row among sorted ones is one more in a run

module _ (sorts : List Sort) where
  total : IsTotalOrder (by_all sorts)
  total = by_all_total sorts

  -- one more row, put in front of its group, or as a group of its own
  abbrev pub put_group : LineOfRow → List Lines → List Lines
  put_group l [] = (l ∷ []) ∷ []
  put_group l ([] ∷ rest) = [] ∷ put_group l rest
  put_group l ((m ∷ run) ∷ rest) = match_ordering (by_all sorts l m) ((l ∷ []) ∷ (m ∷ run) ∷ rest) ((l ∷ m ∷ run) ∷ rest) ((m ∷ run) ∷ put_group l rest)

  abbrev pub grouped : Lines → List Lines
  grouped [] = []
  grouped (l ∷ lines) = put_group l (grouped lines)

  module _ (l m : LineOfRow) where
    -- before the first run
    in_front : (o : Ordering) → by_all sorts l m ≡ o → (o ≡ Greater → ⊥) → (run : Lines) (rest : List Lines) → joined sorts l ((m ∷ run) ∷ rest) ≡ put_group l ((m ∷ run) ∷ rest)
    in_front Less is not_greater run rest = rw is refl
    in_front Equal is not_greater run rest = rw is refl
    in_front Greater is not_greater run rest = absurd (not_greater refl)

    front : (by_all sorts l m ≡ Greater → ⊥) → (rest : List Lines) → joined sorts l (joined sorts m rest) ≡ put_group l (joined sorts m rest)
    front not_greater [] = in_front (by_all sorts l m) refl not_greater [] []
    front not_greater ([] ∷ rest) = in_front (by_all sorts l m) refl not_greater [] rest
    front not_greater ((n ∷ run) ∷ rest) = by (is_eq (by_all sorts m n)) refl
      where
        by : (b : Bool) → is_eq (by_all sorts m n) ≡ b → joined sorts l (joined sorts m ((n ∷ run) ∷ rest)) ≡ put_group l (joined sorts m ((n ∷ run) ∷ rest))
        by true is = rw is (in_front (by_all sorts l m) refl not_greater (n ∷ run) rest)
        by false is = rw is (in_front (by_all sorts l m) refl not_greater [] ((n ∷ run) ∷ rest))

    -- behind the first row
    module _ (greater : by_all sorts l m ≡ Greater) where
      back : by_all sorts m l ≡ Less
      back = total.antisymm m l ∙ ap ordering_reverse greater

      -- what doesn't come behind the first row doesn't tie with it
      apart : (n : LineOfRow) (o : Ordering) → by_all sorts l n ≡ o → (o ≡ Greater → ⊥) → (b : Bool) → is_eq (by_all sorts m n) ≡ b → is_eq (by_all sorts m n) ≡ false
      apart n o is never false e = e
      apart n o is never true e =
          absurd (never (sym is ∙ total.antisymm l n ∙ ap ordering_reverse (sym (total.congr m n l (is_equal (by_all sorts m n) e)) ∙ back)))

      behind : (rest : List Lines) → joined sorts m (put_group l rest) ≡ put_group l (joined sorts m rest)
      behind [] = rw (back, greater) refl
      behind ([] ∷ rest) = rw greater refl
      behind ((n ∷ run) ∷ rest) = by (by_all sorts l n) (is_eq (by_all sorts m n)) refl refl
        where
          by : (o : Ordering) (b : Bool) → by_all sorts l n ≡ o → is_eq (by_all sorts m n) ≡ b → joined sorts m (put_group l ((n ∷ run) ∷ rest)) ≡ put_group l (joined sorts m ((n ∷ run) ∷ rest))
          by Less b is e = let away : is_eq (by_all sorts m n) ≡ false = apart n Less is less_or_greater b e in rw (is, away, back, greater, is) refl
          by Equal b is e = let away : is_eq (by_all sorts m n) ≡ false = apart n Equal is (λ h. cc) b e in rw (is, away, back, greater, is) refl
          by Greater true is e = rw (is, e, greater) refl
          by Greater false is e = rw (is, e, greater, is) refl

  runs_put : (l : LineOfRow) (lines : Lines) → runs sorts (put_in sorts l lines) ≡ put_group l (runs sorts lines)
  runs_put l [] = refl
  runs_put l (m ∷ lines) = by (by_all sorts l m) refl (runs_put l lines)
    where
      by : (o : Ordering) → by_all sorts l m ≡ o → runs sorts (put_in sorts l lines) ≡ put_group l (runs sorts lines) → runs sorts (put_in sorts l (m ∷ lines)) ≡ put_group l (runs sorts (m ∷ lines))
      by Less is rest = rw is (front l m (λ h. less_or_greater (sym is ∙ h)) (runs sorts lines))
      by Equal is rest = rw is (front l m (λ h. let e : Equal ≡ Greater = sym is ∙ h in cc) (runs sorts lines))
      by Greater is rest = rw is (ap (joined sorts m) rest ∙ behind l m is (runs sorts lines))

  pub runs_in_order : (lines : Lines) → runs sorts (ordered sorts lines) ≡ grouped lines
  runs_in_order [] = refl
  runs_in_order (l ∷ lines) = runs_put l (ordered sorts lines) ∙ ap (put_group l) (runs_in_order lines)

-- ---- the groups by the distinct cells

-- lines by their cells in some columns
order_is : (columns : List ℕ) (a b : LineOfRow) → by_all (map rising_by columns) a b ≡ cells_cmp (group_cells columns a.row) (group_cells columns b.row)
order_is [] a b = refl
order_is (column ∷ columns) a b = ap (ordering_then (cell_cmp (cell_at a.row column) (cell_at b.row column))) (order_is columns a b)

tied_alone : (cells : List Cell) → cells_cmp cells cells ≡ Equal
tied_alone cells = by (cells_cmp cells cells) refl
  where
    by : (o : Ordering) → cells_cmp cells cells ≡ o → cells_cmp cells cells ≡ Equal
    by Less is = absurd (less_or_greater (sym is ∙ cells_cmp_total.antisymm cells cells ∙ ap ordering_reverse is))
    by Equal is = is
    by Greater is = absurd (less_or_greater (sym (sym is ∙ cells_cmp_total.antisymm cells cells ∙ ap ordering_reverse is)))

-- the first cells are below all others
abbrev pub IsBelow : List Cell → List (List Cell) → Type 0
IsBelow cells [] = Unit {0}
IsBelow cells (d ∷ rest) = (cells_cmp cells d ≡ Less) × IsBelow cells rest

-- the cells tie with none of others
abbrev pub IsNotIn : List Cell → List (List Cell) → Type 0
IsNotIn cells [] = Unit {0}
IsNotIn cells (d ∷ rest) = (is_eq (cells_cmp cells d) ≡ false) × IsNotIn cells rest

-- cells that rise
abbrev pub AreRising : List (List Cell) → Type 0
AreRising [] = Unit {0}
AreRising (cells ∷ rest) = IsBelow cells rest × AreRising rest

below_more : (a b : List Cell) (rest : List (List Cell)) → cells_cmp a b ≡ Less → IsBelow b rest → IsBelow a rest
below_more a b [] less below = tt
below_more a b (d ∷ rest) less below = (cells_cmp_total.trans a b d less below.0, below_more a b rest less below.1)

below_is_not_in : (a : List Cell) (rest : List (List Cell)) → IsBelow a rest → IsNotIn a rest
below_is_not_in a [] below = tt
below_is_not_in a (d ∷ rest) below = (ap is_eq below.0, below_is_not_in a rest below.1)

eq_either_way : (a b : List Cell) → is_eq (cells_cmp a b) ≡ is_eq (cells_cmp b a)
eq_either_way a b = ap is_eq (cells_cmp_total.antisymm a b) ∙ eq_back (cells_cmp b a)

module _ (cells : List Cell) where
  below_put : (a : List Cell) (keys : List (List Cell)) → cells_cmp a cells ≡ Less → IsBelow a keys → IsBelow a (insert_key cells_cmp keys cells)
  below_put a [] less below = (less, tt)
  below_put a (d ∷ keys) less below = by (cells_cmp cells d) refl (below_put a keys less below.1)
    where
      by : (o : Ordering) → cells_cmp cells d ≡ o → IsBelow a (insert_key cells_cmp keys cells) → IsBelow a (insert_key cells_cmp (d ∷ keys) cells)
      by Less is rest = rw is (less, below)
      by Equal is rest = rw is below
      by Greater is rest = rw is (below.0, rest)

  rising_put : (keys : List (List Cell)) → AreRising keys → AreRising (insert_key cells_cmp keys cells)
  rising_put [] rising = (tt, tt)
  rising_put (d ∷ keys) rising = by (cells_cmp cells d) refl (rising_put keys rising.1)
    where
      by : (o : Ordering) → cells_cmp cells d ≡ o → AreRising (insert_key cells_cmp keys cells) → AreRising (insert_key cells_cmp (d ∷ keys) cells)
      by Less is rest = rw is ((is, below_more cells d keys is rising.0), rising)
      by Equal is rest = rw is rising
      by Greater is rest = rw is (below_put d keys (cells_cmp_total.antisymm d cells ∙ ap ordering_reverse is) rising.0, rest)

  not_in_put : (q : List Cell) (keys : List (List Cell)) → IsNotIn q (insert_key cells_cmp keys cells) → (is_eq (cells_cmp q cells) ≡ false) × IsNotIn q keys
  not_in_put q [] none = none
  not_in_put q (d ∷ keys) none = by (cells_cmp cells d) refl (not_in_put q keys) none
    where
      by : (o : Ordering) → cells_cmp cells d ≡ o → (IsNotIn q (insert_key cells_cmp keys cells) → (is_eq (cells_cmp q cells) ≡ false) × IsNotIn q keys) →
          IsNotIn q (insert_key cells_cmp (d ∷ keys) cells) → (is_eq (cells_cmp q cells) ≡ false) × IsNotIn q (d ∷ keys)
      by Less is later none = rw is at none
      by Equal is later none =
          let there : IsNotIn q (d ∷ keys) = rw is at none in
          (subst (λ (k : List Cell). is_eq (cells_cmp q k) ≡ false) (sym (same_cells cells d is)) there.0, there)
      by Greater is later none =
          let there : (is_eq (cells_cmp q d) ≡ false) × IsNotIn q (insert_key cells_cmp keys cells) = rw is at none in
          let more = later there.1 in
          (more.0, (there.0, more.1))

module _ (columns : List ℕ) where
  abbrev key : LineOfRow → List Cell
  key l = group_cells columns l.row

  abbrev sorts : List Sort
  sorts = map rising_by columns

  -- the lines whose cells in the columns are these
  abbrev pub group : Lines → List Cell → Lines
  group lines cells = filter (λ l. is_eq (cells_cmp (key l) cells)) lines

  -- their distinct cells
  abbrev pub keys : Lines → List (List Cell)
  keys lines = distinct_cells columns (map as_row lines)

  -- each group has a first line, whose cells are the group's
  abbrev IsHeaded : (List Cell → Lines) → List Cell → Type 0
  IsHeaded of cells = (m : LineOfRow) × (run : Lines) × (of cells ≡ m ∷ run) × (key m ≡ cells)

  abbrev AreHeaded : (List Cell → Lines) → List (List Cell) → Type 0
  AreHeaded of [] = Unit {0}
  AreHeaded of (cells ∷ rest) = IsHeaded of cells × AreHeaded of rest

  -- one more line in front of the lines
  module _ (l : LineOfRow) (of : List Cell → Lines) where
    abbrev with_one : List Cell → Lines
    with_one cells = cond (is_eq (cells_cmp (key l) cells)) (l ∷ of cells) (of cells)

    as_before : (d : List (List Cell)) → IsNotIn (key l) d → map with_one d ≡ map of d
    as_before [] none = refl
    as_before (cells ∷ d) none = rw none.0 (ap (λ (rest : List Lines). of cells ∷ rest) (as_before d none.1))

    own : with_one (key l) ≡ l ∷ of (key l)
    own = rw (tied_alone (key l)) refl

    head_with_one : (cells : List Cell) → IsHeaded of cells → IsHeaded with_one cells
    head_with_one cells h = by (is_eq (cells_cmp (key l) cells)) refl
      where
        by : (b : Bool) → is_eq (cells_cmp (key l) cells) ≡ b → IsHeaded with_one cells
        by true is = (l, of cells, (rw is refl), same_cells (key l) cells (is_equal (cells_cmp (key l) cells) is))
        by false is = (h.0, h.1, (rw is h.2), h.3)

    heads_with_one : (d : List (List Cell)) → AreHeaded of d → AreHeaded with_one d
    heads_with_one [] h = tt
    heads_with_one (cells ∷ d) h = (head_with_one cells h.0, heads_with_one d h.1)

    heads_put : (d : List (List Cell)) → AreHeaded of d → AreHeaded with_one (insert_key cells_cmp d (key l))
    heads_put [] h = ((l, of (key l), own, refl), tt)
    heads_put (cells ∷ d) h = by (cells_cmp (key l) cells) refl (heads_put d h.1)
      where
        by : (o : Ordering) → cells_cmp (key l) cells ≡ o → AreHeaded with_one (insert_key cells_cmp d (key l)) → AreHeaded with_one (insert_key cells_cmp (cells ∷ d) (key l))
        by Less is rest = rw is ((l, of (key l), own, refl), heads_with_one (cells ∷ d) h)
        by Equal is rest = rw is (heads_with_one (cells ∷ d) h)
        by Greater is rest = rw is (head_with_one cells h.0, rest)

    -- a line beside the first of a group is in the order of their cells
    beside : (m : LineOfRow) (cells : List Cell) → key m ≡ cells → by_all sorts l m ≡ cells_cmp (key l) cells
    beside m cells is = order_is columns l m ∙ ap (cells_cmp (key l)) is

    put_is : (d : List (List Cell)) → AreHeaded of d → AreRising d → (IsNotIn (key l) d → of (key l) ≡ []) → map with_one (insert_key cells_cmp d (key l)) ≡ put_group sorts l (map of d)
    put_is [] h rising none = ap (λ (run : Lines). run ∷ []) (own ∙ ap (λ (run : Lines). l ∷ run) (none tt))
    put_is (cells ∷ d) h rising none = by (cells_cmp (key l) cells) refl (put_is d h.1 rising.1)
      where
        by : (o : Ordering) → cells_cmp (key l) cells ≡ o →
            ((IsNotIn (key l) d → of (key l) ≡ []) → map with_one (insert_key cells_cmp d (key l)) ≡ put_group sorts l (map of d)) →
            map with_one (insert_key cells_cmp (cells ∷ d) (key l)) ≡ put_group sorts l (of cells ∷ map of d)
        by Less is later =
            let out : IsNotIn (key l) (cells ∷ d) = below_is_not_in (key l) (cells ∷ d) (is, below_more (key l) cells d is rising.0) in
            let order : by_all sorts l h.0.0 ≡ Less = beside h.0.0 cells h.0.3 ∙ is in
            let mine : with_one (key l) ≡ l ∷ [] = own ∙ ap (λ (run : Lines). l ∷ run) (none out) in
            let others : map with_one (cells ∷ d) ≡ map of (cells ∷ d) = as_before (cells ∷ d) out in
            ap (λ (k : List (List Cell)). map with_one k) (ap (λ (o : Ordering). match_ordering o (key l ∷ cells ∷ d) (cells ∷ d) (cells ∷ insert_key cells_cmp d (key l))) is)
            ∙ ap (λ (run : Lines). run ∷ map with_one (cells ∷ d)) mine
            ∙ ap (λ (rest : List Lines). (l ∷ []) ∷ rest) others
            ∙ (rw (h.0.2, order) refl)
        by Equal is later =
            let out : IsNotIn (key l) d = below_is_not_in (key l) d (subst (λ (k : List Cell). IsBelow k d) (sym (same_cells (key l) cells is)) rising.0) in
            let order : by_all sorts l h.0.0 ≡ Equal = beside h.0.0 cells h.0.3 ∙ is in
            let mine : with_one cells ≡ l ∷ of cells = ap (λ (o : Ordering). cond (is_eq o) (l ∷ of cells) (of cells)) is in
            ap (λ (k : List (List Cell)). map with_one k) (ap (λ (o : Ordering). match_ordering o (key l ∷ cells ∷ d) (cells ∷ d) (cells ∷ insert_key cells_cmp d (key l))) is)
            ∙ ap (λ (run : Lines). run ∷ map with_one d) mine
            ∙ ap (λ (rest : List Lines). (l ∷ of cells) ∷ rest) (as_before d out)
            ∙ (rw (h.0.2, order) refl)
        by Greater is later =
            let order : by_all sorts l h.0.0 ≡ Greater = beside h.0.0 cells h.0.3 ∙ is in
            let mine : with_one cells ≡ of cells = ap (λ (o : Ordering). cond (is_eq o) (l ∷ of cells) (of cells)) is in
            ap (λ (k : List (List Cell)). map with_one k) (ap (λ (o : Ordering). match_ordering o (key l ∷ cells ∷ d) (cells ∷ d) (cells ∷ insert_key cells_cmp d (key l))) is)
            ∙ ap (λ (run : Lines). run ∷ map with_one (insert_key cells_cmp d (key l))) mine
            ∙ ap (λ (rest : List Lines). of cells ∷ rest) (later (λ out. none (ap is_eq is, out)))
            ∙ (rw (h.0.2, order) refl)

  -- what stands of the lines so far
  record Stands (lines : Lines) : Type 0 where
    headed : AreHeaded (group lines) (keys lines)
    rising : AreRising (keys lines)
    none : (cells : List Cell) → IsNotIn cells (keys lines) → group lines cells ≡ []

  stands : (lines : Lines) → Stands lines
  stands [] = record { headed = tt; rising = tt; none = λ cells out. refl }
  stands (l ∷ lines) =
      let so_far = stands lines in
      record {
        headed = heads_put l (group lines) (keys lines) so_far.headed;
        rising = rising_put (key l) (keys lines) so_far.rising;
        none = λ cells out.
            let p = not_in_put (key l) cells (keys lines) out in
            let away : is_eq (cells_cmp (key l) cells) ≡ false = eq_either_way (key l) cells ∙ p.0 in
            ap (λ (b : Bool). cond b (l ∷ group lines cells) (group lines cells)) away ∙ so_far.none cells p.1;
      }

  groups_put : (lines : Lines) → map (group lines) (keys lines) ≡ grouped sorts lines
  groups_put [] = refl
  groups_put (l ∷ lines) =
      let so_far = stands lines in
      put_is l (group lines) (keys lines) so_far.headed so_far.rising (so_far.none (key l)) ∙ ap (put_group sorts l) (groups_put lines)

  -- the same of rows
  same_group : (cells : List Cell) (lines : Lines) → map as_row (group lines cells) ≡ group_of columns (map as_row lines) cells
  same_group cells [] = refl
  same_group cells (l ∷ lines) = by (is_eq (cells_cmp (key l) cells)) refl (same_group cells lines)
    where
      by : (b : Bool) → is_eq (cells_cmp (key l) cells) ≡ b → map as_row (group lines cells) ≡ group_of columns (map as_row lines) cells →
          map as_row (group (l ∷ lines) cells) ≡ group_of columns (map as_row (l ∷ lines)) cells
      by true is rest = rw is (ap (λ (more : List RowWithArguments). as_row l ∷ more) rest)
      by false is rest = rw is rest

  same_groups : (lines : Lines) (d : List (List Cell)) → map (map as_row) (map (group lines) d) ≡ map (group_of columns (map as_row lines)) d
  same_groups lines [] = refl
  same_groups lines (cells ∷ d) =
      ap (λ (run : List RowWithArguments). run ∷ map (map as_row) (map (group lines) d)) (same_group cells lines)
      ∙ ap (λ (rest : List (List RowWithArguments)). group_of columns (map as_row lines) cells ∷ rest) (same_groups lines d)

  runs_are_groups : (lines : Lines) → map (map as_row) (runs sorts (ordered sorts lines)) ≡ map (group_of columns (map as_row lines)) (distinct_cells columns (map as_row lines))
  runs_are_groups lines = ap (map (map as_row)) (runs_in_order sorts lines ∙ sym (groups_put lines)) ∙ same_groups lines (keys lines)

-- the runs of rows that are sorted by the columns of GROUP BY are the groups
pub groups_are_runs : (columns : List ℕ) (lines : Lines) → 1 ≤ length columns →
    map (map as_row) (runs (map rising_by columns) (ordered (map rising_by columns) lines)) ≡ groups_of columns (map as_row lines)
groups_are_runs [] lines some = absurd (omega arith)
groups_are_runs (column ∷ columns) lines some = runs_are_groups (column ∷ columns) lines
