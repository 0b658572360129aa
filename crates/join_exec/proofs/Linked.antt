-- Right rows by their cell in the column of a link.
use Rattle.std.proofs.Common.{Bor, ◌≡◌, ℕ, ◌+◌, ◌<◌, Bool, true, false, not, ◌&&◌, if◌then◌else◌, Option, Some, None, unwrap_or, List, [], ◌∷◌, ◌++◌, drop, get_or, length, map, refl, sym, ap, subst, ◌∙◌, append_assoc}
use Rattle.std.specs.List.{filter}
use Rattle.std.specs.Map.{KeepsOthers, lookup}
use Rattle.std.proofs.lemmas.List.{append-nil, drop_more}
use Rattle.geo_base.specs.Cells.{is_null}
use Rattle.geo_base.specs.Order.{cell_eq}
use Rattle.geo_base.specs.declared.cell.Cell.{Cell}
use Rattle.geo_base.specs.declared.cell.Cell.TheVariants as cell
use Rattle.geo_base.specs.declared.row_image.RowImage.{RowImage}
use Rattle.geo_base.specs.laws.Orders.{cell_eq_decides}
use Rattle.geo_schema.specs.Schemas.{Tables}
use Rattle.join_exec.specs.inner.Kept.{pairs_by}
use Rattle.join_exec.specs.inner.Linked.{found_rows, linked, rows_at}
use Rattle.row_source.specs.Handing.{are_linked, cell_at, finds_by, reaches}
use Rattle.row_source.specs.Matches.{paired}
use Rattle.row_source.specs.Sources.{Entry, images}
use Rattle.row_source.specs.declared.pair.Pair.{Pair}
use Rattle.row_source.specs.declared.plan.Access.{Access}
use Rattle.row_source.specs.declared.plan.JoinKind.{JoinKind}
use Rattle.row_source.specs.declared.plan.JoinKind.TheVariants as join
use Rattle.write_set.specs.Overlay.{Table}

-- NULL is linked to nothing
pub null_unlinked : (c k : Cell) → is_null k ≡ true → are_linked c k ≡ false
null_unlinked c cell.Null is = by (is_null c)
  where
    by : (b : Bool) → (not b && false) ≡ false
    by true = refl
    by false = refl
null_unlinked c (cell.Int x) is = absurd cc
null_unlinked c (cell.Text x) is = absurd cc
null_unlinked c (cell.Truth x) is = absurd cc

-- what isn't NULL is linked to what is equal to it
pub linked_equal : (c k : Cell) → is_null k ≡ false → are_linked c k ≡ cell_eq c k
linked_equal c cell.Null is = absurd cc
linked_equal cell.Null (cell.Int x) is = refl
linked_equal cell.Null (cell.Text x) is = refl
linked_equal cell.Null (cell.Truth x) is = refl
linked_equal (cell.Int y) (cell.Int x) is = refl
linked_equal (cell.Int y) (cell.Text x) is = refl
linked_equal (cell.Int y) (cell.Truth x) is = refl
linked_equal (cell.Text y) (cell.Int x) is = refl
linked_equal (cell.Text y) (cell.Text x) is = refl
linked_equal (cell.Text y) (cell.Truth x) is = refl
linked_equal (cell.Truth y) (cell.Int x) is = refl
linked_equal (cell.Truth y) (cell.Text x) is = refl
linked_equal (cell.Truth y) (cell.Truth x) is = refl

-- rows in front, and the rest
pub linked_more : (column : ℕ) (c : Cell) (row : RowImage) (rows : List RowImage) → linked column c (row ∷ []) ++ linked column c rows ≡ linked column c (row ∷ rows)
linked_more column c row rows = by (are_linked c (cell_at row column)) refl
  where
    by : (b : Bool) → are_linked c (cell_at row column) ≡ b → linked column c (row ∷ []) ++ linked column c rows ≡ linked column c (row ∷ rows)
    by true is = rw is refl
    by false is = rw is refl

-- one more of the rows that are looked at
pub next_row : {A : Type 0} (see : A → RowImage) (column : ℕ) (c : Cell) (xs : List A) (i : ℕ) (x : A) (old new all : List RowImage) → i < length xs → x ≡ get_or xs i x →
    new ≡ old ++ linked column c (see x ∷ []) → old ++ linked column c (map see (drop i xs)) ≡ all → new ++ linked column c (map see (drop (i + 1) xs)) ≡ all
next_row see column c xs i x old new all within at added before =
    let rest : drop i xs ≡ x ∷ drop (i + 1) xs = drop_more xs i x within ∙ ap (λ y. y ∷ drop (i + 1) xs) (sym at) in
    let later : List RowImage = map see (drop (i + 1) xs) in
    ap (λ (rows : List RowImage). rows ++ linked column c later) added
    ∙ append_assoc old (linked column c (see x ∷ [])) (linked column c later)
    ∙ ap (λ (rows : List RowImage). old ++ rows) (linked_more column c (see x) later ∙ ap (λ rows. linked column c (map see rows)) (sym rest))
    ∙ before

-- ---- the map

-- what a row is added to, and the row behind it
pub grown : {V : Type 0} (rows : V → List RowImage) (found default new : V) (entry old : Option V) (row : RowImage) → rows new ≡ rows found ++ row ∷ [] →
    found ≡ unwrap_or entry default → entry ≡ old → rows default ≡ [] → rows new ≡ found_rows rows old ++ row ∷ []
grown rows found default new entry None row pushed is same empty =
    pushed ∙ ap (λ v. rows v ++ row ∷ []) (is ∙ ap (λ e. unwrap_or e default) same) ∙ ap (λ (front : List RowImage). front ++ row ∷ []) empty
grown rows found default new entry (Some v) row pushed is same empty =
    pushed ∙ ap (λ v. rows v ++ row ∷ []) (is ∙ ap (λ e. unwrap_or e default) same)

module _ {K V : Type 0} (see : K → Cell) (rows : V → List RowImage) (old new : List (K × V)) (k : K) (v : V) (row : RowImage)
    (put : lookup (λ q. cell_eq (see k) (see q)) new ≡ Some v) (others : KeepsOthers (λ a b. cell_eq (see a) (see b)) (λ q. cell_eq (see k) (see q)) old new)
    (more : rows v ≡ found_rows rows (lookup (λ q. cell_eq (see k) (see q)) old) ++ row ∷ []) where
  abbrev Added : Cell → Bool → Type 0
  Added c b = rows_at see rows new c ≡ rows_at see rows old c ++ (if b then row ∷ [] else [])

  at_key : Added (see k) true
  at_key = ap (found_rows rows) put ∙ more

  elsewhere : (c : Cell) → cell_eq c (see k) ≡ false → Added c false
  unfolding KeepsOthers
  elsewhere c other =
      ap (found_rows rows)
      (others (λ q. cell_eq c (see q))
      (λ x y is. ap (λ (d : Cell). cell_eq d (see y)) ((cell_eq_decides c (see x)).0 is))
      (λ q is. ap (cell_eq c) (sym ((cell_eq_decides (see k) (see q)).0 is)) ∙ other))
      ∙ sym (append-nil (rows_at see rows old c))

  -- the row is added at its cell alone
  pub added : (c : Cell) → Added c (cell_eq c (see k))
  added c = by (cell_eq c (see k)) refl
    where
      by : (b : Bool) → cell_eq c (see k) ≡ b → Added c (cell_eq c (see k))
      by true is = rw is (subst (λ (d : Cell). Added d true) (sym ((cell_eq_decides c (see k)).0 is)) at_key)
      by false is = rw is (elsewhere c is)

-- of rows that are reached
pub linked_reached : (p : Entry → Bool) (column : ℕ) (c : Cell) (rows : Table) →
    linked column c (images (filter p rows)) ≡ images (filter (λ entry. p entry && are_linked c (cell_at entry.1 column)) rows)
linked_reached p column c [] = refl
linked_reached p column c (a ∷ rows) = by (p a) refl (are_linked c (cell_at a.1 column)) refl (linked_reached p column c rows)
  where
    by : (b : Bool) → p a ≡ b → (d : Bool) → are_linked c (cell_at a.1 column) ≡ d →
        linked column c (images (filter p rows)) ≡ images (filter (λ entry. p entry && are_linked c (cell_at entry.1 column)) rows) →
        linked column c (images (filter p (a ∷ rows))) ≡ images (filter (λ entry. p entry && are_linked c (cell_at entry.1 column)) (a ∷ rows))
    by true is true same rest = rw (is, same) (ap (λ (more : List RowImage). a.1 ∷ more) rest)
    by true is false same rest = rw (is, same) rest
    by false is d same rest = rw is rest

-- ---- each left row beside the same right rows

same_pairs_by : (find other : List Cell → List RowImage) (lefts : List RowImage) → ((left : List Cell) → find left ≡ other left) → pairs_by find lefts ≡ pairs_by other lefts
same_pairs_by find other [] same = refl
same_pairs_by find other (left ∷ lefts) same = rw (same left) (ap (λ (rest : List Pair). map (paired left) (other left) ++ rest) (same_pairs_by find other lefts same))

-- by a link the rows that are found are those with an equal cell
by_link : (tables : Tables) (number : ℕ) (way : Access) (kind : JoinKind) (rows : Table) (l r : ℕ) (found : List RowImage) → kind ≡ join.Hashed l r →
    found ≡ images (filter (reaches tables number way) rows) → (left : List Cell) → linked r (cell_at left l) found ≡ images (filter (finds_by tables number way kind left) rows)
by_link tables number way kind rows l r found is reached left =
    ap (linked r (cell_at left l)) reached ∙ linked_reached (reaches tables number way) r (cell_at left l) rows
    ∙ ap (λ (k : JoinKind). images (filter (finds_by tables number way k left) rows)) (sym is)

-- beside each left row, where they are shown as references
pub all_by_link : (tables : Tables) (number : ℕ) (way : Access) (kind : JoinKind) (rows : Table) (l r : ℕ) (shown found : List (Bor RowImage)) (lefts : List RowImage) →
    kind ≡ join.Hashed l r → shown ≡ found → map (λ row. row.now) found ≡ images (filter (reaches tables number way) rows) →
    pairs_by (λ left. linked r (cell_at left l) (map (λ row. row.now) shown)) lefts ≡ pairs_by (λ left. images (filter (finds_by tables number way kind left) rows)) lefts
all_by_link tables number way kind rows l r shown found lefts is same reached =
    same_pairs_by (λ left. linked r (cell_at left l) (map (λ row. row.now) shown)) (λ left. images (filter (finds_by tables number way kind left) rows)) lefts
    (by_link tables number way kind rows l r (map (λ row. row.now) shown) is (ap (λ (rights : List (Bor RowImage)). map (λ row. row.now) rights) same ∙ reached))
