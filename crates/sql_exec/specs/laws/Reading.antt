-- Laws: rows in rising order, with images or with changes, and what look-ups find among them.
use Rattle.std.proofs.Common.{◌≡◌, ℕ, true, Option, Some, IsSome, List, All, Contains, nat_eq, refl, ap, ◌∙◌, eqb-true}
use Rattle.std.specs.BTreeMap.{is_at}
use Rattle.std.specs.Cmp.{eq_by_cmp_equiv}
use Rattle.std.specs.Map.{keys_of, lookup}
use Rattle.std.specs.Ordering.{eq_by_cmp}
use Rattle.std.proofs.lemmas.List.Elements.{All-contains, All-contains_itself, All-filter, All-weaker, filter_passes}
use Rattle.std.proofs.lemmas.Map.Keys.{IsDistinct-from_sorted}
use Rattle.std.proofs.lemmas.Map.Views.{Contains-from_lookup, lookup-from_Contains}
use Rattle.geo_base.specs.Order.{row_cmp}
use Rattle.geo_base.specs.declared.row_id.RowId.{RowId}
use Rattle.geo_base.specs.declared.row_image.RowImage.{RowImage}
use Rattle.geo_base.specs.laws.Orders.{row_cmp_total, row_eq_decides, row_eq_ties}
use Rattle.row_source.specs.Sources.{Entry, of_table}
use Rattle.sql_exec.specs.laws.Parts.{filter_some, rising_made}
use Rattle.write_set.specs.Overlay.{Table}
use Rattle.write_set.specs.Sets.{Rises}

same_name : (a b : RowId) → eq_by_cmp row_cmp a b ≡ true → a ≡ b
same_name a b h = (row_eq_decides a b).0 (row_eq_ties a b ∙ h)

-- a row that a look-up finds is there
pub found_there : {X : Type 0} (entries : List (RowId × X)) (row : RowId) (x : X) → lookup (is_at (row_cmp row)) entries ≡ Some x → Contains entries (row, x)
found_there entries row x h = Contains-from_lookup same_name row x entries h

-- a look-up finds each row
pub all_found : {X : Type 0} (entries : List (RowId × X)) → Rises entries → All (λ entry. lookup (is_at (row_cmp entry.0)) entries ≡ Some entry.1) entries
all_found entries rises =
    All-weaker (Contains entries) (λ entry. lookup (is_at (row_cmp entry.0)) entries ≡ Some entry.1)
    (λ entry h. lookup-from_Contains (eq_by_cmp_equiv row_cmp_total) entry.0 entry.1 entries (IsDistinct-from_sorted row_cmp (keys_of entries) rises) h) entries
    (All-contains_itself entries)

pub some_found : (o : Option RowImage) (image : RowImage) → o ≡ Some image → IsSome o
some_found o image h = rw h refl

-- what holds of each row that a look-up finds
pub all_from_found : {X : Type 0} (P : RowId × X → Type 0) (entries : List (RowId × X)) → Rises entries →
    ((row : RowId) (x : X) → lookup (is_at (row_cmp row)) entries ≡ Some x → P (row, x)) → All P entries
all_from_found P entries rises h =
    All-weaker (λ entry. lookup (is_at (row_cmp entry.0)) entries ≡ Some entry.1) P (λ entry found. h entry.0 entry.1 found) entries (all_found entries rises)

pub found_from_all : {X : Type 0} (P : RowId × X → Type 0) (entries : List (RowId × X)) (row : RowId) (x : X) → All P entries →
    lookup (is_at (row_cmp row)) entries ≡ Some x → P (row, x)
found_from_all P entries row x all h = All-contains P entries (row, x) all (found_there entries row x h)

-- the rows of a table are of it
pub all_of_table : (number : ℕ) (rows : Table) → All (λ entry. entry.0.table ≡ number) (of_table number rows)
all_of_table number rows =
    All-weaker (λ entry. nat_eq entry.0.table number ≡ true) (λ entry. entry.0.table ≡ number) (λ entry h. eqb-true entry.0.table number h)
    (of_table number rows) (filter_passes (λ entry. nat_eq entry.0.table number) rows)

-- and what holds of all rows holds of them
pub all_in_table : (P : Entry → Type 0) (number : ℕ) (rows : Table) → All P rows → All P (of_table number rows)
all_in_table P number rows all = All-filter (λ entry. nat_eq entry.0.table number) P rows all

-- they rise as all rows do
pub rises_in_table : (number : ℕ) (rows : Table) → Rises rows → Rises (of_table number rows)
rises_in_table number rows rises =
    rising_made (λ a b. b ≡ a) row_cmp (λ entry. entry.0) (λ entry. entry.0) (λ a b h. ap (λ (entry : Entry). entry.0) h) rows (of_table number rows) rises
    (filter_some (λ entry. nat_eq entry.0.table number) rows)
