-- Which pairs rows lose and get between two images of each.
use Rattle.std.proofs.Common.{◌≡◌, ◌⊎◌, inl, inr, ⊎_elim, ℕ, zero, suc, ◌+◌, Bool, true, false, cond, ◌||◌, ◌&&◌, Option, None, Some, List, [], ◌∷◌, ◌++◌, Contains, refl, sym, ap, ◌∙◌, subst, arith}
use Rattle.std.specs.List.{list_any, cons_option, slice_get}
use Rattle.std.specs.Map.{keys_of}
use Rattle.std.proofs.lemmas.List.{map-append}
use Rattle.std.proofs.lemmas.List.Elements.{Contains-append_left, Contains-append_right, Contains-append_cases}
use Rattle.std.proofs.lemmas.List.Folds.{list_any-append}
use Rattle.geo_base.specs.declared.row_id.RowId.{RowId}
use Rattle.geo_base.specs.declared.row_image.RowImage.{RowImage}
use Rattle.geo_base.specs.declared.cell.Cell.{Cell}
use Rattle.geo_base.specs.Order.{cells_eq, row_eq}
use Rattle.geo_base.specs.laws.Orders.{cells_eq_decides, row_eq_decides}
use Rattle.geo_schema.specs.declared.index.IndexDef.{IndexDef}
use Rattle.geo_schema.specs.Schemas.{Tables, table_at}
use Rattle.geo_schema.specs.Indexes.{index_at, index_cells}
use Rattle.write_set.specs.Journal.{Placed}
use Rattle.write_set.specs.Sets.{ChangeOfRow, alters, changes_row}
use Rattle.write_set.specs.Snapshot.{changes_of}
use Rattle.write_set.specs.laws.Among.{or_false, among_none, among_first, any_found}
use Rattle.index_store.specs.declared.pair.IndexPair.{IndexPair}
use Rattle.index_store.specs.Pairs.{row_of, IsPairIn}
use Rattle.index_store.specs.inner.Following.{are_alike, pair_in, only_first, apart_from, apart, all_apart}
use Rattle.index_store.specs.laws.Members.{alone, in_flat_map, from_flat_map}
use Rattle.index_store.proofs.Having.{made, IsMade, made_is_had, made_again, index_of_had}

-- ---- of two, what the first is and the second isn't

module _ (row : RowId) (place : ℕ) (index : IndexDef) (pair : IndexPair) where
  abbrev cells_of : RowImage → List Cell
  cells_of image = index_cells index image

  same_cells_alike : (a b : RowImage) → pair_in row place index (Some a) ≡ Some pair → pair_in row place index (Some b) ≡ Some pair → cells_eq (cells_of a) (cells_of b) ≡ true
  same_cells_alike a b is also =
      let first : made row place (cells_of a) ≡ pair = cc in
      let second : made row place (cells_of b) ≡ pair = cc in
      (cells_eq_decides (cells_of a) (cells_of b)).1 (ap (λ (p : IndexPair). p.cells) (first ∙ sym second))

  is_only_first : (a b : Option RowImage) → Contains (only_first row place index a b) pair →
      (pair_in row place index a ≡ Some pair) × (pair_in row place index b ≡ Some pair → ⊥)
  is_only_first a b c = by (are_alike index a b) refl c
    where
      differs : (a b : Option RowImage) → are_alike index a b ≡ false → Contains (cons_option (pair_in row place index a) []) pair →
          (pair_in row place index a ≡ Some pair) × (pair_in row place index b ≡ Some pair → ⊥)
      differs None b unlike c = absurd (among_none pair c)
      differs (Some i) None unlike c = (ap Some (alone (made row place (cells_of i)) pair c), λ e. absurd (cc))
      differs (Some i) (Some j) unlike c =
          let is : pair_in row place index (Some i) ≡ Some pair = ap Some (alone (made row place (cells_of i)) pair c) in (
            is,
            λ also.
                let no : true ≡ false = sym (same_cells_alike i j is also) ∙ unlike in
                absurd (cc),
          )

      by : (r : Bool) → are_alike index a b ≡ r → Contains (cond r [] (cons_option (pair_in row place index a) [])) pair →
          (pair_in row place index a ≡ Some pair) × (pair_in row place index b ≡ Some pair → ⊥)
      by true is c = absurd (among_none pair c)
      by false is c = differs a b is c

  has_only_first : (a b : Option RowImage) → pair_in row place index a ≡ Some pair → (pair_in row place index b ≡ Some pair → ⊥) →
      Contains (only_first row place index a b) pair
  has_only_first a b is differs = by (are_alike index a b) refl
    where
      same_pair_in : (a b : Option RowImage) → are_alike index a b ≡ true → pair_in row place index b ≡ pair_in row place index a
      same_pair_in None None alike = refl
      same_pair_in None (Some j) alike = absurd (cc)
      same_pair_in (Some i) None alike = absurd (cc)
      same_pair_in (Some i) (Some j) alike = ap (λ cells. Some (made row place cells)) (sym ((cells_eq_decides (cells_of i) (cells_of j)).0 alike))

      by : (r : Bool) → are_alike index a b ≡ r → Contains (cond r [] (cons_option (pair_in row place index a) [])) pair
      by true alike = absurd (differs (same_pair_in a b alike ∙ is))
      by false unlike = subst (λ o. Contains (cons_option o []) pair) (sym is) (among_first pair [])

-- ---- in several indexes

module _ (row : RowId) (a b : Option RowImage) where
  -- the pair is that of the first image in one of the indexes, and not that of the second
  abbrev IsApartAt : ℕ → IndexDef → IndexPair → Type 0
  IsApartAt place index pair = (pair_in row place index a ≡ Some pair) × (pair_in row place index b ≡ Some pair → ⊥)

  from_apart : (place : ℕ) (indexes : List IndexDef) (pair : IndexPair) → Contains (apart_from row a b place indexes) pair →
      (at : ℕ) × (index : IndexDef) × (slice_get indexes at ≡ Some index) × IsApartAt (place + at) index pair
  from_apart place [] pair c = absurd (among_none pair c)
  from_apart place (index ∷ more) pair c =
      ⊎_elim
      (λ now.
      let same : place ≡ place + 0 = omega arith in
      (0, index, refl, subst (λ p. IsApartAt p index pair) same (is_only_first row place index pair a b now)))
      (λ later.
      let (at, i, there, is) = from_apart (place + 1) more pair later in
      let same : place + 1 + at ≡ place + suc at = omega arith in
      (suc at, i, there, subst (λ p. IsApartAt p i pair) same is))
      (Contains-append_cases (only_first row place index a b) (apart_from row a b (place + 1) more) pair c)

  in_apart : (place : ℕ) (indexes : List IndexDef) (pair : IndexPair) (at : ℕ) (index : IndexDef) → slice_get indexes at ≡ Some index →
      IsApartAt (place + at) index pair → Contains (apart_from row a b place indexes) pair
  in_apart place [] pair at index is apart = absurd (cc)
  in_apart place (first ∷ more) pair zero index is apart =
      let same : first ≡ index = cc in
      let at_place : place + 0 ≡ place = omega arith in
      let now : IsApartAt place index pair = subst (λ p. IsApartAt p index pair) at_place apart in
      let there : IsApartAt place first pair = subst (λ i. IsApartAt place i pair) (sym same) now in
      Contains-append_left (only_first row place first a b) (apart_from row a b (place + 1) more) pair
      (has_only_first row place first pair a b there.0 there.1)
  in_apart place (first ∷ more) pair (suc at) index is apart =
      let at_place : place + suc at ≡ place + 1 + at = omega arith in
      let later : IsApartAt (place + 1 + at) index pair = subst (λ p. IsApartAt p index pair) at_place apart in
      Contains-append_right (only_first row place first a b) (apart_from row a b (place + 1) more) pair
      (in_apart (place + 1) more pair at index is later)

-- ---- of several rows

module _ (tables : Tables) (a b : RowId → Option RowImage) (rows : List RowId) where
  -- a pair that is lost is of a row's first image, and not of its second
  pub from_all_apart : (pair : IndexPair) → Contains (all_apart tables a b rows) pair →
      IsPairIn tables pair (a (row_of pair)) × (IsPairIn tables pair (b (row_of pair)) → ⊥)
  from_all_apart pair c =
      let (row, among, in_row) = from_flat_map (λ row. apart tables row (a row) (b row)) rows pair c in
      let (at, index, there, both) = from_apart row (a row) (b row) 0 (table_at tables row.table).indexes pair in_row in
      let place : 0 + at ≡ at = omega arith in
      let its = made_is_had tables row at index (a row) pair there (subst (λ p. pair_in row p index (a row) ≡ Some pair) place both.0) in
      subst (λ r. IsPairIn tables pair (a r) × (IsPairIn tables pair (b r) → ⊥)) (sym its.row)
      (its.had, λ also. both.1 (subst (λ p. pair_in row p index (b row) ≡ Some pair) (sym place) (made_again tables row at index (b row) pair there its.row its.place also)))

  -- and each such pair of the rows is lost
  pub in_all_apart : (pair : IndexPair) → Contains rows (row_of pair) → IsPairIn tables pair (a (row_of pair)) →
      (IsPairIn tables pair (b (row_of pair)) → ⊥) → Contains (all_apart tables a b rows) pair
  in_all_apart pair among had gone =
      let there = index_of_had tables pair (a (row_of pair)) had in
      let place : pair.index ≡ 0 + pair.index = omega arith in
      let is : IsApartAt (row_of pair) (a (row_of pair)) (b (row_of pair)) pair.index (index_at (table_at tables pair.table) pair.index) pair = (
        made_again tables (row_of pair) pair.index (index_at (table_at tables pair.table) pair.index) (a (row_of pair)) pair there refl refl had,
        λ also. gone (IsMade.had (made_is_had tables (row_of pair) pair.index (index_at (table_at tables pair.table) pair.index) (b (row_of pair)) pair there also)),
      ) in
      in_flat_map (λ r. apart tables r (a r) (b r)) rows (row_of pair) pair among
      (in_apart (row_of pair) (a (row_of pair)) (b (row_of pair)) 0 (table_at tables pair.table).indexes pair pair.index (index_at (table_at tables pair.table) pair.index) there
      (subst (λ p. IsApartAt (row_of pair) (a (row_of pair)) (b (row_of pair)) p (index_at (table_at tables pair.table) pair.index) pair) place is))

-- ---- rows that are changed

none_of_set : (row : RowId) (set : List ChangeOfRow) → list_any (row_eq row) (keys_of set) ≡ false → changes_row row set ≡ false
none_of_set row [] none = refl
none_of_set row (p ∷ ps) none = by (row_eq row p.0) refl (none_of_set row ps) none
  where
    by : (b : Bool) → row_eq row p.0 ≡ b → (list_any (row_eq row) (keys_of ps) ≡ false → changes_row row ps ≡ false) →
        (b || list_any (row_eq row) (keys_of ps)) ≡ false → ((row_eq row p.0 && alters p.1) || changes_row row ps) ≡ false
    by true is rest none = absurd (cc)
    by false is rest none = ap (λ b. (b && alters p.1) || changes_row row ps) is ∙ rest none

none_of_sets : (row : RowId) (committed : List Placed) → list_any (row_eq row) (keys_of (changes_of committed)) ≡ false →
    list_any (λ c. changes_row row c.set) committed ≡ false
none_of_sets row [] none = refl
none_of_sets row (c ∷ cs) none =
    let parts = or_false (list_any (row_eq row) (keys_of c.set)) (list_any (row_eq row) (keys_of (changes_of cs)))
    (sym (list_any-append (row_eq row) (keys_of c.set) (keys_of (changes_of cs)))
    ∙ ap (list_any (row_eq row)) (sym (map-append (λ (p : ChangeOfRow). p.0) c.set (changes_of cs))) ∙ none) in
    ap (λ b. b || list_any (λ d. changes_row row d.set) cs) (none_of_set row c.set parts.0) ∙ none_of_sets row cs parts.1

-- a row is one of those that the committed candidates have, or none of them changes it
pub among_or_unchanged : (row : RowId) (committed : List Placed) →
    Contains (keys_of (changes_of committed)) row ⊎ (list_any (λ c. changes_row row c.set) committed ≡ false)
among_or_unchanged row committed = by (list_any (row_eq row) (keys_of (changes_of committed))) refl
  where
    by : (b : Bool) → list_any (row_eq row) (keys_of (changes_of committed)) ≡ b →
        Contains (keys_of (changes_of committed)) row ⊎ (list_any (λ c. changes_row row c.set) committed ≡ false)
    by true is =
        let (other, among, same) = any_found (row_eq row) (keys_of (changes_of committed)) is in
        inl (subst (Contains (keys_of (changes_of committed))) (sym ((row_eq_decides row other).0 same)) among)
    by false is = inr (none_of_sets row committed is)
