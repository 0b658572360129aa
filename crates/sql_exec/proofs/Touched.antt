-- Which rows a net has, and the touches of those that it lacks.
use Rattle.std.proofs.Common.{◌≡◌, ℕ, ◌+◌, ◌<◌, get_or, length, take, true, false, not, List, [], ◌∷◌, ◌++◌, map, refl, sym, ap, subst, ◌∙◌, arith}
use Rattle.std.specs.List.{All, filter}
use Rattle.std.specs.Option.{is_some}
use Rattle.std.proofs.Math.ListN.{get_or-map}
use Rattle.std.proofs.lemmas.List.{append-nil, length-map, map-append, take_more}
use Rattle.std.proofs.lemmas.List.Elements.{All-get_or, filter-append}
use Rattle.geo_base.specs.declared.cell.Cell.{Cell}
use Rattle.geo_base.specs.declared.row_id.RowId.{RowId}
use Rattle.geo_base.specs.Order.{row_eq}
use Rattle.sql_exec.specs.Effects.{change_of}
use Rattle.sql_exec.specs.inner.Touching.{touches_by}
use Rattle.write_set.specs.Net.{change_in}
use Rattle.write_set.specs.Overlay.{Table}
use Rattle.write_set.specs.Sets.{ChangeOfRow, has_row}
use Rattle.write_set.specs.declared.change.Change.TheVariants.{Touch}
use Rattle.write_set.specs.declared.row_change.RowChange.{RowChange}

-- a look-up finds the row just where the set has it
pub has_row_found : (row : RowId) (set : List ChangeOfRow) → is_some (change_in set row) ≡ has_row row set
unfolding row_eq
has_row_found row [] = refl
has_row_found row (p ∷ ps) = grind (arith, has_row_found row ps)

-- a row that the net has is touched no more
pub known : (base : Table) (own : List ChangeOfRow) (row : RowId) (done : List RowChange) → is_some (change_in own row) ≡ true →
    done ++ touches_by base own (row ∷ []) ≡ done
unfolding touches_by
known base own row done is = let has : has_row row own ≡ true = sym (has_row_found row own) ∙ is in rw has (append-nil done)

-- no row is touched
pub none : (base : Table) (own : List ChangeOfRow) → touches_by base own [] ≡ []
unfolding touches_by
none base own = refl

-- and one that it lacks is
pub fresh : (base : Table) (own : List ChangeOfRow) (row : RowId) → is_some (change_in own row) ≡ false →
    touches_by base own (row ∷ []) ≡ change_of base row Touch ∷ []
unfolding touches_by
fresh base own row is = let has : has_row row own ≡ false = sym (has_row_found row own) ∙ is in rw has refl

-- one name after others
one_more : (base : Table) (own : List ChangeOfRow) (names others : List RowId) → touches_by base own (names ++ others) ≡ touches_by base own names ++ touches_by base own others
unfolding touches_by
one_more base own names others =
    rw (filter-append (λ (row : RowId). not (has_row row own)) names others)
    (map-append (λ (row : RowId). change_of base row Touch) (filter (λ row. not (has_row row own)) names) (filter (λ row. not (has_row row own)) others))

-- ---- the loop, over anything that has cells

module _ {A : Type 0} (cells : A → List Cell) where
  -- what holds of all rows holds of one of them
  pub row_is : (P : List Cell → Type 0) (rows : List A) (i : ℕ) (row : A) → i < length rows → row ≡ get_or rows i row → All P (map cells rows) → P (cells row)
  row_is P rows i row within at all =
      let there : P (get_or (map cells rows) i (cells row)) = All-get_or P (map cells rows) i (cells row) (omega (arith, within, length-map rows cells)) all in
      subst P (get_or-map cells rows i row ∙ ap cells (sym at)) there

  -- the names of the rows up to a place and of the row that stands there
  pub next_name : (name : List Cell → RowId) (rows : List A) (i : ℕ) (row : A) → i < length rows → row ≡ get_or rows i row →
      map name (map cells (take (i + 1) rows)) ≡ map name (map cells (take i rows)) ++ name (cells row) ∷ []
  next_name name rows i row within at =
      ap (λ (l : List A). map name (map cells l)) (take_more rows i row within ∙ ap (λ (r : A). take i rows ++ r ∷ []) (sym at))
      ∙ ap (map name) (map-append cells (take i rows) (row ∷ [])) ∙ map-append name (map cells (take i rows)) (cells row ∷ [])

  -- one row more
  pub pushed : (name : List Cell → RowId) (base : Table) (own : List ChangeOfRow) (rows : List A) (i : ℕ) (row : A) (old made : List RowChange) (got : RowId) →
      i < length rows → row ≡ get_or rows i row → old ≡ touches_by base own (map name (map cells (take i rows))) → got ≡ name (cells row) →
      made ≡ old ++ touches_by base own (got ∷ []) → made ≡ touches_by base own (map name (map cells (take (i + 1) rows)))
  pushed name base own rows i row old made got within at before is touched =
      rw (next_name name rows i row within at, one_more base own (map name (map cells (take i rows))) (name (cells row) ∷ []))
      (touched ∙ ap (λ (l : List RowChange). l ++ touches_by base own (got ∷ [])) before
      ∙ ap (λ (n : RowId). touches_by base own (map name (map cells (take i rows))) ++ touches_by base own (n ∷ [])) is)
