-- Rows that fit their tables.
use Rattle.std.proofs.Common.{◌≡◌, ℕ, ◌+◌, ◌<◌, ◌≤◌, Bool, true, List, [], ◌∷◌, ◌++◌, get_or, length, take, subst, sym, ap, ◌∙◌}
use Rattle.std.specs.List.{All}
use Rattle.std.proofs.lemmas.List.{map-append, take_all, take_more}
use Rattle.std.proofs.lemmas.List.Elements.{All-push}
use Rattle.geo_base.specs.declared.cell.Cell.{Cell}
use Rattle.geo_base.specs.Order.{cells_eq}
use Rattle.geo_base.specs.laws.Orders.{cells_eq_decides}
use Rattle.geo_schema.specs.Schemas.{Tables}
use Rattle.row_source.specs.declared.list_source.RowImageAt.{RowImageAt}
use Rattle.row_source.specs.Lists.{entry_of, table_of}
use Rattle.row_source.specs.Sources.{Fits}

-- keys that compare equal are one
pub same_key : (a b : List Cell) → cells_eq a b ≡ true → a ≡ b
same_key a b yes_is = (cells_eq_decides a b).0 yes_is

-- one row more
pub one_more : (tables : Tables) (rows more : List RowImageAt) (at : RowImageAt) → All (Fits tables) (table_of rows) → Fits tables (entry_of at) →
    more ≡ rows ++ at ∷ [] → All (Fits tables) (table_of more)
one_more tables rows more at all fits is =
    subst (λ (l : List RowImageAt). All (Fits tables) (table_of l)) (sym is)
    (subst (All (Fits tables)) (sym (map-append entry_of rows (at ∷ []))) (All-push (Fits tables) (table_of rows) (entry_of at) all fits))

-- the rows up to the next place
pub one_further : (tables : Tables) (rows : List RowImageAt) (i : ℕ) (at : RowImageAt) (b : Bool) → i < length rows → at ≡ get_or rows i at → (b ≡ true → Fits tables (entry_of at)) →
    b ≡ true → All (Fits tables) (table_of (take i rows)) → All (Fits tables) (table_of (take (i + 1) rows))
one_further tables rows i at b within is fits met all =
    one_more tables (take i rows) (take (i + 1) rows) at all (fits met)
    (take_more rows i at within ∙ ap (λ (a : RowImageAt). take i rows ++ a ∷ []) (sym is))

pub no_further : (tables : Tables) (rows : List RowImageAt) (i : ℕ) → length rows ≤ i → All (Fits tables) (table_of (take i rows)) → All (Fits tables) (table_of rows)
no_further tables rows i past all = subst (λ (l : List RowImageAt). All (Fits tables) (table_of l)) (take_all i rows past) all
