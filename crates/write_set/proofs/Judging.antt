-- The verdicts over the fresh candidates alone are those of the definitions.
use Rattle.std.proofs.Common.{◌≡◌, Option, Bor, None, Some, List, [], ◌∷◌, refl, arith}
use Rattle.std.specs.Map.{lookup}
use Rattle.std.specs.BTreeMap.{is_at}
use Rattle.std.specs.Option.{is_some, option_copied}
use Rattle.geo_base.specs.declared.row_id.RowId.{RowId}
use Rattle.geo_base.specs.Order.{row_cmp, row_eq}
use Rattle.write_set.specs.Sets.{ChangeOfRow, has_row}

-- ---- rows of a set

-- a look-up finds the row just where the set has it
pub has_row_found : (row : RowId) (set : List ChangeOfRow) → is_some (lookup (is_at (row_cmp row)) set) ≡ has_row row set
unfolding row_eq
has_row_found row [] = refl
has_row_found row (p ∷ ps) = grind (arith, has_row_found row ps)

pub found_behind : {X : Type 0} (found : Option (Bor X)) → is_some found ≡ is_some (option_copied found)
found_behind None = refl
found_behind (Some d) = refl
