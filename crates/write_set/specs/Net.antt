-- The net write set of a transaction: what is left of its changes. `IsNet` is the description to believe.
use Rattle.std.specs.Prelude.{◌≡◌, ◌⊎◌, ◌<◌, Bool, true, false, Option, Some, None, unwrap_or, if◌then◌else◌, List, [], ◌∷◌, ◌++◌, length, Contains}
use Rattle.std.specs.Map.{lookup}
use Rattle.std.specs.BTreeMap.{is_at}
use Rattle.geo_base.specs.declared.limits.TheConstants.{MAX_SET_ROWS, MAX_SET_BYTES}
use Rattle.geo_base.specs.declared.row_id.RowId.{RowId}
use Rattle.geo_base.specs.Order.{row_cmp, row_eq}
use Rattle.write_set.specs.declared.change.Change.{Change}
use Rattle.write_set.specs.declared.change.Change.TheVariants.{Put, Remove, Touch}
use Rattle.write_set.specs.declared.row_change.RowChange.{RowChange}
use Rattle.write_set.specs.declared.set_fault.SetFault.{SetFault}
use Rattle.write_set.specs.declared.set_fault.SetFault.TheVariants.{TooManyRows, TooLarge, NoMemory}
use Rattle.write_set.specs.Bounds.{AreFewRows, IsSetSize}
use Rattle.write_set.specs.Sets.{ChangeOfRow, Rises}
use Rattle.write_set.specs.Sizes.{set_size}

-- the change of the row in the set, if the set has the row
abbrev pub change_in : List ChangeOfRow → RowId → Option Change
change_in set row = lookup (is_at (row_cmp row)) set

-- what a change of a row leaves, where those before it left `held`; `before` says whether the snapshot has the row. A put or a
-- removal takes the place of what was there; of a row that the snapshot lacks a removal leaves nothing; a touch leaves what was there
abbrev pub left_by : Bool → Change → Option Change → Option Change
left_by before (Put image) held = Some (Put image)
left_by true Remove held = Some Remove
left_by false Remove held = None
left_by before Touch held = Some (unwrap_or held Touch)

-- what the changes leave of the row, in their order, where `held` was left before them
abbrev pub left_of : List RowChange → RowId → Option Change → Option Change
left_of [] row held = held
left_of (c ∷ cs) row held = left_of cs row (if row_eq row c.row then left_by c.before c.change held else held)

-- the net of the set and of the changes after it: each row once and in rising order, with what the changes leave of it
pub record IsNet (set : List ChangeOfRow) (changes : List RowChange) (net : List ChangeOfRow) : Type 0 where
  pub rising : Rises net
  pub rows : (row : RowId) → change_in net row ≡ left_of changes row (change_in set row)

-- a row that is touched, and of which nothing is left before that, is in the snapshot
abbrev pub TouchesKnown : List ChangeOfRow → List RowChange → Type 0
TouchesKnown set changes = (earlier : List RowChange) (c : RowChange) (later : List RowChange) → earlier ++ c ∷ later ≡ changes →
    c.change ≡ Touch → left_of earlier c.row (change_in set c.row) ≡ None → c.before ≡ true

-- each touched row of the net is one that the set touches, or one that a change says to be in the snapshot
abbrev pub HasTouchesOf : List ChangeOfRow → List RowChange → List ChangeOfRow → Type 0
HasTouchesOf set changes net = (row : RowId) → change_in net row ≡ Some Touch →
    (change_in set row ≡ Some Touch) ⊎ ((c : RowChange) × Contains changes c × (c.row ≡ row) × (c.before ≡ true))

-- no more rows, and no more bytes of spelled changes, than a transaction may have
pub record IsWithinLimits (net : List ChangeOfRow) : Type 0 where
  pub few : AreFewRows (length net)
  pub small : IsSetSize (set_size net)

-- the limit that the net breaks: that of rows before that of bytes
abbrev pub HasCause : SetFault → List ChangeOfRow → Type 0
HasCause TooManyRows net = MAX_SET_ROWS < length net
HasCause TooLarge net = AreFewRows (length net) × (MAX_SET_BYTES < set_size net)
HasCause NoMemory net = Unit {0}

-- the net of the set and of the changes breaks that limit
abbrev pub HasNetCause : List ChangeOfRow → List RowChange → SetFault → Type 0
HasNetCause set changes fault = (net : List ChangeOfRow) × IsNet set changes net × HasCause fault net
