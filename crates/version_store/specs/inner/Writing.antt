-- Inner: what the code makes of the rows with their versions, a row at a time.
use Rattle.std.specs.Prelude.{ℕ, nat_eq, Option, None, Some, unwrap_or, List, [], ◌∷◌, length, if◌then◌else◌}
use Rattle.geo_base.specs.declared.row_id.RowId.{RowId}
use Rattle.geo_base.specs.Order.{row_cmp}
use Rattle.write_set.specs.declared.change.Change.TheVariants.{Put, Remove, Touch}
use Rattle.write_set.specs.Sets.{ChangeOfRow}
use Rattle.page_map.specs.Pairs.{found_at, put_in, without}
use Rattle.version_store.specs.Chains.{Version, Chain, kept_at}

-- rows with their versions
abbrev pub Rows : Type 0
Rows = List (RowId × Chain)

-- the versions of the row
abbrev pub chain_in : Rows → RowId → Chain
chain_in rows row = unwrap_or (found_at row_cmp row rows) []

-- the versions but a newest one of the epoch
abbrev pub but_of : ℕ → Chain → Chain
but_of epoch [] = []
but_of epoch (version ∷ older) = if nat_eq version.epoch epoch then older else version ∷ older

-- the versions with this one of its epoch
abbrev pub renewed : Version → Chain → Chain
renewed version chain = version ∷ but_of version.epoch chain

-- the rows after a change in the epoch
abbrev pub written : ℕ → ChangeOfRow → Rows → Rows
written epoch (row, Put image) rows = put_in row_cmp row (renewed (record { epoch = epoch; image = Some image }) (chain_in rows row)) rows
written epoch (row, Remove) rows = put_in row_cmp row (renewed (record { epoch = epoch; image = None }) (chain_in rows row)) rows
written epoch (row, Touch) rows = rows

-- the rows after all these changes, one after another
abbrev pub all_written : ℕ → List ChangeOfRow → Rows → Rows
all_written epoch [] rows = rows
all_written epoch (p ∷ ps) rows = all_written epoch ps (written epoch p rows)

-- the rows with these versions in the place of those of the row, and without the row where there are none
abbrev pub replaced : RowId → Chain → Rows → Rows
replaced row [] rows = without row_cmp row rows
replaced row (version ∷ older) rows = put_in row_cmp row (version ∷ older) rows

-- the rows with these versions of the row, of which there were so many: as they were where these are as many, and without the row where there are none
abbrev pub settled : ℕ → RowId → Chain → Rows → Rows
settled before row [] rows = without row_cmp row rows
settled before row (version ∷ older) rows =
    if nat_eq (length (version ∷ older)) before then rows else put_in row_cmp row (version ∷ older) rows

-- the rows with what the horizon leaves of the versions that were found of the row
abbrev pub cut_by : ℕ → RowId → Option Chain → Rows → Rows
cut_by horizon row None rows = rows
cut_by horizon row (Some chain) rows = settled (length chain) row (kept_at horizon chain) rows

-- the rows with what the horizon leaves of the versions of one row
abbrev pub cut : ℕ → RowId → Rows → Rows
cut horizon row rows = cut_by horizon row (found_at row_cmp row rows) rows

-- the rows with what the horizon leaves of the versions of these, one after another
abbrev pub all_cut : ℕ → List RowId → Rows → Rows
all_cut horizon [] rows = rows
all_cut horizon (row ∷ more) rows = all_cut horizon more (cut horizon row rows)
