-- A region's log is the list of its batches: which batches its entries spell, and which entry is the first bad one. Places count from 0, and the batch at a place is of the epoch one greater.
use Rattle.std.specs.Prelude.{◌≡◌, ◌≢◌, ℕ, ◌+◌, ◌<◌, ◌≤◌, List, [], ◌∷◌, ◌++◌, length, take, slice_index_or, All, Some}
use Rattle.std.specs.List.{slice_get}
use Rattle.geo_base.specs.declared.limits.TheConstants.{MAX_REGIONS}
use Rattle.geo_base.specs.Results.{OneAnswer}
use Rattle.geo_schema.specs.Schemas.{Tables, IsSchema}
use Rattle.row_codec.specs.Places.{AreBytes}
use Rattle.write_set.specs.declared.batch.Batch.{Batch}
use Rattle.write_set.specs.Journal.{IsBatch}
use Rattle.set_codec.specs.Alone.{SpellsBatch}
use Rattle.set_codec.specs.Faults.{IsBatchFault}
use Rattle.set_codec.specs.Fits.{FitsRegions}
use Rattle.own_log.specs.declared.fault.EntryFault.{EntryFault}
use Rattle.own_log.specs.declared.fault.EntryFault.TheVariants.{Codec, Region, Epoch}
use Rattle.own_log.specs.declared.fault.LoadFault.{LoadFault}
use Rattle.own_log.specs.declared.fault.LoadFault.TheVariants.{LogFault, BadLog, NoMemory}

-- the bytes spell the batch, which is of this region and of the epoch that is one greater than the place
pub record IsEntry (tables : Tables) (regions of_region place : ℕ) (bytes : List ℕ) (batch : Batch) : Type 0 where
  pub spelled : SpellsBatch tables regions bytes batch
  pub region : batch.region ≡ of_region
  pub epoch : batch.epoch ≡ place + 1

-- from the place on, each entry spells the batch that it stands for
abbrev pub SpellsFrom : Tables → ℕ → ℕ → ℕ → List (List ℕ) → List Batch → Type 0
SpellsFrom tables regions region place [] [] = Unit {0}
SpellsFrom tables regions region place [] (batch ∷ batches) = ⊥
SpellsFrom tables regions region place (bytes ∷ entries) [] = ⊥
SpellsFrom tables regions region place (bytes ∷ entries) (batch ∷ batches) = IsEntry tables regions region place bytes batch × SpellsFrom tables regions region (place + 1) entries batches

-- the entries spell the batches of the region's log
abbrev pub SpellsLog : Tables → ℕ → ℕ → List (List ℕ) → List Batch → Type 0
SpellsLog tables regions region = SpellsFrom tables regions region 0

-- what is wrong with an entry at the place: its bytes have a fault as a batch, or they spell one of another region, or one of the region and of another epoch than the one greater than the place
abbrev pub IsEntryFault : Tables → ℕ → ℕ → ℕ → List ℕ → EntryFault → Type 0
IsEntryFault tables regions region place bytes (Codec fault) = IsBatchFault tables regions bytes fault
IsEntryFault tables regions region place bytes (Region other) =
    (batch : Batch) × SpellsBatch tables regions bytes batch × (batch.region ≡ other) × (other ≢ region)
IsEntryFault tables regions region place bytes (Epoch epoch) =
    (batch : Batch) × SpellsBatch tables regions bytes batch × (batch.region ≡ region) × (batch.epoch ≡ epoch) × (epoch ≢ place + 1)

-- of the entries those before this one spell batches of the region's log, and this one has the fault. So it is the first bad one
pub record IsLogFault (tables : Tables) (regions region : ℕ) (entries : List (List ℕ)) (entry : ℕ) (fault : EntryFault) : Type 0 where
  pub within : entry < length entries
  pub batches : List Batch
  pub before : SpellsLog tables regions region (take entry entries) batches
  pub here : IsEntryFault tables regions region entry (slice_index_or entries entry []) fault

-- the same, of a fault of loading: the others say nothing of the entries
abbrev pub IsBadLog : Tables → ℕ → ℕ → List (List ℕ) → LoadFault → Type 0
IsBadLog tables regions region entries (BadLog entry fault) = IsLogFault tables regions region entries entry fault
IsBadLog tables regions region entries LogFault = ⊥
IsBadLog tables regions region entries NoMemory = ⊥

-- a batch that may stand at the place of the region's log
pub record IsOfLog (tables : Tables) (regions of_region place : ℕ) (batch : Batch) : Type 0 where
  pub fits : FitsRegions tables regions batch
  pub region : batch.region ≡ of_region
  pub epoch : batch.epoch ≡ place + 1

-- from the place on, each batch may stand at its place
abbrev pub AreOfLogFrom : Tables → ℕ → ℕ → ℕ → List Batch → Type 0
AreOfLogFrom tables regions region place [] = Unit {0}
AreOfLogFrom tables regions region place (batch ∷ batches) = IsOfLog tables regions region place batch × AreOfLogFrom tables regions region (place + 1) batches

-- the batches may be a log of the region, whatever the entries are
abbrev pub AreOfLog : Tables → ℕ → ℕ → List Batch → Type 0
AreOfLog tables regions region = AreOfLogFrom tables regions region 0

-- entries spell one log of the region, or have one first bad entry with one fault, and not both
abbrev pub OneLogOrFault : Type 0
OneLogOrFault = (tables : Tables) (regions region : ℕ) (entries : List (List ℕ)) → IsSchema tables → regions ≤ MAX_REGIONS → All AreBytes entries →
    OneAnswer (SpellsLog tables regions region entries) (IsBadLog tables regions region entries)

-- entries that spell a log, and behind them one that spells the batch of the next place, spell the log with that batch
abbrev pub AppendedEntriesAreRead : Type 0
AppendedEntriesAreRead = (tables : Tables) (regions region : ℕ) (entries : List (List ℕ)) (batches : List Batch) (bytes : List ℕ) (batch : Batch) →
    SpellsLog tables regions region entries batches → IsEntry tables regions region (length entries) bytes batch →
    SpellsLog tables regions region (entries ++ bytes ∷ []) (batches ++ batch ∷ [])

-- a log has as many entries as batches, and at each place the entry spells the batch
pub record SpellsByPlace (tables : Tables) (regions region : ℕ) (entries : List (List ℕ)) (batches : List Batch) : Type 0 where
  pub all : length entries ≡ length batches
  pub each : (place : ℕ) (bytes : List ℕ) (batch : Batch) → slice_get entries place ≡ Some bytes → slice_get batches place ≡ Some batch → IsEntry tables regions region place bytes batch

-- entries that spell a log do so place by place
abbrev pub EntriesSpellTheirPlaces : Type 0
EntriesSpellTheirPlaces = (tables : Tables) (regions region : ℕ) (entries : List (List ℕ)) (batches : List Batch) →
    SpellsLog tables regions region entries batches → SpellsByPlace tables regions region entries batches

-- a batch that may stand at its place of the log, and is a lawful batch of the region and of the epoch that is one greater
pub record StandsInLog (tables : Tables) (regions region place : ℕ) (batch : Batch) : Type 0 where
  pub of_log : IsOfLog tables regions region place batch
  pub lawful : IsBatch region (place + 1) batch

-- each batch of what may be a log is so at its place
abbrev pub BatchesAreOfTheirPlaces : Type 0
BatchesAreOfTheirPlaces = (tables : Tables) (regions region : ℕ) (batches : List Batch) (place : ℕ) (batch : Batch) →
    AreOfLog tables regions region batches → slice_get batches place ≡ Some batch → StandsInLog tables regions region place batch
