-- What only the bodies of this crate speak of: faults as those of loading and appending, and what such a fault says of the entries.
use Rattle.std.specs.Prelude.{◌≡◌, ℕ, List}
use Rattle.geo_io.specs.declared.fault.IoFault.{IoFault}
use Rattle.geo_io.specs.declared.fault.IoFault.TheVariants as io
use Rattle.geo_schema.specs.Schemas.{Tables}
use Rattle.set_codec.specs.declared.fault.CodecFault.TheVariants as codec
use Rattle.own_log.specs.declared.fault.EntryFault.{EntryFault}
use Rattle.own_log.specs.declared.fault.EntryFault.TheVariants.{Codec}
use Rattle.own_log.specs.declared.fault.LoadFault.{LoadFault}
use Rattle.own_log.specs.declared.fault.LoadFault.TheVariants as load
use Rattle.own_log.specs.declared.fault.LogAppendFault.{LogAppendFault}
use Rattle.own_log.specs.declared.fault.LogAppendFault.TheVariants as log
use Rattle.own_log.specs.Logs.{IsEntryFault, IsLogFault}

-- the keepers' fault, at one entry
abbrev pub append_fault : IoFault → LogAppendFault
append_fault io.Failed = log.LogFault
append_fault io.NoMemory = log.NoMemory

-- the keepers' fault, while a log is read
abbrev pub load_fault : IoFault → LoadFault
load_fault io.Failed = load.LogFault
load_fault io.NoMemory = load.NoMemory

-- what reading an entry found, while a log is read
abbrev pub blamed : ℕ → EntryFault → LoadFault
blamed entry (Codec codec.NoMemory) = load.NoMemory
blamed entry fault = load.BadLog entry fault

-- a fault that names an entry names this one, with a fault that it has
abbrev pub NamesEntry : Tables → ℕ → ℕ → ℕ → List ℕ → LoadFault → Type 0
NamesEntry tables regions region place bytes (load.BadLog entry fault) = (entry ≡ place) × IsEntryFault tables regions region place bytes fault
NamesEntry tables regions region place bytes load.LogFault = Unit {0}
NamesEntry tables regions region place bytes load.NoMemory = Unit {0}

-- a fault that names an entry names the first bad one
abbrev pub NamesFirst : Tables → ℕ → ℕ → List (List ℕ) → LoadFault → Type 0
NamesFirst tables regions region entries (load.BadLog entry fault) = IsLogFault tables regions region entries entry fault
NamesFirst tables regions region entries load.LogFault = Unit {0}
NamesFirst tables regions region entries load.NoMemory = Unit {0}

-- a fault that names an entry doesn't do so for want of memory
abbrev pub NamesNoWant : LoadFault → Type 0
NamesNoWant (load.BadLog entry (Codec codec.NoMemory)) = ⊥
NamesNoWant (load.BadLog entry fault) = Unit {0}
NamesNoWant load.LogFault = Unit {0}
NamesNoWant load.NoMemory = Unit {0}
