-- Bytes are one batch or have one fault, which spellings a batch has, and no spelling begins another.
use Rattle.std.specs.Prelude.{◌≡◌, ◌≢◌, ◌⊎◌, ℕ, ◌≤◌, List, ◌++◌, All}
use Rattle.geo_base.specs.declared.limits.TheConstants.{MAX_REGIONS}
use Rattle.geo_schema.specs.Schemas.{Tables, IsSchema}
use Rattle.geo_base.specs.Results.{OneAnswer}
use Rattle.row_codec.specs.Places.{AreBytes}
use Rattle.write_set.specs.declared.batch.Batch.{Batch}
use Rattle.write_set.specs.declared.change.Change.TheVariants.{Touch}
use Rattle.set_codec.specs.declared.format.Format.TheVariants.{Ggb1, Ggb2}
use Rattle.set_codec.specs.declared.packet.Packet.{Packet}
use Rattle.set_codec.specs.Faults.{IsBatchFault, IsPacketFault}
use Rattle.set_codec.specs.Fits.{FitsRegions, FitsPacket, IsSpelling}
use Rattle.set_codec.specs.Spelling.{batch_spelling, packet_spelling}

-- the bytes are a spelling of a batch of so many regions
abbrev pub SpellsBatch : Tables → ℕ → List ℕ → Batch → Type 0
SpellsBatch tables regions bytes batch = FitsRegions tables regions batch × IsSpelling tables batch bytes

-- the bytes are the spelling of a packet between so many regions
abbrev pub SpellsPacket : Tables → ℕ → List ℕ → Packet → Type 0
SpellsPacket tables regions bytes packet = FitsPacket tables regions packet × (packet_spelling packet ≡ bytes)

-- bytes spell one batch of the schema, or have one fault
abbrev pub OneBatchOrFault : Type 0
OneBatchOrFault = (tables : Tables) (regions : ℕ) (bytes : List ℕ) → IsSchema tables → regions ≤ MAX_REGIONS → AreBytes bytes → OneAnswer (SpellsBatch tables regions bytes) (IsBatchFault tables regions bytes)

-- the same for packets
abbrev pub OnePacketOrFault : Type 0
OnePacketOrFault = (tables : Tables) (regions : ℕ) (bytes : List ℕ) → IsSchema tables → regions ≤ MAX_REGIONS → AreBytes bytes → OneAnswer (SpellsPacket tables regions bytes) (IsPacketFault tables regions bytes)

-- no row is touched by the batch
abbrev pub TouchesNothing : Batch → Type 0
TouchesNothing batch = All (λ c. All (λ change. change.1 ≢ Touch) c.set) batch.items

-- a batch has one spelling in each format, and where it touches a row one in GGB2 alone: these are spellings, and there are no others
pub record HasSpellings (tables : Tables) (batch : Batch) : Type 0 where
  pub newer : IsSpelling tables batch (batch_spelling Ggb2 tables batch)
  pub older : TouchesNothing batch → IsSpelling tables batch (batch_spelling Ggb1 tables batch)
  pub only : (bytes : List ℕ) → IsSpelling tables batch bytes → (bytes ≡ batch_spelling Ggb2 tables batch) ⊎ (TouchesNothing batch × (bytes ≡ batch_spelling Ggb1 tables batch))

-- each batch does
abbrev pub SpellingsOfBatches : Type 0
SpellingsOfBatches = (tables : Tables) (batch : Batch) → HasSpellings tables batch

-- where spellings of two batches of one schema, in whichever format each, begin the same bytes, the batches are one, and so are the spellings and what follows
abbrev pub NoBatchBeginsAnother : Type 0
NoBatchBeginsAnother = (tables : Tables) (regions : ℕ) (a b : Batch) (spelled_a spelled_b after_a after_b : List ℕ) → IsSchema tables → SpellsBatch tables regions spelled_a a → SpellsBatch tables regions spelled_b b →
    spelled_a ++ after_a ≡ spelled_b ++ after_b → (a ≡ b) × (spelled_a ≡ spelled_b) × (after_a ≡ after_b)

-- the same for two packets
abbrev pub NoPacketBeginsAnother : Type 0
NoPacketBeginsAnother = (tables : Tables) (regions : ℕ) (a b : Packet) (after_a after_b : List ℕ) → IsSchema tables → FitsPacket tables regions a → FitsPacket tables regions b →
    packet_spelling a ++ after_a ≡ packet_spelling b ++ after_b → (a ≡ b) × (after_a ≡ after_b)
