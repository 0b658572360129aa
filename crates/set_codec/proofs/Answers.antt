-- What readers answer, in terms of spellings and of what is wrong with the bytes.
use Rattle.std.proofs.Common.{◌≡◌, ℕ, ◌≤◌, None, List, Result, Ok, Err}
use Rattle.std.specs.Prelude.{IfOk}
use Rattle.geo_base.specs.Results.{Gives, Reads}
use Rattle.geo_base.specs.declared.limits.TheConstants.{MAX_REGIONS}
use Rattle.geo_schema.specs.Schemas.{Tables, IsSchema}
use Rattle.row_codec.specs.Places.{AreBytes}
use Rattle.geo_base.specs.laws.Answers.{answer_only}
use Rattle.write_set.specs.declared.batch.Batch.{Batch}
use Rattle.set_codec.specs.declared.fault.CodecFault.{CodecFault}
use Rattle.set_codec.specs.declared.fault.CodecFault.TheVariants.{NoMemory}
use Rattle.set_codec.specs.declared.packet.Packet.{Packet}
use Rattle.set_codec.specs.Alone.{SpellsBatch, SpellsPacket}
use Rattle.set_codec.specs.Fits.{FitsRegions, FitsPacket, IsSpelling}
use Rattle.set_codec.specs.Spelling.{packet_spelling}
use Rattle.set_codec.specs.inner.Reading.{batch_at, packet_at}
use Rattle.set_codec.specs.laws.Batches.{LastStands, batch_tells, last_lawful, spelled_last}
use Rattle.set_codec.specs.laws.Packets.{PartsStand, packet_tells, packet_lawful, spelled_parts}

-- what stands there in one way stands there in another
reads_as : {X Y E : Type 0} (no_memory : E) (view : X → Y) (r : Result X E) (P Q : Y → Type 0) → Reads no_memory view r P → ((y : Y) → Q y → P y) → Reads no_memory view r Q
reads_as no_memory view (Ok x) P Q reads as_p = λ y q. reads y (as_p y q)
reads_as no_memory view (Err e) P Q reads as_p = λ y q. reads y (as_p y q)

module _ (tables : Tables) (regions : ℕ) (bytes : List ℕ) (schema : IsSchema tables) (fits : AreBytes bytes) where
  pub batch_fits : (r : Result Batch CodecFault) → Gives NoMemory (λ b. b) r (batch_at tables regions None bytes 0) → IfOk r (λ b. regions ≤ MAX_REGIONS → FitsRegions tables regions b)
  batch_fits (Ok b) exact = (last_lawful bytes tables schema regions None 0 b ((batch_tells bytes tables schema regions None 0).found fits b exact)).1
  batch_fits (Err e) exact = tt

  pub batch_spelled : (r : Result Batch CodecFault) → Gives NoMemory (λ b. b) r (batch_at tables regions None bytes 0) → IfOk r (λ b. IsSpelling tables b bytes)
  batch_spelled (Ok b) exact = (last_lawful bytes tables schema regions None 0 b ((batch_tells bytes tables schema regions None 0).found fits b exact)).0
  batch_spelled (Err e) exact = tt

  pub batch_only : (r : Result Batch CodecFault) → Gives NoMemory (λ b. b) r (batch_at tables regions None bytes 0) → Reads NoMemory (λ b. b) r (SpellsBatch tables regions bytes)
  batch_only r exact =
      reads_as NoMemory (λ b. b) r (LastStands bytes tables schema regions None 0) (SpellsBatch tables regions bytes) (answer_only NoMemory (λ b. b) (AreBytes bytes) _ _ _ (batch_tells bytes tables schema regions None 0) fits r exact)
      (λ b s. spelled_last tables regions bytes b schema s)

  pub packet_fits : (r : Result Packet CodecFault) → Gives NoMemory (λ p. p) r (packet_at tables regions bytes) → IfOk r (λ p. regions ≤ MAX_REGIONS → FitsPacket tables regions p)
  packet_fits (Ok p) exact = (packet_lawful bytes tables schema regions p ((packet_tells bytes tables schema regions).found fits p exact)).1
  packet_fits (Err e) exact = tt

  pub packet_spelled : (r : Result Packet CodecFault) → Gives NoMemory (λ p. p) r (packet_at tables regions bytes) → IfOk r (λ p. packet_spelling p ≡ bytes)
  packet_spelled (Ok p) exact = (packet_lawful bytes tables schema regions p ((packet_tells bytes tables schema regions).found fits p exact)).0
  packet_spelled (Err e) exact = tt

  pub packet_only : (r : Result Packet CodecFault) → Gives NoMemory (λ p. p) r (packet_at tables regions bytes) → Reads NoMemory (λ p. p) r (SpellsPacket tables regions bytes)
  packet_only r exact =
      reads_as NoMemory (λ p. p) r (PartsStand bytes tables schema regions) (SpellsPacket tables regions bytes) (answer_only NoMemory (λ p. p) (AreBytes bytes) _ _ _ (packet_tells bytes tables schema regions) fits r exact)
      (λ p s. spelled_parts tables regions bytes p schema s)
