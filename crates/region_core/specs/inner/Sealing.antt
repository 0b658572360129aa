-- Inner: what the log gets at a seal.
use Rattle.std.specs.Prelude.{◌≡◌, ℕ, Option, Result, Ok, Err, List}
use Rattle.geo_io.specs.Told.{Lists, Gains, MayGain, Moves}
use Rattle.set_codec.specs.Alone.{SpellsBatch}
use Rattle.set_codec.specs.Spelling.{batch_spelling}
use Rattle.set_codec.specs.declared.format.Format.TheVariants.{Ggb2}
use Rattle.own_log.specs.declared.fault.LogAppendFault.{LogAppendFault}
use Rattle.own_log.specs.declared.fault.LogAppendFault.TheVariants as log
use Rattle.region_core.specs.Region.{Standing}
use Rattle.region_core.specs.Entries.{next_batch}

-- the bytes are the GGB2 spelling of the region's next batch, and spell it
pub record IsLogged (r : Standing) (bytes : List ℕ) : Type 0 where
  pub bytes_are : bytes ≡ batch_spelling Ggb2 r.tables (next_batch r)
  pub spelled : SpellsBatch r.tables r.regions bytes (next_batch r)

-- the list got the batch, may have got it where the keepers failed, or didn't where there was no memory
abbrev pub KeepsEntry : {A : Type 0} → Standing → Result A LogAppendFault → Option Lists → Option Lists → Type 0
KeepsEntry r (Ok x) before after = Moves (Gains r.number (batch_spelling Ggb2 r.tables (next_batch r))) before after
KeepsEntry r (Err log.LogFault) before after = Moves (MayGain r.number (batch_spelling Ggb2 r.tables (next_batch r))) before after
KeepsEntry r (Err log.NoMemory) before after = after ≡ before
