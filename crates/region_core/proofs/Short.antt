-- How many batches a log may have.
use Rattle.std.proofs.Common.{ℕ, ◌+◌, ◌<◌, List, [], ◌∷◌, length, arith}
use Rattle.geo_base.specs.declared.limits.TheConstants.{LAST_EPOCH}
use Rattle.geo_schema.specs.Schemas.{Tables}
use Rattle.write_set.specs.declared.batch.Batch.{Batch}
use Rattle.own_log.specs.Logs.{AreOfLog, AreOfLogFrom}

short_from : (tables : Tables) (regions region place : ℕ) (log : List Batch) → place < LAST_EPOCH → AreOfLogFrom tables regions region place log → place + length log < LAST_EPOCH
short_from tables regions region place [] below of = omega arith
short_from tables regions region place (b ∷ log) below of =
    let here : b.epoch < LAST_EPOCH = of.0.fits.fits.sealable.1 in
    let later : place + 1 + length log < LAST_EPOCH = short_from tables regions region (place + 1) log (omega (arith, here, of.0.epoch)) of.1 in
    omega (arith, later)

-- each batch has an epoch that can be sealed
pub log_short : (tables : Tables) (regions region : ℕ) (log : List Batch) → AreOfLog tables regions region log → length log < LAST_EPOCH
log_short tables regions region log of =
    let short : 0 + length log < LAST_EPOCH = short_from tables regions region 0 log (omega arith) of in
    omega (arith, short)
