-- What each call of a region refuses: the first of its lines that applies. A call without one here refuses nothing.
use Rattle.std.specs.Prelude.{ℕ, ◌-◌, Bool, ◌||◌, nat_lt, nat_le, Option, None, Some, List, [], ◌∷◌, ◌++◌, length, if◌then◌else◌}
use Rattle.geo_base.specs.declared.limits.TheConstants.{MAX_AGE, MAX_AHEAD, MAX_CANDIDATES, MAX_BATCH_BYTES}
use Rattle.write_set.specs.declared.candidate.Candidate.{Candidate}
use Rattle.write_set.specs.BatchSizes.{batch_size}
use Rattle.region_core.specs.declared.fault.BeginFault.{BeginFault}
use Rattle.region_core.specs.declared.fault.BeginFault.TheVariants as of_begin
use Rattle.region_core.specs.declared.fault.AsOfFault.{AsOfFault}
use Rattle.region_core.specs.declared.fault.AsOfFault.TheVariants as of_epoch
use Rattle.region_core.specs.declared.fault.SubmitFault.{SubmitFault}
use Rattle.region_core.specs.declared.fault.SubmitFault.TheVariants as of_submit
use Rattle.region_core.specs.declared.fault.SealFault.{SealFault}
use Rattle.region_core.specs.declared.fault.SealFault.TheVariants as of_seal
use Rattle.region_core.specs.declared.fault.FetchFault.{FetchFault}
use Rattle.region_core.specs.declared.fault.FetchFault.TheVariants as of_fetch
use Rattle.region_core.specs.declared.fault.RoundFault.{RoundFault}
use Rattle.region_core.specs.declared.fault.RoundFault.TheVariants as of_round
use Rattle.region_core.specs.Region.{Standing, open_epoch, next_epoch, next_batches, horizon_at}

-- a region that is down refuses first of all
abbrev pub down_first : {E : Type 0} → E → Standing → Option E → Option E
down_first down r rest = if r.up then rest else Some down

-- begin, arrive and publish
abbrev pub begin_refusal : Standing → Option BeginFault
begin_refusal r = down_first of_begin.Down r None

-- as_of, by the epoch that is asked for
abbrev pub as_of_refusal : ℕ → Standing → Option AsOfFault
as_of_refusal epoch r =
    down_first of_epoch.Down r
    (if nat_lt epoch (horizon_at r.published) then Some (of_epoch.TooOld (horizon_at r.published))
    else if nat_lt r.published epoch then Some (of_epoch.NotPublished r.published)
    else None)

-- one candidate more would be too many for the batch, or make it too long
abbrev pub is_full : List Candidate → Candidate → Bool
is_full open_candidates c = nat_le MAX_CANDIDATES (length open_candidates) || nat_lt MAX_BATCH_BYTES (batch_size (open_candidates ++ c ∷ []))

-- submit
abbrev pub submit_refusal : Candidate → Standing → Option SubmitFault
submit_refusal c r =
    down_first of_submit.Down r
    (if nat_lt MAX_AGE (open_epoch r - c.start) then Some (of_submit.TooOld c.start (open_epoch r))
    else if is_full r.open_candidates c then Some of_submit.BatchFull
    else None)

-- seal, and can_seal
abbrev pub seal_refusal : Standing → Option SealFault
seal_refusal r =
    down_first of_seal.Down r
    (if nat_le r.last (open_epoch r) then Some of_seal.LastEpoch
    else if nat_le MAX_AHEAD (length r.log - r.published) then Some of_seal.Ahead
    else None)

-- fetch_reply
abbrev pub fetch_refusal : Standing → Option FetchFault
fetch_refusal r = down_first of_fetch.Down r None

-- round
abbrev pub round_refusal : Standing → Option RoundFault
round_refusal r =
    down_first of_round.Down r
    (if nat_lt (length (next_batches r)) r.regions then Some (of_round.Waiting (next_epoch r) (length (next_batches r)))
    else None)
