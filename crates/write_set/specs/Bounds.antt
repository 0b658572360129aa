-- The bounds of starts and of counts, each stated once.
use Rattle.std.specs.Prelude.{ℕ, ◌+◌, ◌<◌, ◌≤◌}
use Rattle.geo_base.specs.declared.limits.TheConstants.{MAX_AGE, MAX_CANDIDATES, MAX_SET_ROWS, MAX_SET_BYTES}

-- a start lies before the epoch
abbrev pub IsEarlier : ℕ → ℕ → Type 0
IsEarlier epoch start = start < epoch

-- and not too long before it
abbrev pub IsYoung : ℕ → ℕ → Type 0
IsYoung epoch start = epoch ≤ start + MAX_AGE

-- a candidate of the epoch starts before it, and not too long before it
abbrev pub IsStartOf : ℕ → ℕ → Type 0
IsStartOf epoch start = IsEarlier epoch start × IsYoung epoch start

-- there is a row
abbrev pub AreSomeRows : ℕ → Type 0
AreSomeRows rows = 1 ≤ rows

-- there are no more rows than the limit
abbrev pub AreFewRows : ℕ → Type 0
AreFewRows rows = rows ≤ MAX_SET_ROWS

-- a candidate has a row, and no more than the limit
abbrev pub IsRowCount : ℕ → Type 0
IsRowCount rows = AreSomeRows rows × AreFewRows rows

-- a candidate's changes have no more bytes than the limit
abbrev pub IsSetSize : ℕ → Type 0
IsSetSize bytes = bytes ≤ MAX_SET_BYTES

-- a batch has no more candidates than a region seals in an epoch
abbrev pub IsCandidateCount : ℕ → Type 0
IsCandidateCount count = count ≤ MAX_CANDIDATES
