-- Which candidates of an epoch commit, and the last change of a row: pairwise, over the list of candidates. The rows of a candidate
-- are all those that its set has, touched ones included; it changes only those that it puts or removes. These functions are the
-- description to believe. Rules says again what has to hold of what they give, and is tied to them by laws.
use Rattle.std.specs.Prelude.{ℕ, ◌+◌, Bool, true, false, ◌&&◌, not, nat_lt, nat_le, Option, None, Some, unwrap_or, if◌then◌else◌, List, [], ◌∷◌, length, filter, find, map}
use Rattle.std.specs.List.{list_any, list_all}
use Rattle.geo_base.specs.declared.row_id.RowId.{RowId}
use Rattle.geo_base.specs.Claims.{beats}
use Rattle.geo_base.specs.declared.claim.Claim.{Claim}
use Rattle.geo_base.specs.declared.numbers.CandId.{CandId}
use Rattle.geo_base.specs.declared.outcome.Outcome.{Outcome}
use Rattle.geo_base.specs.declared.outcome.Outcome.TheVariants.{Committed, Changed, Beaten}
use Rattle.write_set.specs.Sets.{ChangeOfRow, has_row, changes_row}
use Rattle.write_set.specs.Journal.{Placed, Epochs}

-- what a candidate is compared with others of its epoch by
abbrev pub claim_of : Placed → Claim
claim_of c = record { start = c.start; csn = c.csn; region = c.region }

-- the first of two candidates of one epoch wins over the second
abbrev pub wins : Placed → Placed → Bool
wins a b = beats (claim_of a) (claim_of b)

-- the name of a candidate of the epoch
abbrev pub id_of : ℕ → Placed → CandId
id_of epoch c = record { epoch = epoch; region = c.region; csn = c.csn }

-- no row of the candidate, changed or touched by it, was changed after its start, where `last` gives each row's last change
abbrev pub is_fresh : (RowId → ℕ) → Placed → Bool
is_fresh last c = list_all (λ p. nat_le (last p.0) c.start) c.set

-- the fresh candidates that have the row
abbrev pub contenders : (RowId → ℕ) → List Placed → RowId → List Placed
contenders last all row = filter (λ d. is_fresh last d && has_row row d.set) all

-- some contender for the row beats the candidate, whatever becomes of that contender
abbrev pub is_beaten_on : (RowId → ℕ) → List Placed → Placed → RowId → Bool
is_beaten_on last all c row = list_any (λ d. wins d c) (contenders last all row)

-- the contender for the row that no contender beats
abbrev pub winner_of : (RowId → ℕ) → List Placed → RowId → Option Placed
winner_of last all row = find (λ d. not (is_beaten_on last all d row)) (contenders last all row)

-- the first row of the candidate that was changed after its start
abbrev pub first_changed : (RowId → ℕ) → Placed → Option ChangeOfRow
first_changed last c = find (λ p. nat_lt c.start (last p.0)) c.set

-- the first row of the candidate on which a contender beats it
abbrev pub first_beaten : (RowId → ℕ) → List Placed → Placed → Option ChangeOfRow
first_beaten last all c = find (λ p. is_beaten_on last all c p.0) c.set

-- aborted by a change of that row, if there is one, and else as given
abbrev pub changed_or : (RowId → ℕ) → Outcome → Option ChangeOfRow → Outcome
changed_or last outcome None = outcome
changed_or last outcome (Some p) = Changed p.0 (last p.0)

-- beaten on that row by its winner, if there is one, and else committed
abbrev pub beaten_or_committed : (RowId → ℕ) → ℕ → List Placed → Placed → Option ChangeOfRow → Outcome
beaten_or_committed last epoch all c None = Committed
beaten_or_committed last epoch all c (Some p) = Beaten p.0 (id_of epoch (unwrap_or (winner_of last all p.0) c))

-- what becomes of the candidate of the epoch whose candidates are `all`
abbrev pub verdict_of : (RowId → ℕ) → ℕ → List Placed → Placed → Outcome
verdict_of last epoch all c =
    changed_or last (beaten_or_committed last epoch all c (first_beaten last all c)) (first_changed last c)

-- the candidate commits
abbrev pub is_committed : Outcome → Bool
is_committed Committed = true
is_committed _ = false

-- the candidates of the epoch that commit
abbrev pub committed_of : (RowId → ℕ) → ℕ → List Placed → List Placed
committed_of last epoch all = filter (λ c. is_committed (verdict_of last epoch all c)) all

-- the last epoch of these in which a committed candidate changes the row, or 0
abbrev pub last_change : Epochs → RowId → ℕ
last_change [] row = 0
last_change (all ∷ older) row =
    if list_any (λ c. changes_row row c.set) (committed_of (last_change older) (length older + 1) all)
    then length older + 1
    else last_change older row

-- the candidates of the newest epoch that commit
abbrev pub committed : Epochs → List Placed
committed [] = []
committed (all ∷ older) = committed_of (last_change older) (length older + 1) all

-- the verdicts of the newest epoch's candidates, in order
abbrev pub verdicts : Epochs → List Outcome
verdicts [] = []
verdicts (all ∷ older) = map (verdict_of (last_change older) (length older + 1) all) all

-- the candidates whose outcome is that they commit, where each outcome is that of the candidate at its place
abbrev pub committed_among : List Placed → List Outcome → List Placed
committed_among [] outcomes = []
committed_among (c ∷ more) [] = []
committed_among (c ∷ more) (outcome ∷ outcomes) =
    if is_committed outcome then c ∷ committed_among more outcomes else committed_among more outcomes
