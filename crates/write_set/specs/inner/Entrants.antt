-- Inner: what the plain merge makes of an epoch's candidates, and the verdicts said over the fresh ones alone, which are those of
-- Merge.
use Rattle.std.specs.Prelude.{ℕ, Bool, not, ◌&&◌, Option, None, Some, unwrap_or, if◌then◌else◌, List, [], ◌∷◌, filter, find}
use Rattle.std.specs.List.{list_any}
use Rattle.std.specs.Option.{option_map}
use Rattle.geo_base.specs.declared.row_id.RowId.{RowId}
use Rattle.geo_base.specs.declared.outcome.Outcome.{Outcome}
use Rattle.geo_base.specs.declared.outcome.Outcome.TheVariants.{Committed, Beaten}
use Rattle.write_set.specs.declared.entrant.Entrant.{Entrant}
use Rattle.write_set.specs.Sets.{ChangeOfRow, has_row}
use Rattle.write_set.specs.Journal.{Placed}
use Rattle.write_set.specs.Merge.{wins, id_of, is_fresh, first_changed, changed_or, is_committed}
use Rattle.write_set.specs.Snapshot.{changes_of}

-- a candidate that the program holds, as the definitions have it
abbrev pub placed : Entrant → Placed
placed e = record { region = e.region; csn = e.csn; start = e.candidate.now.start; set = e.candidate.now.set }

-- the epoch's candidates of which none of the rows was changed after the start
abbrev pub fresh_of : (RowId → ℕ) → List Placed → List Placed
fresh_of last all = filter (is_fresh last) all

-- the first candidate has the row, and wins over the second
abbrev pub takes_row : Entrant → Placed → RowId → Bool
takes_row d c row = wins (placed d) c && has_row row d.candidate.now.set

-- some of the fresh candidates takes the row from this one
abbrev pub loses_row : List Entrant → Placed → RowId → Bool
loses_row fresh c row = list_any (λ d. takes_row d c row) fresh

-- the candidate has the row, and no fresh one takes it
abbrev pub keeps_row : List Entrant → Entrant → RowId → Bool
keeps_row fresh d row = has_row row d.candidate.now.set && not (loses_row fresh (placed d) row)

-- the fresh candidate that keeps the row
abbrev pub keeper_of : List Entrant → RowId → Option Entrant
keeper_of fresh row = find (λ d. keeps_row fresh d row) fresh

-- the candidate has the row, and wins over the best one before it, if there is one
abbrev pub is_better : Option Entrant → Entrant → RowId → Bool
is_better None d row = has_row row d.candidate.now.set
is_better (Some best) d row = takes_row d (placed best) row

-- the best one after these candidates: each that is better takes the place of the best one before it
abbrev pub best_of : Option Entrant → List Entrant → RowId → Option Entrant
best_of best [] row = best
best_of best (d ∷ ds) row = best_of (if is_better best d row then Some d else best) ds row

-- the candidate's first row that it loses
abbrev pub first_lost : List Entrant → Placed → Option ChangeOfRow
first_lost fresh c = find (λ p. loses_row fresh c p.0) c.set

-- beaten on that row by the one that keeps it, if there is one, and else committed
abbrev pub lost_or_committed : ℕ → List Entrant → Placed → Option ChangeOfRow → Outcome
lost_or_committed epoch fresh c None = Committed
lost_or_committed epoch fresh c (Some p) = Beaten p.0 (id_of epoch (unwrap_or (option_map placed (keeper_of fresh p.0)) c))

-- what becomes of the candidate of the epoch whose fresh candidates are given
abbrev pub outcome_of : (RowId → ℕ) → ℕ → List Entrant → Placed → Outcome
outcome_of last epoch fresh c = changed_or last (lost_or_committed epoch fresh c (first_lost fresh c)) (first_changed last c)

-- the changes of those of the candidates that commit
abbrev pub writes_of : (Placed → Outcome) → List Placed → List ChangeOfRow
writes_of outcome cs = changes_of (filter (λ c. is_committed (outcome c)) cs)
