-- A round: the candidates of one epoch, the numbers of their rows, the plan of their claims, and what becomes of each.
use Rattle.std.specs.Prelude.{◌≡◌, ℕ, ◌+◌, ◌<◌, ◌≤◌, true, nat_lt, Option, None, Some, if◌then◌else◌, List, [], map, Contains, All}
use Rattle.std.specs.List.{slice_get, flat_map, position_or_len}
use Rattle.std.specs.Option.{option_map}
use Rattle.std.specs.Map.{keys_of}
use Rattle.indexmap.specs.IndexSet.{insert_all}
use Rattle.geo_base.specs.declared.row_id.RowId.{RowId}
use Rattle.geo_base.specs.declared.outcome.Outcome.{Outcome}
use Rattle.geo_base.specs.declared.outcome.Outcome.TheVariants as outcome
use Rattle.geo_base.specs.Order.{row_eq}
use Rattle.geo_base.specs.Claims.{word_of, IsClaim}
use Rattle.write_set.specs.Sets.{has_row}
use Rattle.write_set.specs.Journal.{Journal, Placed, batches_at, candidates_of, epochs_of}
use Rattle.write_set.specs.Merge.{claim_of, is_fresh, is_beaten_on, winner_of, verdict_of, last_change}
use Rattle.claim_rule.specs.declared.table.ClaimTable.{ClaimTable}
use Rattle.claim_rule.specs.Plan.{Pieces, final_of}
use Rattle.merge_round.specs.declared.verdict.Verdict.{Verdict}
use Rattle.merge_round.specs.declared.verdict.Verdict.TheVariants.{Committed, Changed, Beaten}

-- a round, as a caller sees it
pub record Round : Type 0 where
  pub epoch : ℕ
  -- the epoch's candidates, by region and then commit number, by which order they are numbered from 0
  pub all : List Placed
  -- the epoch that is held for the last change of each row
  pub last : RowId → ℕ
  -- the words on which the seats claim rows
  pub table : ClaimTable

-- the rows of the candidates, changed or touched, each once and in the order in which they first appear
abbrev pub rows_in : List Placed → List RowId
rows_in all = insert_all row_eq [] (flat_map (λ c. keys_of c.set) all)

-- the number of a row: its place among these rows
abbrev pub number_in : List RowId → RowId → ℕ
number_in rows row = position_or_len (row_eq row) rows

-- what the candidate claims, where `last` gives each row's last change: where it is fresh the number of each of its rows, changed or
-- touched, with its claim's word, and else nothing
abbrev pub claims_of : (RowId → ℕ) → List RowId → Placed → List (ℕ × ℕ)
claims_of last rows c = if is_fresh last c then map (λ row. (number_in rows row, word_of (claim_of c))) (keys_of c.set) else []

-- what each of the candidates claims
abbrev pub plan_by : (RowId → ℕ) → List Placed → Pieces
plan_by last all = map (claims_of last (rows_in all)) all

-- the plan of the round's claims
abbrev pub plan_of : Round → Pieces
plan_of round = plan_by round.last round.all

-- the greatest word of a claim on the row, or 0
abbrev pub final_word : (RowId → ℕ) → List Placed → RowId → ℕ
final_word last all row = final_of (plan_by last all) (number_in (rows_in all) row)

-- what becomes of the candidate
abbrev pub outcome_in : Round → Placed → Outcome
outcome_in round c = verdict_of round.last round.epoch round.all c

-- what becomes of each candidate, in order
abbrev pub outcomes_of : Round → List Outcome
outcomes_of round = map (outcome_in round) round.all

-- an outcome, with its row named by its number among these rows
abbrev pub numbered : List RowId → Outcome → Verdict
numbered rows outcome.Committed = Committed
numbered rows (outcome.Changed row epoch) = Changed (number_in rows row) epoch
numbered rows (outcome.Beaten row winner) = Beaten (number_in rows row) winner

-- the verdict on the candidate with the number, if there is one
abbrev pub verdict_on : Round → ℕ → Option Verdict
verdict_on round number = option_map (λ c. numbered (rows_in round.all) (outcome_in round c)) (slice_get round.all number)

-- words can hold the claims of all these candidates
abbrev pub AreClaims : List Placed → Type 0
AreClaims all = All (λ c. IsClaim (claim_of c)) all

-- the final words decide as comparing each candidate with each other does: a candidate is beaten on a row of its own exactly where the
-- row's final word is above its own word; the final word of a row is that of the contender that no contender beats, and 0 where the
-- row has no contender
pub record FinalWordsDecide (last : RowId → ℕ) (all : List Placed) : Type 0 where
  pub beaten : (c : Placed) (row : RowId) → Contains all c → has_row row c.set ≡ true →
      is_beaten_on last all c row ≡ nat_lt (word_of (claim_of c)) (final_word last all row)
  pub winner : (w : Placed) (row : RowId) → winner_of last all row ≡ Some w → final_word last all row ≡ word_of (claim_of w)
  pub unclaimed : (row : RowId) → winner_of last all row ≡ None → final_word last all row ≡ 0

-- the epoch that is held for a row's last change serves a candidate of this start: where the row was changed after the start it is the
-- last change, and else it isn't after the start
pub record Serves (start changed held : ℕ) : Type 0 where
  pub above : start < changed → held ≡ changed
  pub below : changed ≤ start → held ≤ start

-- held epochs that serve each candidate for each of its rows judge as the last changes do
abbrev pub ServingChangesJudgeAlike : Type 0
ServingChangesJudgeAlike = (all : List Placed) (changed held : RowId → ℕ) →
    ((c : Placed) (row : RowId) → Contains all c → has_row row c.set ≡ true → Serves c.start (changed row) (held row)) →
    (epoch : ℕ) (c : Placed) → Contains all c → verdict_of held epoch all c ≡ verdict_of changed epoch all c

-- the round is of the epoch that the journal's batches at this place are of, and what it holds for the rows of its candidates serves
pub record IsRoundOf (journal : Journal) (place : ℕ) (round : Round) : Type 0 where
  pub epoch : round.epoch ≡ place + 1
  pub all : round.all ≡ candidates_of (batches_at journal place)
  pub last : (c : Placed) (row : RowId) → Contains round.all c → has_row row c.set ≡ true →
      Serves c.start (last_change (epochs_of journal place) row) (round.last row)
