-- Inner: what a round's fields hold of its candidates, and what a seat finds as it works on one.
use Rattle.std.specs.Prelude.{◌≡◌, ℕ, ◌<◌, ◌≤◌, true, nat_lt, Option, None, Some, unwrap_or, if◌then◌else◌, List, [], ◌∷◌, ◌++◌, map, length, Contains}
use Rattle.std.specs.List.{slice_get, flat_map}
use Rattle.std.specs.Option.{option_map}
use Rattle.std.specs.Map.{keys_of}
use Rattle.indexmap.specs.IndexSet.{insert_all}
use Rattle.geo_base.specs.declared.claim.Claim.{Claim}
use Rattle.geo_base.specs.declared.row_id.RowId.{RowId}
use Rattle.geo_base.specs.declared.outcome.Outcome.{Outcome}
use Rattle.geo_base.specs.declared.outcome.Outcome.TheVariants as outcome
use Rattle.geo_base.specs.Order.{row_eq}
use Rattle.write_set.specs.Journal.{Placed}
use Rattle.claim_rule.specs.declared.table.ClaimTable.{ClaimTable}
use Rattle.claim_rule.specs.declared.view.ClaimView.{ClaimView}
use Rattle.claim_rule.specs.declared.seat.ClaimSeat.{ClaimSeat}
use Rattle.claim_rule.specs.Views.{times}
use Rattle.claim_rule.specs.Seats.{view_of, rows_of, IsSeatOf}
use Rattle.merge_round.specs.declared.limits.TheConstants.{MAX_ENTRIES}
use Rattle.merge_round.specs.declared.numbering.Entry.{Entry}
use Rattle.merge_round.specs.declared.numbering.Numbering.{Numbering}
use Rattle.merge_round.specs.Rounds.{Round, rows_in, number_in, plan_of, AreClaims}

-- the candidate as its seats work on it, where its rows are numbered among these
abbrev pub entry_of : List RowId → Placed → Entry
entry_of rows c = record { region = c.region; csn = c.csn; start = c.start; rows = map (number_in rows) (keys_of c.set) }

-- what a round holds of its candidates
pub record HoldsAll (all : List Placed) (rows : List RowId) (entries : List Entry) (table : ClaimTable) : Type 0 where
  pub claims : AreClaims all
  pub few : length all ≤ MAX_ENTRIES
  pub named : rows ≡ rows_in all
  pub entered : entries ≡ map (entry_of rows) all
  pub tabled : rows_of table ≡ length rows

-- these rows are numbered, and those of them that are new stand at the end
pub record NumbersRows (names old new : List RowId) (numbers : List ℕ) : Type 0 where
  pub rows : new ≡ insert_all row_eq old names
  pub numbered : numbers ≡ map (number_in new) names

-- these candidates are numbered behind those that are there
pub record GrowsBy (cs : List Placed) (old new : Numbering) : Type 0 where
  pub rows : new.rows.keys ≡ insert_all row_eq old.rows.keys (flat_map (λ c. keys_of c.set) cs)
  pub entries : new.entries.items ≡ old.entries.items ++ map (entry_of new.rows.keys) cs

-- the first of the numbers whose value is above the given one, and its value
abbrev pub first_above : (ℕ → ℕ) → ℕ → List ℕ → Option (ℕ × ℕ)
first_above value low [] = None
first_above value low (n ∷ ns) = if nat_lt low (value n) then Some (n, value n) else first_above value low ns

-- the last change that is held for the row with the number
abbrev pub last_at : (RowId → ℕ) → List RowId → ℕ → ℕ
last_at last rows number = unwrap_or (option_map last (slice_get rows number)) 0

-- what the candidate claims rows by
abbrev pub claim_in : Entry → Claim
claim_in entry = record { start = entry.start; csn = entry.csn; region = entry.region }

-- what a seat knows when it has made these claims too
abbrev pub claims_made : List (ℕ × ℕ) → ClaimView → ClaimView
claims_made pairs v = record v { claims = v.claims ++ pairs }

-- the outcome's row is one of these
abbrev pub IsNamed : List RowId → Outcome → Type 0
IsNamed rows outcome.Committed = Unit {0}
IsNamed rows (outcome.Changed row epoch) = slice_get rows (number_in rows row) ≡ Some row
IsNamed rows (outcome.Beaten row winner) = slice_get rows (number_in rows row) ≡ Some row

-- the candidate with the number is what the entry is of
pub record IsEntry (all : List Placed) (number : ℕ) (e : Entry) : Type 0 where
  pub candidate : Placed
  pub at : slice_get all number ≡ Some candidate
  pub among : Contains all candidate
  pub is : e ≡ entry_of (rows_in all) candidate

-- the seat has drawn the candidate with the number, and makes its claims
pub record IsClaimingFor (round : Round) (seat : ClaimSeat) (number : ℕ) : Type 0 where
  pub seated : IsSeatOf round.table seat
  pub planned : (view_of seat).plan ≡ plan_of round
  pub within : number < length round.all
  pub drawn : 0 < times number (view_of seat).pending

-- the seat has seen all claims made, and judges
pub record IsJudging (round : Round) (seat : ClaimSeat) : Type 0 where
  pub seated : IsSeatOf round.table seat
  pub planned : (view_of seat).plan ≡ plan_of round
  pub stable : (view_of seat).stable ≡ true
