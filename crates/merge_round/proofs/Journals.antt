-- A round of a journal's epoch judges as the journal does.
use Rattle.std.proofs.Common.{◌≡◌, ℕ, suc, ◌+◌, Bool, true, cond, List, [], length, map, Contains, sym, ap, ◌∙◌, arith}
use Rattle.std.specs.Map.{keys_of}
use Rattle.geo_base.specs.declared.row_id.RowId.{RowId}
use Rattle.geo_base.specs.Claims.{word_of}
use Rattle.write_set.specs.Sets.{has_row}
use Rattle.write_set.specs.Journal.{Journal, Placed, batches_at, candidates_of, epochs_of}
use Rattle.write_set.specs.Merge.{claim_of, verdict_of, verdicts, last_change}
use Rattle.write_set.specs.laws.Placing.{length_epochs}
use Rattle.merge_round.specs.Rounds.{Round, Serves, IsRoundOf, rows_in, number_in, claims_of, plan_by, plan_of, outcomes_of}
use Rattle.merge_round.specs.laws.Judging.{map_same, fresh_same, verdict_same}

module _ (all : List Placed) (changed held : RowId → ℕ)
    (serves : (c : Placed) (row : RowId) → Contains all c → has_row row c.set ≡ true → Serves c.start (changed row) (held row)) where
  -- what they claim
  plans_same : plan_by held all ≡ plan_by changed all
  plans_same = map_same (claims_of held (rows_in all)) (claims_of changed (rows_in all)) all
      (λ c hc. ap (λ (b : Bool). cond b (map (λ row. (number_in (rows_in all) row, word_of (claim_of c))) (keys_of c.set)) []) (fresh_same all changed held serves c hc))

pub plans_as_journal : (journal : Journal) (place : ℕ) (round : Round) → IsRoundOf journal place round →
    plan_of round ≡ plan_by (last_change (epochs_of journal place)) (candidates_of (batches_at journal place))
plans_as_journal journal place round is =
    let older = last_change (epochs_of journal place) in
    plans_same round.all older round.last (λ c row among has. is.last c row among has) ∙ ap (plan_by older) is.all

pub judges_as_journal : (journal : Journal) (place : ℕ) (round : Round) → IsRoundOf journal place round → outcomes_of round ≡ verdicts (epochs_of journal (place + 1))
judges_as_journal journal place round is =
    let older = last_change (epochs_of journal place) in
    let next : place + 1 ≡ suc place = omega arith in
    let epoch : round.epoch ≡ length (epochs_of journal place) + 1 = is.epoch ∙ ap (λ (n : ℕ). n + 1) (sym (length_epochs journal place)) in
    map_same (verdict_of round.last round.epoch round.all) (verdict_of older round.epoch round.all) round.all
    (λ c h. verdict_same round.all older round.last (λ d row hd has. is.last d row hd has) round.epoch c h)
    ∙ ap (λ (n : ℕ). map (verdict_of older n round.all) round.all) epoch
    ∙ ap (λ (l : List Placed). map (verdict_of older (length (epochs_of journal place) + 1) l) l) is.all
    ∙ ap (λ (n : ℕ). verdicts (epochs_of journal n)) (sym next)
