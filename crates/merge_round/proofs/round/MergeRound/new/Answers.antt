use Rattle.std.proofs.Common.{◌≡◌, ℕ, length, map, ap, sym, subst, ◌∙◌, arith}
use Rattle.std.proofs.lemmas.List.{length-map}
use Rattle.write_set.specs.Journal.{candidates_of}
use Rattle.claim_rule.specs.Plan.{IsPlan}
use Rattle.merge_round.specs.Rounds.{Round, plan_by, rows_in}
use Rattle.merge_round.specs.inner.Entries.{entry_of}
use Rattle.merge_round.proofs.Lawful.{few_items, few_candidates, batch_claims, is_plan}
use Rattle.merge_round.proofs.Whole.{new_seats}
use Rattle.merge_round.proofs.round.MergeRound.new.Goals as goal

pub number-requires-clause-lawful : goal.number-requires-clause-lawful
number-requires-clause-lawful g c = rw c.items.ensures (few_items 0 c.args.input.epoch c.args.input.batches c.requires.lawful)

pub overflow_cast-count : goal.overflow_cast-count
overflow_cast-count g c =
    let long : length c.in_ok-rows.field-0.entries.items ≡ length (candidates_of c.args.input.batches) =
    ap length c.in_ok-rows.ensures.entries ∙ length-map _ (entry_of c.in_ok-rows.field-0.rows.keys) ∙ ap (λ bs. length (candidates_of bs)) c.items.ensures in
    let few = few_candidates 0 c.args.input.epoch c.args.input.batches c.requires.lawful in
    let regions = c.requires.regions in
    let count = c.len-count.ensures in
    omega arith

pub table_for-requires-clause-plan : goal.table_for-requires-clause-plan
table_for-requires-clause-plan g c =
    let long : length c.in_ok-rows.field-0.entries.items ≡ length (candidates_of c.args.input.batches) =
    ap length c.in_ok-rows.ensures.entries ∙ length-map _ (entry_of c.in_ok-rows.field-0.rows.keys) ∙ ap (λ bs. length (candidates_of bs)) c.items.ensures in
    let rows : length c.in_ok-rows.field-0.rows.keys ≡ length (rows_in (candidates_of c.args.input.batches)) = ap length c.in_ok-rows.ensures.rows ∙ ap (λ bs. length (rows_in (candidates_of bs))) c.items.ensures in
    let counted : c.len-count.result ≡ length (candidates_of c.args.input.batches) = (let count = c.len-count.ensures in omega arith) in
    let plan = is_plan (g.C.Changes.last c.args.input.before) (candidates_of c.args.input.batches) in
    subst (λ (n : ℕ). IsPlan (plan_by (g.C.Changes.last c.args.input.before) (candidates_of c.args.input.batches)) n c.len-count.result) (sym (c.len-row_count.ensures.len ∙ rows))
    (subst (λ (n : ℕ). IsPlan (plan_by (g.C.Changes.last c.args.input.before) (candidates_of c.args.input.batches)) (length (rows_in (candidates_of c.args.input.batches))) n) (sym counted) plan)

pub invariant_of-round : goal.invariant_of-round
invariant_of-round g c = record {
  held = record {
    claims = batch_claims 0 c.args.input.epoch c.args.input.batches c.requires.lawful (let few = c.requires.regions in omega arith) c.epoch_fits.ensures;
    few = (let few = few_candidates 0 c.args.input.epoch c.args.input.batches c.requires.lawful in let regions = c.requires.regions in omega arith);
    named = c.in_ok-rows.ensures.rows ∙ ap (λ bs. rows_in (candidates_of bs)) c.items.ensures;
    entered = c.in_ok-rows.ensures.entries ∙ ap (λ bs. map (entry_of c.in_ok-rows.field-0.rows.keys) (candidates_of bs)) c.items.ensures;
    tabled = c.in_ok-table.ensures.rows ∙ c.len-row_count.ensures.len;
  };
}

pub returns-clause-seats : goal.returns-clause-seats
returns-clause-seats g c =
    let long : length c.in_ok-rows.field-0.entries.items ≡ length (candidates_of c.args.input.batches) =
    ap length c.in_ok-rows.ensures.entries ∙ length-map _ (entry_of c.in_ok-rows.field-0.rows.keys) ∙ ap (λ bs. length (candidates_of bs)) c.items.ensures in
    let counted : c.len-count.result ≡ length (candidates_of c.args.input.batches) = (let count = c.len-count.ensures in omega arith) in
    c.in_ok-seats.ensures.seats _ (sym counted) c.in_ok-table.ensures.seats

pub returns-clause-whole : goal.returns-clause-whole
returns-clause-whole g c =
    let long : length c.in_ok-rows.field-0.entries.items ≡ length (candidates_of c.args.input.batches) =
    ap length c.in_ok-rows.ensures.entries ∙ length-map _ (entry_of c.in_ok-rows.field-0.rows.keys) ∙ ap (λ bs. length (candidates_of bs)) c.items.ensures in
    let counted : c.len-count.result ≡ length (candidates_of c.args.input.batches) = (let count = c.len-count.ensures in omega arith) in
    let round : Round = record { epoch = c.args.input.epoch; all = candidates_of c.args.input.batches; last = g.C.Changes.last c.args.input.before; table = c.in_ok-table.table } in
    new_seats round c.in_ok-seats.seats.items (c.in_ok-seats.ensures.seats round (sym counted) c.in_ok-table.ensures.seats)
    (c.in_ok-seats.ensures.count ∙ c.in_ok-table.ensures.count ∙ sym c.in_ok-table.ensures.workers)
