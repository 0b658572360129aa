use Rattle.std.proofs.Common.{◌≡◌, ◌∷◌, ◌++◌, []}
use Rattle.std.specs.Fmt.{signed_decimal}
use Rattle.std.proofs.lemmas.List.{append_cancel_right}
use Rattle.world_script.proofs.Decimals.{literal_fits}
use Rattle.world_script.proofs.Pieces.{not_cut}
use Rattle.world_script.proofs.EventTexts.{insert_of, insert_values, insert_cut}
use Rattle.world_script.proofs.reading.statement.read_statement.Goals as goal

pub returns-in_err-values-clause-only : goal.returns-in_err-values-clause-only
returns-in_err-values-clause-only c = λ s of typed.
    let insert = insert_of c.args.text.now s (λ e. cc (c.is_select.ensures.1 e)) of typed in
    absurd (c.in_err-values.ensures _ insert.spelled)

pub returns-in_err-key-clause-only : goal.returns-in_err-key-clause-only
returns-in_err-key-clause-only c = λ s of typed.
    let insert = insert_of c.args.text.now s (λ e. cc (c.is_select.ensures.1 e)) of typed in
    absurd (not_cut _ 44 _ _ c.in_err-key.ensures.none (insert_values _ _ s insert c.in_ok-values.ensures))

pub returns-in_err-rest-clause-only : goal.returns-in_err-rest-clause-only
returns-in_err-rest-clause-only c = λ s of typed.
    let insert = insert_of c.args.text.now s (λ e. cc (c.is_select.ensures.1 e)) of typed in
    let cut = insert_cut _ _ _ _ s insert c.in_ok-values.ensures c.in_ok-key.ensures.found in
    absurd (c.in_err-rest.ensures _ cut.1)

pub returns-in_err-value-clause-only : goal.returns-in_err-value-clause-only
returns-in_err-value-clause-only c = λ s of typed.
    let insert = insert_of c.args.text.now s (λ e. cc (c.is_select.ensures.1 e)) of typed in
    let cut = insert_cut _ _ _ _ s insert c.in_ok-values.ensures c.in_ok-key.ensures.found in
    let ends : c.in_ok-rest.rest.now ≡ signed_decimal insert.value ++ (41 ∷ []) = cc (c.in_ok-rest.ensures, cut.1) in
    absurd (c.in_err-value.ensures _ ends)

pub returns-in_err-key-2-clause-only : goal.returns-in_err-key-2-clause-only
returns-in_err-key-2-clause-only c = λ s of typed.
    let insert = insert_of c.args.text.now s (λ e. cc (c.is_select.ensures.1 e)) of typed in
    let cut = insert_cut _ _ _ _ s insert c.in_ok-values.ensures c.in_ok-key.ensures.found in
    cc (c.in_err-key-2.ensures.only insert.key insert.key_typed cut.0)

pub returns-in_err-value-2-clause-only : goal.returns-in_err-value-2-clause-only
returns-in_err-value-2-clause-only c = λ s of typed.
    let insert = insert_of c.args.text.now s (λ e. cc (c.is_select.ensures.1 e)) of typed in
    let cut = insert_cut _ _ _ _ s insert c.in_ok-values.ensures c.in_ok-key.ensures.found in
    let ends : c.in_ok-value.value.now ++ (41 ∷ []) ≡ signed_decimal insert.value ++ (41 ∷ []) = cc (c.in_ok-rest.ensures, c.in_ok-value.ensures, cut.1) in
    cc (c.in_err-value-2.ensures.only insert.value insert.value_typed (append_cancel_right _ _ (41 ∷ []) ends))

pub returns-clause-only : goal.returns-clause-only
returns-clause-only c = λ s of typed.
    let insert = insert_of c.args.text.now s (λ e. cc (c.is_select.ensures.1 e)) of typed in
    let cut = insert_cut _ _ _ _ s insert c.in_ok-values.ensures c.in_ok-key.ensures.found in
    let ends : c.in_ok-value.value.now ++ (41 ∷ []) ≡ signed_decimal insert.value ++ (41 ∷ []) = cc (c.in_ok-rest.ensures, c.in_ok-value.ensures, cut.1) in
    let is_key : c.in_ok-key-2.key ≡ insert.key = cc (c.in_ok-key-2.ensures.only insert.key insert.key_typed cut.0) in
    let is_value : c.in_ok-value-2.value ≡ insert.value = cc (c.in_ok-value-2.ensures.only insert.value insert.value_typed (append_cancel_right _ _ (41 ∷ []) ends)) in
    let key_fits = literal_fits c.in_ok-key-2.key c.in_ok-key-2.ensures.found.1 in
    let value_fits = literal_fits c.in_ok-value-2.value c.in_ok-value-2.ensures.found.1 in
    cc (insert.is)
