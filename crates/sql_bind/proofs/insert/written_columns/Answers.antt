use Rattle.std.proofs.Common.{ℕ, ◌<◌, List, [], ◌∷◌, length, sym, subst, arith}
use Rattle.std.specs.List.{All}
use Rattle.std.proofs.lemmas.List.Elements.{All-append}
use Rattle.std.proofs.lemmas.Result.{err_from_is_err_and}
use Rattle.sql_bind.specs.declared.fault.BindFault.TheVariants as fault
use Rattle.sql_bind.specs.Inserts.{listed_column}
use Rattle.sql_bind.proofs.Lists.{All-one, next_made, next_refused, none_left}
use Rattle.sql_bind.proofs.insert.written_columns.Goals as goal

pub loop-name-preserved : goal.loop-name-preserved
loop-name-preserved c =
    let place = c.in_ok-listed_column.field-0 in
    record {
      within =
          subst (All (λ p. p < length c.args.columns.now)) (sym {A = List ℕ} c.in_ok-push.ensures.items)
          (All-append (λ p. p < length c.args.columns.now) c.loop-name.places.items (place ∷ []) c.loop-name.invariant.within (All-one (λ p. p < length c.args.columns.now) place c.in_ok-listed_column.ensures.within));
      so_far =
          rw c.in_ok-push.ensures.items
          (next_made (listed_column c.args.columns.now) c.args.names.now _ c.loop-name.places.items c.loop-name.name-index c.name-item.result place (omega arith) (sym c.name-item.is) c.loop-name.invariant.so_far (rw c.as_slice.ensures.value at c.in_ok-listed_column.ensures.place));
    }

pub returns-in_err-listed_column-clause-places : goal.returns-in_err-listed_column-clause-places
returns-in_err-listed_column-clause-places c =
    let p = err_from_is_err_and c.from_residual.result c.from_residual.ensures.1 in
    rw (p.1, p.2)
    (next_refused (listed_column c.args.columns.now) c.args.names.now _ fault.NoMemory c.in_err-listed_column.field-0.0 c.loop-name.places.items c.loop-name.name-index c.name-item.result (omega arith) (sym c.name-item.is) c.loop-name.invariant.so_far (rw c.as_slice.ensures.value at c.in_err-listed_column.ensures.place))

pub returns-clause-places : goal.returns-clause-places
returns-clause-places c =
    none_left (listed_column c.args.columns.now) c.args.names.now _ c.loop-name.places.items c.loop-name.name-index (omega arith) c.loop-name.invariant.so_far
