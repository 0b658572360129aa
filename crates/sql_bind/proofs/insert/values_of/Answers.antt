use Rattle.std.proofs.Common.{◌<◌, length, sym, arith}
use Rattle.std.proofs.lemmas.List.{get_or_default}
use Rattle.std.proofs.lemmas.Result.{err_from_is_err_and}
use Rattle.sql_expr.specs.declared.value_type.ValueType.TheVariants as type
use Rattle.sql_bind.specs.declared.fault.BindFault.TheVariants as fault
use Rattle.sql_bind.specs.Inserts.{next_value}
use Rattle.sql_bind.proofs.Lists.{next_made, next_refused, none_left}
use Rattle.sql_bind.proofs.insert.values_of.Goals as goal

pub loop-place-preserved : goal.loop-place-preserved
loop-place-preserved c =
    let within : c.loop-place.place < length c.args.types.now = omega (arith, c.requires) in
    let wanted = get_or_default c.args.types.now c.loop-place.place type.Any type.Int within in
    record {
      count = omega (arith, c.in_ok-push.ensures.len, c.loop-place.invariant.count);
      so_far =
          rw c.in_ok-push.ensures.items
          (next_made (next_value c.args.schema.now c.args.scope.now c.args.types.now) c.args.values.now _ c.loop-place.bound.items c.loop-place.place c.index-values-place.result c.in_ok-taken_by.field-0 (omega arith) (sym c.index-values-place.is) c.loop-place.invariant.so_far (rw (c.loop-place.invariant.count, wanted) c.in_ok-taken_by.ensures));
    }

pub returns-in_err-taken_by : goal.returns-in_err-taken_by
returns-in_err-taken_by c =
    let within : c.loop-place.place < length c.args.types.now = omega (arith, c.requires) in
    let wanted = get_or_default c.args.types.now c.loop-place.place type.Any type.Int within in
    let p = err_from_is_err_and c.from_residual-in_err-taken_by.result c.from_residual-in_err-taken_by.ensures.1 in
    rw (p.1, p.2)
    (next_refused (next_value c.args.schema.now c.args.scope.now c.args.types.now) c.args.values.now _ fault.NoMemory c.in_err-taken_by.field-0.0 c.loop-place.bound.items c.loop-place.place c.index-values-place.result (omega arith) (sym c.index-values-place.is) c.loop-place.invariant.so_far (rw (c.loop-place.invariant.count, wanted) c.in_err-taken_by.ensures))

pub returns : goal.returns
returns c =
    none_left (next_value c.args.schema.now c.args.scope.now c.args.types.now) c.args.values.now _ c.loop-place.bound.items c.loop-place.place (omega arith) c.loop-place.invariant.so_far
