use Rattle.std.proofs.Common.{arith, ℕ, length-take, length-drop}
use Rattle.std.proofs.lemmas.List.{take_rest}
use Rattle.std.proofs.lemmas.Result.{err_from_is_err_and}
use Rattle.geo_io.proofs.ToldLemmas.{Appends-take, AppendsFrontOf-take}
use Rattle.geo_io.proofs.writing.write_whole.Goals as goal

pub returns-in_err-at-clause-err : goal.returns-in_err-at-clause-err
returns-in_err-at-clause-err g c =
    let p = err_from_is_err_and c.from_residual.result c.from_residual.ensures.1 in
    rw p.1 (AppendsFrontOf-take c.loop-at.at c.args.bytes.now _ _ _ c.loop-at.invariant.gained c.in_err-at.ensures.bytes)

pub loop-at-preserved : goal.loop-at-preserved
loop-at-preserved g c = record {
  within = omega (arith, c.in_ok-at.ensures.bound, length-take {A = ℕ}, length-drop {A = ℕ});
  gained = Appends-take c.loop-at.at c.in_ok-at.field-0 c.args.bytes.now _ _ _ c.loop-at.invariant.gained
      (rw (take_rest c.args.bytes.now c.loop-at.at) at c.in_ok-at.ensures.bytes);
  later = omega (arith, c.in_ok-at.ensures.cause.later, c.loop-at.invariant.later);
}
