use Rattle.std.proofs.Common.{arith, ℕ, ◌+◌, length-take, length-drop}
use Rattle.std.proofs.lemmas.Result.{err_from_is_err_and}
use Rattle.geo_io.proofs.ToldLemmas.{LosesAtMost-more}
use Rattle.geo_io.proofs.reading.read_blocks.Goals as goal

pub returns-in_err-extend_from_slice-clause-err : goal.returns-in_err-extend_from_slice-clause-err
returns-in_err-extend_from_slice-clause-err g c =
    let p = err_from_is_err_and c.from_residual-in_err-extend_from_slice.result c.from_residual-in_err-extend_from_slice.ensures.1 in
    rw p.1 (LosesAtMost-more (c.args.limit + 1) c.loop-bytes.bytes.items _ _ _ _
    (omega (arith, c.in_ok-taken.ensures.bound, length-take {A = ℕ}, length-drop {A = ℕ}))
    c.loop-bytes.invariant.taken c.in_ok-taken.ensures.bytes.0)
