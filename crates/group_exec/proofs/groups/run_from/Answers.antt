use Rattle.std.proofs.Common.{◌≤◌, ap, drop, length, map, ◌∙◌, arith}
use Rattle.std.proofs.lemmas.List.{take_rest}
use Rattle.group_exec.specs.inner.Made.{seen_line}
use Rattle.group_exec.specs.inner.Runs.{run_length}
use Rattle.group_exec.proofs.Running.{run_is}
use Rattle.group_exec.proofs.groups.run_from.Goals as goal

pub returns-clause-run : goal.returns-clause-run
returns-clause-run c =
    let rest = take_rest c.args.rows.now c.args.start in
    let long = ap length rest in
    let within : c.run_length.result ≤ length (drop c.args.start c.args.rows.now) = omega (arith, c.run_length.ensures.within, long) in
    run_is c.args.sorts.now c.args.rows.now c.args.start c.run_length.result c.requires
    (c.run_length.ensures.exact ∙ ap (λ rows. run_length c.args.sorts.now (map seen_line rows)) rest) within
