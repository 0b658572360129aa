use Rattle.std.proofs.Common.{ap, map, subst, sym, ◌∙◌}
use Rattle.geo_base.specs.Results.{Gives}
use Rattle.row_source.specs.declared.fault.ExecFault.TheVariants as fault
use Rattle.group_exec.specs.Results.{ordered}
use Rattle.group_exec.specs.inner.Made.{seen_line}
use Rattle.group_exec.proofs.Running.{lines_are}
use Rattle.group_exec.proofs.groups.lines_by_columns.Goals as goal

pub returns : goal.returns
returns c =
    let sorts = c.as_slice-2.result.now in
    let after = c.as_slice-3.result.now in
    let sorted = ap (map seen_line) c.as_slice-3.ensures.value ∙ c.in_ok-sort.ensures
    ∙ ap (λ some. ordered some (map seen_line c.args.rows.now.items)) (c.as_slice.ensures.value ∙ sym c.as_slice-2.ensures.value) in
    subst (λ meant. Gives fault.NoMemory (λ v. map seen_line v.items) c.lines_of_runs.result meant)
    (lines_are c.args.items.now c.args.columns.now sorts c.args.rows.now.items after c.requires.grouped (c.as_slice-2.ensures.value ∙ c.in_ok-sorts.ensures) sorted)
    c.lines_of_runs.ensures
