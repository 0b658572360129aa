use Rattle.std.proofs.Common.{ap, map, ◌∙◌}
use Rattle.group_exec.specs.Results.{ordered, result_of}
use Rattle.group_exec.specs.inner.Made.{seen_line}
use Rattle.group_exec.proofs.Answers.{lines_answered}
use Rattle.group_exec.proofs.grouping.group.Goals as goal

pub returns : goal.returns
unfolding result_of
returns c =
    record {
      exact =
          lines_answered _ c.args.query.now.order c.args.query.now.limit c.in_ok-lines.lines.items c.sort.new.lines.items c.cut.new.lines.items _ c.in_ok-lines.ensures
          (c.in_ok-sort.ensures ∙ ap (λ sorts. ordered sorts (map seen_line c.in_ok-lines.lines.items)) c.items.ensures) c.cut.ensures c.within_limit.ensures;
    }
