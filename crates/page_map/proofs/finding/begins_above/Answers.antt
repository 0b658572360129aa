use Rattle.std.proofs.Common.{ap, sym, ◌∙◌}
use Rattle.std.specs.Arc.{arc_value}
use Rattle.std.specs.List.{slice_get}
use Rattle.page_map.proofs.Steps.{head_at}
use Rattle.page_map.proofs.finding.begins_above.Goals as goal

pub returns : goal.returns
returns g c =
    let first = ap (λ v. slice_get (g.C.Chunk.entries v) 0) (sym c.deref.ensures) ∙ c.at.ensures in
    let head = head_at g.K.Ord.cmp c.args.key.now (g.C.Chunk.entries (arc_value c.args.chunk.now)) (c.at.result.0.now, c.at.result.1.now) first in
    cc
