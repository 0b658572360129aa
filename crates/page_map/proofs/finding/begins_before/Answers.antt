use Rattle.std.proofs.Common.{ap, sym, ◌∙◌}
use Rattle.std.specs.List.{slice_get}
use Rattle.page_map.proofs.finding.begins_before.Goals as goal

pub returns : goal.returns
returns g c =
    ((c.at.result.0.now, c.at.result.1.now), ap (λ v. slice_get (g.C.Chunk.entries v) 0) (sym c.deref.ensures) ∙ c.at.ensures, c.comes_after.ensures)
