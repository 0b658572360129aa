use Rattle.row_codec.specs.laws.Cells.{cell_tells, cells_tell}
use Rattle.geo_base.specs.laws.Answers.{one_answer}
use Rattle.row_codec.proofs.laws.one_answer_at_each_place.Goals as goal

pub returns-clause-cell : goal.returns-clause-cell
returns-clause-cell c bytes at fits = one_answer _ _ _ _ (cell_tells bytes at) fits

pub returns-clause-cells : goal.returns-clause-cells
returns-clause-cells c bytes at count fits = one_answer _ _ _ _ (cells_tell bytes at count) fits
