use Rattle.std.proofs.Common.{◌∙◌, sym}
use Rattle.write_set.specs.Net.{change_in}
use Rattle.write_set.specs.laws.Nets.{left_from}
use Rattle.write_set.proofs.laws.nets_are_of_their_changes.Goals as goal

pub returns : goal.returns
returns c = λ set changes net row change is left. left_from changes (change_in set) row change (sym (is.rows row) ∙ left)
