use Rattle.std.proofs.Common.{Contains, subst}
use Rattle.geo_base.specs.laws.Orders.{cells_cmp_total}
use Rattle.index_store.specs.laws.OneList.{one_list}
use Rattle.index_store.proofs.laws.keys_in_a_range_are_one_list.Goals as goal

pub returns : goal.returns
returns c table index range pairs a b first second =
    one_list cells_cmp_total a b first.rising second.rising
    (λ key c. let (pair, among, lies, same) = first.only key c in subst (Contains b) same (second.each pair among lies))
    (λ key c. let (pair, among, lies, same) = second.only key c in subst (Contains a) same (first.each pair among lies))
