-- Laws: cells are a key exactly where they have no fault.
use Rattle.std.proofs.Common.{◌≡◌, List, None, arith}
use Rattle.std.proofs.lemmas.Bool.Decides.{nat_tests}
use Rattle.geo_base.specs.declared.cell.Cell.{Cell}
use Rattle.geo_base.specs.Cells.{key_fault, IsKey}

pub key_fault_none : (cells : List Cell) → IsKey cells → key_fault cells ≡ None
unfolding key_fault
key_fault_none cells key = grind (arith, nat_tests, key.whole)

pub is_key : (cells : List Cell) → key_fault cells ≡ None → IsKey cells
unfolding key_fault
is_key cells none = grind (arith, nat_tests)
