-- What is read of a cell, as one of a batch.
use Rattle.std.proofs.Common.{◌≡◌, ℕ, List, Ok, ap, ◌⊎◌, inl, inr}
use Rattle.geo_base.specs.declared.cell.Cell.{Cell}
use Rattle.geo_base.specs.Results.{Fails}
use Rattle.row_codec.specs.declared.fault.CellReadFault.{CellReadFault}
use Rattle.row_codec.specs.declared.fault.CellReadFault.TheVariants as of_cell
use Rattle.row_codec.specs.Faults.{IsFaultAt}
use Rattle.row_codec.specs.Spelling.{CellStands}
use Rattle.row_codec.specs.inner.Reading.{cell_at}
use Rattle.row_codec.specs.laws.Cells.{cell_tells}
use Rattle.set_codec.specs.declared.fault.CodecFault.TheVariants.{NoMemory}
use Rattle.set_codec.specs.CellFaults.{fault_of}
use Rattle.set_codec.specs.inner.Reading.{lifted}

module _ (bytes : List ℕ) (at : ℕ) where
  pub cell_read : (x : Cell × ℕ) → CellStands bytes at x → lifted (cell_at bytes at) ≡ Ok x
  cell_read x stands = ap lifted ((cell_tells bytes at).only x stands)

  pub cell_fails : (e : CellReadFault) → ((e ≡ of_cell.NoMemory) ⊎ IsFaultAt bytes at e) → Fails NoMemory (fault_of e) (lifted (cell_at bytes at))
  cell_fails e h = elim h [ inl c ↦ inl (ap fault_of c) | inr c ↦ inr (ap lifted ((cell_tells bytes at).refused e c)) ]
