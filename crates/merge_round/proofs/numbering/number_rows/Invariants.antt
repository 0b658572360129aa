use Rattle.std.proofs.Common.{◌+◌, ◌≤◌, length, take}
use Rattle.std.specs.Map.{keys_of}
use Rattle.merge_round.specs.inner.Entries.{NumbersRows}
use Rattle.merge_round.proofs.numbering.number_rows.Given as goal

-- the rows so far are numbered
abbrev pub invariant-loop-row : goal.invariant-loop-row
invariant-loop-row l =
    NumbersRows (keys_of (take l.row-index l.changes)) l.fn.rows.keys l.rows.keys l.numbers.items
    × (length l.rows.keys ≤ length l.fn.rows.keys + l.row-index)
