use Rattle.std.proofs.Common.{◌≡◌, ◌+◌, ◌≤◌, length}
use Rattle.geo_script.specs.Lines.{lines_of, spoken_from}
use Rattle.geo_script.proofs.reading.lines.next_spoken.Given as goal

abbrev pub invariant-loop-line : goal.invariant-loop-line
invariant-loop-line l = record {
  lines : spoken_from l.number (lines_of l.bytes) ≡ spoken_from l.fn.rest.number (lines_of l.fn.rest.bytes.now);
  number : l.number + length (lines_of l.bytes) ≡ l.fn.rest.number + length (lines_of l.fn.rest.bytes.now);
  room : l.number + length l.bytes ≤ l.fn.rest.number + length l.fn.rest.bytes.now;
  shorter : length l.bytes ≤ length l.fn.rest.bytes.now;
}

abbrev pub decreases-loop-line : goal.decreases-loop-line
decreases-loop-line l = length l.bytes
