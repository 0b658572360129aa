-- the rows at each cell so far, and behind them those of the rows that are left, are those of all
use Rattle.std.proofs.Common.{◌≡◌, ◌++◌, drop, map}
use Rattle.geo_base.specs.declared.cell.Cell.{Cell}
use Rattle.join_exec.specs.inner.Linked.{linked, rows_at}
use Rattle.join_exec.proofs.by_link.links_of.Given as goal

abbrev pub invariant-loop-row : goal.invariant-loop-row
invariant-loop-row l =
    (c : Cell) → rows_at (λ k. k.now) (λ v. map (λ r. r.now) v.items) l.links.entries c ++ linked l.column c (map (λ r. r.now) (drop l.row-index l.rows)) ≡ linked l.column c (map (λ r. r.now) l.rows)
