use Rattle.std.proofs.Common.{◌≡◌, ◌+◌, ◌≤◌, length, refl, arith}
use Rattle.write_set.specs.Sizes.{change_size}
use Rattle.write_set.specs.inner.Nets.{gained, lost, once}
use Rattle.write_set.proofs.Lefts.{rows_after, bytes_after, whole}
use Rattle.write_set.proofs.replacing.extent_after.Goals as goal

-- all rows are counted

pub overflow_sub-result : goal.overflow_sub-result
overflow_sub-result c =
    let set = c.args.set.now in
    let left = c.args.left.now in
    let upto : length left ≤ c.loop-row.row-index = omega (arith, c.loop-row-test.false) in
    let all_gained = whole (gained once) left c.loop-row.rows_gained c.loop-row.row-index refl upto c.loop-row.invariant.rows_gained in
    let all_lost = whole (lost once set) left c.loop-row.rows_lost c.loop-row.row-index refl upto c.loop-row.invariant.rows_lost in
    omega (arith, all_gained, all_lost, rows_after set left c.requires.set c.requires.left)

pub overflow_sub-result-2 : goal.overflow_sub-result-2
overflow_sub-result-2 c =
    let set = c.args.set.now in
    let left = c.args.left.now in
    let upto : length left ≤ c.loop-row.row-index = omega (arith, c.loop-row-test.false) in
    let all_gained = whole (gained change_size) left c.loop-row.bytes_gained c.loop-row.row-index refl upto c.loop-row.invariant.bytes_gained in
    let all_lost = whole (lost change_size set) left c.loop-row.bytes_lost c.loop-row.row-index refl upto c.loop-row.invariant.bytes_lost in
    omega (arith, all_gained, all_lost, bytes_after set left c.requires.set c.requires.left, c.from.ensures, c.requires.size)

pub returns-clause-rows : goal.returns-clause-rows
returns-clause-rows c =
    let set = c.args.set.now in
    let left = c.args.left.now in
    let upto : length left ≤ c.loop-row.row-index = omega (arith, c.loop-row-test.false) in
    let all_gained = whole (gained once) left c.loop-row.rows_gained c.loop-row.row-index refl upto c.loop-row.invariant.rows_gained in
    let all_lost = whole (lost once set) left c.loop-row.rows_lost c.loop-row.row-index refl upto c.loop-row.invariant.rows_lost in
    omega (arith, all_gained, all_lost, rows_after set left c.requires.set c.requires.left)

pub returns-clause-bytes : goal.returns-clause-bytes
returns-clause-bytes c =
    let set = c.args.set.now in
    let left = c.args.left.now in
    let upto : length left ≤ c.loop-row.row-index = omega (arith, c.loop-row-test.false) in
    let all_gained = whole (gained change_size) left c.loop-row.bytes_gained c.loop-row.row-index refl upto c.loop-row.invariant.bytes_gained in
    let all_lost = whole (lost change_size set) left c.loop-row.bytes_lost c.loop-row.row-index refl upto c.loop-row.invariant.bytes_lost in
    omega (arith, all_gained, all_lost, bytes_after set left c.requires.set c.requires.left, c.from.ensures, c.requires.size)
