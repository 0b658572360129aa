use Rattle.std.proofs.Common.{rules, refl, arith}
use Rattle.std.proofs.lemmas.Fn.{always_returns_same}
use Rattle.snap_view.specs.inner.Edges.{is_before_high, is_before_low}
use Rattle.snap_view.proofs.Between.{high_border, low_border, rising_pairs}
use Rattle.snap_view.proofs.Parted.{cut_out, none_between, parted, point_is_border}
use Rattle.snap_view.proofs.own_writes.writes_between.Goals as goal

pub returns-then-first-last : goal.returns-then-first-last
returns-then-first-last c =
    let rising = rising_pairs c.args.own.now c.requires in
    let low = low_border c.args.low.now.table c.args.low.now.edge.now c.args.own.now rising in
    let high = high_border c.args.high.now.table c.args.high.now.edge.now c.args.own.now rising in
    let first = c.partition_point-first.ensures.partitioned (λ w. is_before_low c.args.low.now.table c.args.low.now.edge.now w.0) (always_returns_same _ _ _ (λ a r f called. search rules))
    (parted (is_before_low c.args.low.now.table c.args.low.now.edge.now) c.args.own.now low) in
    let last = c.partition_point-last.ensures.partitioned (λ w. is_before_high c.args.high.now.table c.args.high.now.edge.now w.0) (always_returns_same _ _ _ (λ a r f called. search rules))
    (parted (is_before_high c.args.high.now.table c.args.high.now.edge.now) c.args.own.now high) in
    cut_out (is_before_low c.args.low.now.table c.args.low.now.edge.now) (is_before_high c.args.high.now.table c.args.high.now.edge.now) c.args.own.now low high
    c.partition_point-first.result c.partition_point-last.result
    (point_is_border (is_before_low c.args.low.now.table c.args.low.now.edge.now) c.args.own.now c.partition_point-first.result c.partition_point-first.ensures.bound first)
    (point_is_border (is_before_high c.args.high.now.table c.args.high.now.edge.now) c.args.own.now c.partition_point-last.result c.partition_point-last.ensures.bound last)
    _ refl

pub returns-else-first-last : goal.returns-else-first-last
returns-else-first-last c =
    let rising = rising_pairs c.args.own.now c.requires in
    let low = low_border c.args.low.now.table c.args.low.now.edge.now c.args.own.now rising in
    let high = high_border c.args.high.now.table c.args.high.now.edge.now c.args.own.now rising in
    let first = c.partition_point-first.ensures.partitioned (λ w. is_before_low c.args.low.now.table c.args.low.now.edge.now w.0) (always_returns_same _ _ _ (λ a r f called. search rules))
    (parted (is_before_low c.args.low.now.table c.args.low.now.edge.now) c.args.own.now low) in
    let last = c.partition_point-last.ensures.partitioned (λ w. is_before_high c.args.high.now.table c.args.high.now.edge.now w.0) (always_returns_same _ _ _ (λ a r f called. search rules))
    (parted (is_before_high c.args.high.now.table c.args.high.now.edge.now) c.args.own.now high) in
    none_between (is_before_low c.args.low.now.table c.args.low.now.edge.now) (is_before_high c.args.high.now.table c.args.high.now.edge.now) c.args.own.now low high
    c.partition_point-first.result c.partition_point-last.result
    (point_is_border (is_before_low c.args.low.now.table c.args.low.now.edge.now) c.args.own.now c.partition_point-first.result c.partition_point-first.ensures.bound first)
    (point_is_border (is_before_high c.args.high.now.table c.args.high.now.edge.now) c.args.own.now c.partition_point-last.result c.partition_point-last.ensures.bound last)
    (omega (arith, c.if-first-last.false))
