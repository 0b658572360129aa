use Rattle.std.proofs.Common.{◌≡◌, ◌∙◌, ◌<◌, ap, arith, length, subst}
use Rattle.geo_base.specs.declared.limits.TheConstants.{MAX_SET_ROWS, MAX_SET_BYTES}
use Rattle.write_set.specs.declared.set_fault.SetFault.TheVariants.{TooManyRows, TooLarge}
use Rattle.write_set.specs.Bounds.{AreFewRows}
use Rattle.write_set.specs.Net.{HasNetCause}
use Rattle.write_set.specs.Sizes.{set_size}
use Rattle.write_set.specs.inner.Nets.{left_with_all, all_replaced}
use Rattle.write_set.proofs.Lefts.{replaced_cause}
use Rattle.write_set.proofs.set.WriteSet.apply.Goals as goal

-- the extent that was worked out is that of the net

pub returns-then-extent-clause-fault : goal.returns-then-extent-clause-fault
returns-then-extent-clause-fault c =
    let set = c.self.inside.changes.items in
    let left = c.in_ok-left.left.items in
    let changes = c.args.changes.items in
    let is : left ≡ left_with_all set _ changes = c.in_ok-left.ensures.left ∙ ap (λ s. left_with_all s _ changes) c.as_slice.ensures.value in
    let rows : c.extent_after-extent.result.rows ≡ length (all_replaced set left) =
    c.extent_after-extent.ensures.rows ∙ (λ i. length (all_replaced (c.as_slice-2.ensures.value i) (c.as_slice-3.ensures.value i))) in
    let many : MAX_SET_ROWS < length (all_replaced set left) = omega (arith, rows, c.if-extent.true) in
    subst (λ s. HasNetCause s changes TooManyRows) c.self.view_is (replaced_cause set changes left TooManyRows c.self.invariant.0.rising is many)

pub returns-then-extent-from-clause-fault : goal.returns-then-extent-from-clause-fault
returns-then-extent-from-clause-fault c =
    let set = c.self.inside.changes.items in
    let left = c.in_ok-left.left.items in
    let changes = c.args.changes.items in
    let is : left ≡ left_with_all set _ changes = c.in_ok-left.ensures.left ∙ ap (λ s. left_with_all s _ changes) c.as_slice.ensures.value in
    let rows : c.extent_after-extent.result.rows ≡ length (all_replaced set left) =
    c.extent_after-extent.ensures.rows ∙ (λ i. length (all_replaced (c.as_slice-2.ensures.value i) (c.as_slice-3.ensures.value i))) in
    let bytes : c.extent_after-extent.result.bytes ≡ set_size (all_replaced set left) =
    c.extent_after-extent.ensures.bytes ∙ (λ i. set_size (all_replaced (c.as_slice-2.ensures.value i) (c.as_slice-3.ensures.value i))) in
    let few : AreFewRows (length (all_replaced set left)) = omega (arith, rows, c.if-extent.false) in
    let large : MAX_SET_BYTES < set_size (all_replaced set left) = omega (arith, bytes, c.from.ensures, c.if-extent-from.true) in
    subst (λ s. HasNetCause s changes TooLarge) c.self.view_is (replaced_cause set changes left TooLarge c.self.invariant.0.rising is (few, large))
