use Rattle.std.proofs.Common.{◌≡◌, ◌++◌, ◌∷◌, [], rules, true, false, map, get_or, sym, ap, ◌∙◌, arith}
use Rattle.std.specs.Ordering.{is_lt}
use Rattle.std.proofs.lemmas.List.{map-append}
use Rattle.geo_base.specs.Order.{row_cmp}
use Rattle.snap_view.proofs.Merged.{one_below}
use Rattle.snap_view.proofs.Places.{same_at, seen_from, starts_at}
use Rattle.snap_view.proofs.laying.add_below.Goals as goal

pub loop-next-preserved : goal.loop-next-preserved
loop-next-preserved c =
    let below : is_lt (row_cmp c.index-rows-next.result.0.now c.args.row.now) ≡ true = search rules in
    let same : get_or c.args.rows.now c.loop-next.next c.index-rows-next-in-loop-next.result ≡ c.index-rows-next.result =
    same_at c.args.rows.now c.loop-next.next c.index-rows-next-in-loop-next.result c.index-rows-next.result c.loop-next-test.true ∙ sym c.index-rows-next.is in
    record {
      within = omega (arith, c.loop-next-test.true);
      rest = λ own from.
          one_below (map (λ p. (p.0.now, p.1.now)) c.args.rows.now) c.loop-next.next (c.index-rows-next.result.0.now, c.index-rows-next.result.1.now) c.args.row.now own
          (seen_from (λ p. (p.0.now, p.1.now)) c.args.rows.now c.loop-next.next c.index-rows-next.result c.loop-next-test.true c.index-rows-next.is) below from
          (map (λ image. image.now) c.loop-next.found.items) (map (λ image. image.now) c.push.new.self.items)
          (ap (map (λ image. image.now)) c.in_ok-push.ensures.items
          ∙ (map-append (λ image. image.now) c.loop-next.found.items ((get_or c.args.rows.now c.loop-next.next c.index-rows-next-in-loop-next.result).1 ∷ [])
          ∙ ap (λ x. map (λ image. image.now) c.loop-next.found.items ++ (x.1.now ∷ [])) same))
          ∙ c.loop-next.invariant.rest own from;
    }

pub returns-else-is_lt-clause-from : goal.returns-else-is_lt-clause-from
returns-else-is_lt-clause-from c =
    let above : is_lt (row_cmp c.index-rows-next.result.0.now c.args.row.now) ≡ false = search rules in
    starts_at _ c.args.rows.now c.loop-next.next c.args.row.now c.index-rows-next.result c.loop-next-test.true c.index-rows-next.is above
