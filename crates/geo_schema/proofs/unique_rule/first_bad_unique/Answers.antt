use Rattle.std.proofs.Common.{◌∙◌, length, sym}
use Rattle.geo_schema.specs.inner.Uniques.{is_bad_unique}
use Rattle.geo_schema.proofs.Search.{found_here, goes_on, seen_bad, seen_good, few_here}
use Rattle.geo_schema.proofs.unique_rule.first_bad_unique.Goals as goal

pub returns-then-not-is_unique-clause-place : goal.returns-then-not-is_unique-clause-place
returns-then-not-is_unique-clause-place c =
    sym (c.loop-place.invariant.so_far
    ∙ found_here (is_bad_unique c.args.tables.now c.args.uniques.now) c.loop-place.place (length c.args.uniques.now) c.loop-place-test.true
    (seen_bad c.args.tables.now c.args.uniques.now c.loop-place.place c.index-uniques-place.result c.is_unique.result c.loop-place-test.true c.index-uniques-place.is c.is_unique.ensures c.if-not-is_unique.true))

pub loop-place-preserved : goal.loop-place-preserved
loop-place-preserved c = record {
  few = few_here c.args.tables.now c.args.uniques.now c.loop-place.place c.index-uniques-place.result c.is_unique.result c.loop-place-test.true c.is_unique.ensures c.if-not-is_unique.false;
  so_far =
      c.loop-place.invariant.so_far
      ∙ goes_on (is_bad_unique c.args.tables.now c.args.uniques.now) c.loop-place.place (length c.args.uniques.now) c.loop-place-test.true
      (seen_good c.args.tables.now c.args.uniques.now c.loop-place.place c.index-uniques-place.result c.is_unique.result c.loop-place-test.true c.index-uniques-place.is c.is_unique.ensures c.if-not-is_unique.false);
}
