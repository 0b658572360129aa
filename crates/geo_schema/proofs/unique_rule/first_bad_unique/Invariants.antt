-- no unique so far breaks a rule
use Rattle.std.proofs.Common.{◌≡◌, ◌-◌, ◌≤◌, length}
use Rattle.geo_schema.specs.declared.limits.TheConstants.{MAX_UNIQUES}
use Rattle.geo_schema.specs.inner.Uniques.{is_bad_unique, first_place}
use Rattle.geo_schema.proofs.unique_rule.first_bad_unique.Given as goal

abbrev pub invariant-loop-place : goal.invariant-loop-place
invariant-loop-place l = record {
  few : l.place ≤ MAX_UNIQUES;
  so_far : first_place (is_bad_unique l.tables l.uniques) 0 (length l.uniques) ≡ first_place (is_bad_unique l.tables l.uniques) l.place (length l.uniques - l.place);
}
