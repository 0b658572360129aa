use Rattle.std.proofs.Common.{◌≡◌, map, ap, ◌∙◌, subst}
use Rattle.std.specs.Option.{option_copied}
use Rattle.std.proofs.lemmas.Result.{MatchResult-weaker}
use Rattle.geo_schema.specs.declared.range.Edge.TheVariants.{Open}
use Rattle.page_map.specs.Borders.{pairs_between}
use Rattle.snap_view.specs.Views.{Viewed}
use Rattle.snap_view.specs.inner.Edges.{is_before_high, is_before_low}
use Rattle.snap_view.specs.inner.Laying.{all_within, alterations, leaving, writes_of}
use Rattle.snap_view.proofs.Seen.{left_of_table}
use Rattle.snap_view.proofs.view.View.left_in.Goals as goal

pub returns : goal.returns
returns c =
    MatchResult-weaker c.left_by_index.result c.left_by_index.ensures
    (λ left is.
    subst (λ (v : Viewed). map (λ p. (p.0.now, leaving (option_copied p.1))) left.items ≡ all_within c.args.index.now c.args.range.now (writes_of c.args.table v.own)) c.self.view_is
    (left_of_table c.self.inside.own.now c.args.table c.args.index.now c.args.range.now _ _
    (ap (map (λ p. (p.0.now, leaving (option_copied p.1)))) c.as_slice.ensures.value
    ∙ (c.in_ok-left.ensures
    ∙ ap alterations (c.writes_between.ensures ∙ ap (pairs_between (is_before_low c.args.table Open) (is_before_high c.args.table Open)) c.changes.ensures.value)))
    is))
    (λ e none. none)
