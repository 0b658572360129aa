use Rattle.std.proofs.Common.{◌≡◌, map, ap, ◌∙◌, subst}
use Rattle.std.specs.Option.{option_copied}
use Rattle.std.proofs.lemmas.Result.{MatchResult-weaker}
use Rattle.row_source.specs.Sources.{images_by_key}
use Rattle.snap_view.specs.Snapshots.{rows_of}
use Rattle.snap_view.specs.Views.{Viewed, seen_rows}
use Rattle.snap_view.specs.inner.Laying.{alterations, leaving}
use Rattle.snap_view.proofs.Seen.{in_range, left_rises, range_rises, seen_by_key}
use Rattle.snap_view.proofs.view.View.by_key.Goals as goal

pub laid_over-requires-clause-rows : goal.laid_over-requires-clause-rows
laid_over-requires-clause-rows c =
    range_rises (rows_of c.self.inside.snapshot.now) c.self.inside.own.now c.self.invariant.base_rises c.self.invariant.own_rises c.args.table c.args.range.now _
    (ap (map (λ p. (p.0.now, p.1.now))) c.as_slice.ensures.value ∙ c.in_ok-rows.ensures)

pub laid_over-requires-clause-left : goal.laid_over-requires-clause-left
laid_over-requires-clause-left c =
    left_rises (rows_of c.self.inside.snapshot.now) c.self.inside.own.now c.self.invariant.base_rises c.self.invariant.own_rises c.args.table c.args.range.now _
    (ap (map (λ p. (p.0.now, leaving (option_copied p.1)))) c.as_slice-2.ensures.value
    ∙ (c.in_ok-left.ensures
    ∙ ap alterations
    (c.writes_between.ensures
    ∙ ap (in_range (rows_of c.self.inside.snapshot.now) c.self.inside.own.now c.self.invariant.base_rises c.self.invariant.own_rises c.args.table c.args.range.now) c.changes.ensures.value)))

pub returns : goal.returns
returns c =
    MatchResult-weaker c.laid_over.result c.laid_over.ensures
    (λ found is.
    subst (λ (v : Viewed). map (λ image. image.now) found.items ≡ images_by_key c.args.table c.args.range.now (seen_rows v)) c.self.view_is
    (is
    ∙ seen_by_key (rows_of c.self.inside.snapshot.now) c.self.inside.own.now c.self.invariant.base_rises c.self.invariant.own_rises c.args.table c.args.range.now _ _
    (ap (map (λ p. (p.0.now, p.1.now))) c.as_slice.ensures.value ∙ c.in_ok-rows.ensures)
    (ap (map (λ p. (p.0.now, leaving (option_copied p.1)))) c.as_slice-2.ensures.value
    ∙ (c.in_ok-left.ensures
    ∙ ap alterations
    (c.writes_between.ensures
    ∙ ap (in_range (rows_of c.self.inside.snapshot.now) c.self.inside.own.now c.self.invariant.base_rises c.self.invariant.own_rises c.args.table c.args.range.now) c.changes.ensures.value)))))
    (λ e none. none)
