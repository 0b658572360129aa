use Rattle.std.proofs.Common.{◌≡◌, map, refl, sym, ap, ◌∙◌, subst}
use Rattle.std.specs.Option.{option_copied}
use Rattle.std.proofs.lemmas.Result.{MatchResult-weaker}
use Rattle.geo_schema.specs.Indexes.{index_at}
use Rattle.geo_schema.specs.Schemas.{table_at}
use Rattle.row_source.specs.Sources.{images_by_index}
use Rattle.snap_view.specs.Snapshots.{rows_of}
use Rattle.snap_view.specs.Views.{Viewed, seen_rows}
use Rattle.snap_view.specs.inner.Laying.{all_within, leaving, writes_of}
use Rattle.snap_view.specs.inner.Naming.{entries_within}
use Rattle.snap_view.proofs.Named as named
use Rattle.snap_view.proofs.Seen.{left_within_rises, seen_in_index, within_rises}
use Rattle.snap_view.proofs.view.View.by_index.Goals as goal

pub laid_over-requires-clause-rows : goal.laid_over-requires-clause-rows
laid_over-requires-clause-rows c =
    within_rises (rows_of c.self.inside.snapshot.now) c.self.inside.own.now c.self.invariant.base_rises c.self.invariant.own_rises c.args.table c.args.range.now
    (index_at (table_at c.self.inside.schema.now c.args.table) c.args.index) _
    (ap (map (λ p. (p.0.now, p.1.now))) c.as_slice-2.ensures.value
    ∙ (c.in_ok-rows.ensures
    ∙ ((λ i. entries_within (c.index_of-index.ensures i) c.args.range.now (rows_of c.self.inside.snapshot.now) (c.as_slice.ensures.value i))
    ∙ named.all_within (index_at (table_at c.self.inside.schema.now c.args.table) c.args.index) c.args.range.now (rows_of c.self.inside.snapshot.now) c.args.table c.in_ok-names.names.items
    c.self.invariant.base_rises c.in_ok-names.ensures.names)))

pub laid_over-requires-clause-left : goal.laid_over-requires-clause-left
laid_over-requires-clause-left c =
    left_within_rises (rows_of c.self.inside.snapshot.now) c.self.inside.own.now c.self.invariant.base_rises c.self.invariant.own_rises c.args.table c.args.range.now
    (index_at (table_at c.self.inside.schema.now c.args.table) c.args.index) _
    (ap (map (λ p. (p.0.now, leaving (option_copied p.1)))) c.as_slice-3.ensures.value
    ∙ (c.in_ok-left.ensures
    ∙ (λ i. all_within (c.index_of-index.ensures i) c.args.range.now (writes_of c.args.table (own_is i)))))
  where
    own_is : c.args.self.now.own ≡ c.self.inside.own.now
    own_is = sym (ap (λ (v : Viewed). v.own) c.self.view_is)

pub returns : goal.returns
returns c =
    MatchResult-weaker c.laid_over.result c.laid_over.ensures
    (λ found is.
    subst (λ (v : Viewed). map (λ image. image.now) found.items ≡ images_by_index v.tables c.args.table c.args.index c.args.range.now (seen_rows v)) c.self.view_is
    (is
    ∙ seen_in_index (rows_of c.self.inside.snapshot.now) c.self.inside.own.now c.self.invariant.base_rises c.self.invariant.own_rises c.args.table c.args.range.now
    (index_at (table_at c.self.inside.schema.now c.args.table) c.args.index) c.self.inside.schema.now c.args.index refl _ _
    (ap (map (λ p. (p.0.now, p.1.now))) c.as_slice-2.ensures.value
    ∙ (c.in_ok-rows.ensures
    ∙ ((λ i. entries_within (c.index_of-index.ensures i) c.args.range.now (rows_of c.self.inside.snapshot.now) (c.as_slice.ensures.value i))
    ∙ named.all_within (index_at (table_at c.self.inside.schema.now c.args.table) c.args.index) c.args.range.now (rows_of c.self.inside.snapshot.now) c.args.table c.in_ok-names.names.items
    c.self.invariant.base_rises c.in_ok-names.ensures.names)))
    (ap (map (λ p. (p.0.now, leaving (option_copied p.1)))) c.as_slice-3.ensures.value
    ∙ (c.in_ok-left.ensures
    ∙ (λ i. all_within (c.index_of-index.ensures i) c.args.range.now (writes_of c.args.table (own_is i)))))))
    (λ e none. none)
  where
    own_is : c.args.self.now.own ≡ c.self.inside.own.now
    own_is = sym (ap (λ (v : Viewed). v.own) c.self.view_is)
