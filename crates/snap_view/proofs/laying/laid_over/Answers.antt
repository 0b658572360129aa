use Rattle.std.proofs.Common.{◌≡◌, ◌++◌, ◌∷◌, [], map, append-nil, sym, ap, ◌∙◌}
use Rattle.std.specs.Option.{option_copied}
use Rattle.std.proofs.lemmas.List.{map-append}
use Rattle.row_source.specs.Sources.{listed}
use Rattle.snap_view.specs.inner.Laying.{leaving}
use Rattle.snap_view.proofs.Merged.{write_laid}
use Rattle.snap_view.proofs.Places.{seen_from}
use Rattle.snap_view.proofs.laying.laid_over.Goals as goal
use Rattle.snap_view.proofs.laying.laid_over.Goals.{in-Some+in_ok-push, in_default}

pub loop-write-preserved : goal.loop-write-preserved
loop-write-preserved c = record {
  within = c.place_behind-place.ensures.within;
  all =
      write_laid (map (λ p. (p.0.now, p.1.now)) c.args.rows.now) (map (λ p. (p.0.now, leaving (option_copied p.1))) c.args.left.now) c.requires.rows c.requires.left
      c.loop-write.place c.loop-write.write-index _ (map (λ image. image.now) c.loop-write.found.items) c.loop-write.invariant.all
      c.write-item.result.0.now (option_copied c.write-item.result.1)
      (seen_from (λ p. (p.0.now, leaving (option_copied p.1))) c.args.left.now c.loop-write.write-index c.write-item.result c.loop-write-test.true c.write-item.is)
      c.in_ok-place.place c.place_behind-place.result (map (λ image. image.now) c.add_below.new.found.items) (map (λ image. image.now) c.match-write.found.items)
      c.in_ok-place.ensures.rest c.in_ok-place.ensures.from c.place_behind-place.ensures.rest added;
}
  where
    added : map (λ image. image.now) c.match-write.found.items ≡ map (λ image. image.now) c.add_below.new.found.items ++ listed (option_copied c.write-item.result.1)
    added = elim c.match-write.branch [
      | in-Some+in_ok-push w ↦
          ap (λ v. map (λ image. image.now) v.items) w.found-is
          ∙ (ap (map (λ image. image.now)) w.in_ok-push.ensures.items
          ∙ (map-append (λ image. image.now) c.add_below.new.found.items (w.in-Some.image ∷ [])
          ∙ ap (λ o. map (λ image. image.now) c.add_below.new.found.items ++ listed (option_copied o)) (sym w.in-Some.is)))
      | in_default w ↦
          ap (λ v. map (λ image. image.now) v.items) w.found-is
          ∙ (sym (append-nil (map (λ image. image.now) c.add_below.new.found.items))
          ∙ ap (λ o. map (λ image. image.now) c.add_below.new.found.items ++ listed (option_copied o)) (sym w.in_default.is))
    ]
