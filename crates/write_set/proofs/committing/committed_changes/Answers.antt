use Rattle.std.proofs.Common.{length, map, sym, ap, ◌∙◌}
use Rattle.std.proofs.lemmas.List.{length-map}
use Rattle.std.proofs.lemmas.Result.{MatchResult-weaker}
use Rattle.write_set.specs.inner.Gathering.{changes_among}
use Rattle.write_set.proofs.Gathering.{gathered, as_many}
use Rattle.write_set.proofs.committing.committed_changes.Goals as goal

pub changes_among-requires : goal.changes_among-requires
changes_among-requires c =
    c.requires
    ∙ as_many (map (λ b. b.now) c.args.batches.now)
    ∙ sym (ap length c.in_ok-candidates.ensures)
    ∙ length-map c.in_ok-candidates.candidates.items (λ c. c.now)
    ∙ sym (ap length c.as_slice.ensures.value)

pub returns : goal.returns
returns c =
    MatchResult-weaker c.changes_among.result c.changes_among.ensures
    (λ changes is.
    is
    ∙ ap (λ all. changes_among (map (λ c. c.now) all) c.args.outcomes.now) c.as_slice.ensures.value
    ∙ ap (λ all. changes_among all c.args.outcomes.now) c.in_ok-candidates.ensures
    ∙ sym (gathered (map (λ b. b.now) c.args.batches.now) c.args.outcomes.now))
    (λ e none. none)
