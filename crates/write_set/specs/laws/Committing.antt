-- Laws: the outcomes that are an epoch's verdicts say to commit just those candidates that commit.
use Rattle.std.proofs.Common.{◌≡◌, ℕ, ◌+◌, Bool, true, false, cond, List, [], ◌∷◌, length, map, filter, refl, ap}
use Rattle.geo_base.specs.declared.outcome.Outcome.{Outcome}
use Rattle.write_set.specs.Journal.{Placed, Epochs}
use Rattle.write_set.specs.Merge.{committed, committed_among, is_committed, last_change, verdict_of, verdicts}

judged_among : (f : Placed → Outcome) (all : List Placed) → committed_among all (map f all) ≡ filter (λ c. is_committed (f c)) all
judged_among f [] = refl
judged_among f (c ∷ more) = by (is_committed (f c)) (judged_among f more)
  where
    by : (b : Bool) → committed_among more (map f more) ≡ filter (λ d. is_committed (f d)) more →
        cond b (c ∷ committed_among more (map f more)) (committed_among more (map f more))
        ≡ cond b (c ∷ filter (λ d. is_committed (f d)) more) (filter (λ d. is_committed (f d)) more)
    by true rest = ap (λ cs. c ∷ cs) rest
    by false rest = rest

-- the candidates whose verdict is that they commit are those that commit
pub verdicts_commit : (all : List Placed) (older : Epochs) → committed_among all (verdicts (all ∷ older)) ≡ committed (all ∷ older)
verdicts_commit all older = judged_among (verdict_of (last_change older) (suc_length older) all) all
  where
    suc_length : Epochs → ℕ
    suc_length epochs = length epochs + 1
