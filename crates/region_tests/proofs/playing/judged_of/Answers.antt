use Rattle.std.proofs.Common.{◌≡◌, ℕ, List, ap₂}
use Rattle.geo_base.specs.declared.outcome.Outcome.{Outcome}
use Rattle.merge_round.specs.Gathers.{Decided}
use Rattle.merge_round.specs.Seats.{round_of}
use Rattle.region_tests.proofs.playing.judged_of.Goals as goal

pub returns : goal.returns
returns c = (
  round_of c.in_ok-round.round,
  record { epoch = c.in_ok-round.ensures.epoch; all = c.in_ok-round.ensures.all; last = c.in_ok-round.ensures.last },
  decided _ _ _ c.in_ok-finish.ensures.epoch c.in_ok-finish.ensures.outcomes,
)
  where
    decided : (judged : Decided) (epoch : ℕ) (outcomes : List Outcome) → judged.epoch ≡ epoch → judged.outcomes ≡ outcomes → judged ≡ record { epoch = epoch; outcomes = outcomes }
    decided judged epoch outcomes e o = ap₂ (λ (n : ℕ) (os : List Outcome). record { epoch = n; outcomes = os }) e o
