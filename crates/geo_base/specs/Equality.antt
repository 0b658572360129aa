-- The equality that `==` tests on names of candidates and on outcomes.
use Rattle.std.specs.Prelude.{Bool}
use Rattle.geo_base.specs.declared.numbers.CandId.{CandId}
use Rattle.geo_base.specs.declared.outcome.Outcome.{Outcome}
use Rattle.geo_base.specs.contracts.numbers.CandIdPartialEq.TheImpl as candidate
use Rattle.geo_base.specs.contracts.outcome.OutcomePartialEq.TheImpl as outcome

-- two names of candidates are one
abbrev pub candidate_eq : CandId → CandId → Bool
candidate_eq = candidate.ghosts.eq

-- two outcomes are one
abbrev pub outcome_eq : Outcome → Outcome → Bool
outcome_eq = outcome.ghosts.eq
