use Rattle.geo_base.specs.laws.Winning.{beats_irreflexive, beats_transitive, beats_total, beats_word}
use Rattle.geo_base.proofs.claim.winning_is_an_order.Goals as goal

pub returns-clause-irreflexive : goal.returns-clause-irreflexive
returns-clause-irreflexive c = beats_irreflexive

pub returns-clause-transitive : goal.returns-clause-transitive
returns-clause-transitive c = beats_transitive

pub returns-clause-total : goal.returns-clause-total
returns-clause-total c = beats_total

pub returns-clause-by_word : goal.returns-clause-by_word
returns-clause-by_word c = beats_word
