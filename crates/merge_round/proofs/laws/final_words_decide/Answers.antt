use Rattle.std.proofs.Common.{arith}
use Rattle.write_set.specs.Journal.{candidates_of}
use Rattle.merge_round.proofs.Finals.{finals_decide}
use Rattle.merge_round.proofs.Lawful.{batch_claims}
use Rattle.merge_round.proofs.laws.final_words_decide.Goals as goal

pub returns-clause-claims : goal.returns-clause-claims
returns-clause-claims c = finals_decide

pub returns-clause-batches : goal.returns-clause-batches
returns-clause-batches c = λ last epoch batches lawful few below. finals_decide last (candidates_of batches) (batch_claims 0 epoch batches lawful (omega arith) below)
